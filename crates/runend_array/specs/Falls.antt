-- The columns inside a run column and inside a column of lists are smaller.
use Rattle.std.specs.Prelude.{◌+◌, ◌≤◌, max, ◌≡◌, refl}
use Rattle.std.proofs.Common.{arith}
use Rattle.std.specs.declared.alloc.Allocator.{Ghosts}
use Rattle.runend_array.specs.Lists.{index_depth, validity_depth}
use Rattle.runend_array.specs.Column.{Column, OfLeaf, OfConstant, OfLists, OfRuns, depth, IsPlainEnds, IsPlainIndex, IsIndex, IsPlainTruths, index_of}
use Rattle.runend_array.specs.Array.{column_of, validity_of, IsRowValidity}
use Rattle.runend_array.specs.declared.array_ref.ArrayRef.{ArrayRef}
use Rattle.runend_array.specs.declared.array_ref.ArrayRef.TheVariants.{Primitive, Bool, Decimal, VarBinView, ListView, Constant, RunEnd}
use Rattle.runend_array.specs.declared.validities.row_validity.RowValidity.{RowValidity}
use Rattle.runend_array.specs.declared.validities.row_validity.RowValidity.TheVariants.{NonNullable, AllValid, AllInvalid, Bits, Runs}
use Rattle.runend_array.specs.declared.array.RunEndArray.TheDeep.{deep-ArrayRef, deep-RowValidity}

-- the levels below an array are counted by its form
pub deep_le-depth : {A : Type 0} (g : Ghosts A) (a : ArrayRef A) → deep-ArrayRef A g a ≤ depth (column_of a) + 1
deep_le-depth g (Primitive p) = omega arith
deep_le-depth g (Bool p) = omega arith
deep_le-depth g (Decimal p) = omega arith
deep_le-depth g (VarBinView p) = omega arith
deep_le-depth g (ListView b) = omega arith
deep_le-depth g (Constant c) = omega arith
deep_le-depth g (RunEnd b) = omega arith

-- a column of ends has no level below it
pub deep-plain : {A : Type 0} (g : Ghosts A) (a : ArrayRef A) → IsPlainEnds (column_of a) → deep-ArrayRef A g a ≡ 0
deep-plain g (Primitive p) h = refl
deep-plain g (Bool p) h = refl
deep-plain g (Decimal p) h = refl
deep-plain g (VarBinView p) h = refl
deep-plain g (ListView b) h = absurd h
deep-plain g (Constant c) h = absurd h
deep-plain g (RunEnd b) h = absurd h

-- both parts of a run column are smaller than it
pub deep_le-parts : {A : Type 0} (g : Ghosts A) (ends values : ArrayRef A) → IsPlainEnds (column_of ends) → max (deep-ArrayRef A g ends) (max (deep-ArrayRef A g values) 0) ≤ depth (column_of values) + 1
deep_le-parts g ends values h = omega (arith, deep-plain g ends h, deep_le-depth g values)

-- flat numbers and flat flags have no level below them
depth-index : (c : Column) → IsPlainIndex c → depth c ≡ 0
depth-index (OfLeaf leaf) h = refl
depth-index (OfConstant constant) h = absurd h
depth-index (OfLists lists) h = absurd h
depth-index (OfRuns ends_type ends values offset count) h = absurd h

depth-truths : (c : Column) → IsPlainTruths c → depth c ≡ 0
depth-truths (OfLeaf leaf) h = refl
depth-truths (OfConstant constant) h = absurd h
depth-truths (OfLists lists) h = absurd h
depth-truths (OfRuns ends_type ends values offset count) h = absurd h

-- the levels of numbers, and of a validity
deep-index : {A : Type 0} (g : Ghosts A) (a : ArrayRef A) → IsIndex (column_of a) → deep-ArrayRef A g a ≤ index_depth (index_of (column_of a))
deep-index g (Primitive p) h = omega arith
deep-index g (Bool p) h = omega arith
deep-index g (Decimal p) h = omega arith
deep-index g (VarBinView p) h = omega arith
deep-index g (ListView b) h = absurd h
deep-index g (Constant c) h = absurd h
deep-index g (RunEnd b) h = omega (arith, depth-index b.value.values h)

deep-validity : {A : Type 0} (g : Ghosts A) (v : RowValidity A) → IsRowValidity v → deep-RowValidity A g v ≤ validity_depth (validity_of v)
deep-validity g NonNullable h = omega arith
deep-validity g AllValid h = omega arith
deep-validity g AllInvalid h = omega arith
deep-validity g (Bits bits) h = omega arith
deep-validity g (Runs b) h = omega (arith, depth-truths b.value.values h)

-- the parts of a column of lists are smaller than it
pub deep_le-list_parts : {A : Type 0} (g : Ghosts A) (offsets sizes : ArrayRef A) (validity : RowValidity A) → IsIndex (column_of offsets) → IsIndex (column_of sizes) → IsRowValidity validity
    → max (deep-ArrayRef A g offsets) (max (deep-ArrayRef A g sizes) (max (deep-RowValidity A g validity) 0)) ≤ max (index_depth (index_of (column_of offsets))) (max (index_depth (index_of (column_of sizes))) (validity_depth (validity_of validity)))
deep_le-list_parts g offsets sizes validity a b c = omega (arith, deep-index g offsets a, deep-index g sizes b, deep-validity g validity c)
