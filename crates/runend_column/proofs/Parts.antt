-- The bytes of the parts of a column: ends, offsets, sizes and flags are flat, and have no validity of their own.
use Rattle.std.proofs.Common.{◌≡◌, ◌*◌, ℕ, length, map, refl, arith}
use Rattle.std.specs.Prelude.{unsigned_abs}
use Rattle.std.proofs.lemmas.List.{length-map}
use Rattle.column_base.specs.declared.dtype.PType.{PType}
use Rattle.column_base.specs.declared.dtype.PType.TheVariants.{U64}
use Rattle.column_base.specs.declared.dtype.Nullability.{Nullability}
use Rattle.column_base.specs.declared.dtype.Nullability.TheVariants.{NonNullable}
use Rattle.column_base.specs.declared.dtype.DType.{DType}
use Rattle.column_base.specs.declared.dtype.DType.TheVariants as column
use Rattle.column_base.specs.ValidityForm.{ValidityForm, NeverNull, NoneNull, AllNull, ByBits, nullability_in}
use Rattle.column_core.specs.declared.varbinview.VarBinKind.{VarBinKind}
use Rattle.column_core.specs.declared.varbinview.VarBinKind.TheVariants.{Utf8, Binary}
use Rattle.column_core.specs.VarBinForm.{kind_dtype}
use Rattle.column_core.specs.Leaf.{Leaf, OfNumbers, OfTruths, OfDecimals, OfVarBins}
use Rattle.runend_windows.specs.Ends.{IsEndsType}
use Rattle.runend_array.specs.Column.{Column, OfLeaf, OfConstant, OfLists, OfRuns, IsLeaf, IsPlainEnds, IsPlainIndex, IsPlainTruths, end_numbers, end_ptype, truths_of}
use Rattle.runend_column.specs.BytesUsed.{bits_bytes, column_bytes, validity_bytes, width_of}

-- a type without null has no bits of validity
ends_type-bytes : (t : PType) (v : ValidityForm) → IsEndsType (column.Primitive t (nullability_in v)) → validity_bytes v ≡ 0
ends_type-bytes t NeverNull h = refl
ends_type-bytes t NoneNull h = absurd h
ends_type-bytes t AllNull h = absurd h
ends_type-bytes t (ByBits bits) h = absurd h

never_null-bytes : (v : ValidityForm) → nullability_in v ≡ NonNullable → validity_bytes v ≡ 0
never_null-bytes NeverNull h = refl
never_null-bytes NoneNull h = cc
never_null-bytes AllNull h = cc
never_null-bytes (ByBits bits) h = cc

-- texts and bytes are neither ends nor numbers nor booleans
kind-no_ends : (kind : VarBinKind) (n : Nullability) → ¬ IsEndsType (kind_dtype kind n)
kind-no_ends Utf8 n e = e
kind-no_ends Binary n e = e

kind-no_index : (kind : VarBinKind) (n : Nullability) → ¬ (kind_dtype kind n ≡ column.Primitive U64 NonNullable)
kind-no_index Utf8 n e = cc
kind-no_index Binary n e = cc

kind-no_truths : (kind : VarBinKind) (n : Nullability) → ¬ (kind_dtype kind n ≡ column.Bool NonNullable)
kind-no_truths Utf8 n e = cc
kind-no_truths Binary n e = cc

-- ends are flat, and so are numbers and flags of lists
pub ends_are_leaf : (c : Column) → IsPlainEnds c → IsLeaf c
ends_are_leaf (OfLeaf leaf) h = tt
ends_are_leaf (OfConstant constant) h = h
ends_are_leaf (OfLists lists) h = h
ends_are_leaf (OfRuns ends_type ends values offset count) h = h

pub index_is_leaf : (c : Column) → IsPlainIndex c → IsLeaf c
index_is_leaf (OfLeaf leaf) h = tt
index_is_leaf (OfConstant constant) h = h
index_is_leaf (OfLists lists) h = h
index_is_leaf (OfRuns ends_type ends values offset count) h = h

pub truths_are_leaf : (c : Column) → IsPlainTruths c → IsLeaf c
truths_are_leaf (OfLeaf leaf) h = tt
truths_are_leaf (OfConstant constant) h = h
truths_are_leaf (OfLists lists) h = h
truths_are_leaf (OfRuns ends_type ends values offset count) h = h

-- the bytes of ends
pub ends_bytes : (c : Column) → IsPlainEnds c → column_bytes c ≡ length (end_numbers c) * width_of (end_ptype c)
ends_bytes (OfLeaf (OfNumbers form)) h =
    let none = ends_type-bytes form.ptype form.validity h in
    let count : length (map unsigned_abs form.numbers) ≡ length form.numbers = length-map form.numbers unsigned_abs in
    rw count (omega (arith, none))
ends_bytes (OfLeaf (OfTruths form)) h = absurd h
ends_bytes (OfLeaf (OfDecimals form)) h = absurd h
ends_bytes (OfLeaf (OfVarBins form)) h = absurd (kind-no_ends form.kind _ h)
ends_bytes (OfConstant constant) h = absurd h
ends_bytes (OfLists lists) h = absurd h
ends_bytes (OfRuns ends_type ends values offset count) h = absurd h

-- the bytes of flat offsets or sizes
pub plain_index_bytes : (c : Column) → IsPlainIndex c → column_bytes c ≡ length (end_numbers c) * 8
plain_index_bytes (OfLeaf (OfNumbers form)) h =
    let wide : form.ptype ≡ U64 = cc in
    let never : nullability_in form.validity ≡ NonNullable = cc in
    let none = never_null-bytes form.validity never in
    let count : length (map unsigned_abs form.numbers) ≡ length form.numbers = length-map form.numbers unsigned_abs in
    rw count (rw wide (omega (arith, none)))
plain_index_bytes (OfLeaf (OfTruths form)) h = cc
plain_index_bytes (OfLeaf (OfDecimals form)) h = cc
plain_index_bytes (OfLeaf (OfVarBins form)) h = absurd (kind-no_index form.kind _ h)
plain_index_bytes (OfConstant constant) h = absurd h
plain_index_bytes (OfLists lists) h = absurd h
plain_index_bytes (OfRuns ends_type ends values offset count) h = absurd h

-- the bytes of flat flags
pub truths_bytes : (c : Column) → IsPlainTruths c → column_bytes c ≡ bits_bytes (length (truths_of c))
truths_bytes (OfLeaf (OfNumbers form)) h = cc
truths_bytes (OfLeaf (OfTruths form)) h =
    let never : nullability_in form.validity ≡ NonNullable = cc in
    omega (arith, never_null-bytes form.validity never)
truths_bytes (OfLeaf (OfDecimals form)) h = cc
truths_bytes (OfLeaf (OfVarBins form)) h = absurd (kind-no_truths form.kind _ h)
truths_bytes (OfConstant constant) h = absurd h
truths_bytes (OfLists lists) h = absurd h
truths_bytes (OfRuns ends_type ends values offset count) h = absurd h
