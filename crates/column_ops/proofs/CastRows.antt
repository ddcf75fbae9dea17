-- Lemmas on rows that are cast.
use Rattle.std.proofs.Common.{◌≡◌, ◌∙◌, ◌≤◌, ℕ, ℤ, pos, List, [], ◌∷◌, Bool, true, false, Option, Some, None, length, map, take, refl, sym, ap, arith}
use Rattle.std.specs.Prelude.{◌&&◌, ◌||◌, not, slice_get, option_map}
use Rattle.std.specs.Option.{option_or}
use Rattle.std.proofs.lemmas.List.{length-map, take_all}
use Rattle.std.proofs.lemmas.Option.{slice_get-map}
use Rattle.column_base.specs.declared.dtype.PType.{PType}
use Rattle.column_base.specs.declared.dtype.Nullability.{Nullability}
use Rattle.column_base.specs.declared.dtype.Nullability.TheVariants.{NonNullable}
use Rattle.column_base.specs.declared.dtype.DType.{DType}
use Rattle.column_base.specs.declared.dtype.DType.TheVariants as column
use Rattle.column_base.specs.Types.{nullability_of, with_nullability}
use Rattle.column_base.specs.ValidityForm.{ValidityForm}
use Rattle.column_core.specs.Leaf.{OfNumbers, single_rows}
use Rattle.column_core.specs.PrimitiveForm.{PrimitiveForm, optional_numbers, primitive_rows, primitive_with}
use Rattle.column_core.specs.SameType.{same_dtype-decides}
use Rattle.column_core.specs.Value.{FlatValue, Number, Single}
use Rattle.column_core.proofs.OptionalRows.{primitive_rows-at, rows_within_numbers}
use Rattle.column_ops.specs.Cast.{can_cast, cast_row_fault, is_numbers, null_fault, null_row_fault}
use Rattle.column_ops.specs.Computed.{IsMade}
use Rattle.column_ops.specs.Fault.{first_fault}
use Rattle.column_ops.specs.Fill.{is_list, same_kind}
use Rattle.column_ops.specs.Written.{AreStoredAs}

-- the row of an optional number, as a value
pub single_number-at : (form : PrimitiveForm) (k : ℕ) (o : Option ℤ) → slice_get (optional_numbers form) k ≡ Some o
    → slice_get (single_rows (OfNumbers form)) k ≡ Some (option_map (λ (v : FlatValue). Single v) (option_map (λ (n : ℤ). Number n) o))
single_number-at form k o here =
    slice_get-map (option_map (λ (v : FlatValue). Single v)) (primitive_rows form) k
    ∙ ap (option_map (option_map (λ (v : FlatValue). Single v))) (primitive_rows-at form k o here)

-- each row of numbers has been passed
pub single_numbers_all : (form : PrimitiveForm) (k : ℕ) → length form.numbers ≤ k → take k (single_rows (OfNumbers form)) ≡ single_rows (OfNumbers form)
single_numbers_all form k all =
    let rows = length-map (primitive_rows form) (option_map (λ (v : FlatValue). Single v)) in
    take_all k (single_rows (OfNumbers form)) (omega (arith, rows, rows_within_numbers form))

-- written numbers are a column of these rows, in the type that was asked for
pub IsMade-cast_numbers : (ptype : PType) (rows : List (Option ℤ)) (wanted : Nullability) (numbers : List ℤ) (form : ValidityForm) → AreStoredAs (pos 0) rows wanted numbers form
    → IsMade (map (option_map Number) rows) (column.Primitive ptype wanted) (OfNumbers (primitive_with ptype numbers form))
IsMade-cast_numbers ptype rows wanted numbers form written = record {
  rows = ap (map (option_map (λ (n : ℤ). Number n))) written.shown;
  dtype = ap (column.Primitive ptype) written.nullability;
  computed = written.computed;
}

-- of rows whose values the type has, only null is a fault
pub first_fault-kept : {B : Type 0} (value : B → FlatValue) (dtype : DType) (rows : List (Option B)) → ((x : B) → cast_row_fault dtype (Some (Single (value x))) ≡ None)
    → first_fault (cast_row_fault dtype) (map (option_map (λ (v : FlatValue). Single v)) (map (option_map value) rows)) ≡ first_fault (null_row_fault (nullability_of dtype)) rows
first_fault-kept value dtype [] none = refl
first_fault-kept value dtype (None ∷ rows) none = ap (option_or (null_fault (nullability_of dtype))) (first_fault-kept value dtype rows none)
first_fault-kept value dtype (Some x ∷ rows) none =
    ap (λ f. option_or f (first_fault (cast_row_fault dtype) (map (option_map (λ (v : FlatValue). Single v)) (map (option_map value) rows)))) (none x)
    ∙ first_fault-kept value dtype rows none

-- mapped rows say too which rows are null
pub first_fault-mapped : {B C : Type 0} (f : B → C) (nullability : Nullability) (rows : List (Option B))
    → first_fault (null_row_fault nullability) (map (option_map f) rows) ≡ first_fault (null_row_fault nullability) rows
first_fault-mapped f nullability [] = refl
first_fault-mapped f nullability (None ∷ rows) = ap (option_or (null_fault nullability)) (first_fault-mapped f nullability rows)
first_fault-mapped f nullability (Some x ∷ rows) = first_fault-mapped f nullability rows

-- a type has its own nullability
own_nullability : (t : DType) → with_nullability t (nullability_of t) ≡ t
own_nullability (column.Bool n) = refl
own_nullability (column.Primitive p n) = refl
own_nullability (column.Decimal d n) = refl
own_nullability (column.Utf8 n) = refl
own_nullability (column.Binary n) = refl
own_nullability (column.List e n) = refl

-- the nullability that was given last counts
last_nullability : (t : DType) (n m : Nullability) → with_nullability (with_nullability t n) m ≡ with_nullability t m
last_nullability (column.Bool k) n m = refl
last_nullability (column.Primitive p k) n m = refl
last_nullability (column.Decimal d k) n m = refl
last_nullability (column.Utf8 k) n m = refl
last_nullability (column.Binary k) n m = refl
last_nullability (column.List e k) n m = refl

-- types of one kind differ only in nullability
dtype-of_kind : (from to : DType) → same_kind from to ≡ true → to ≡ with_nullability from (nullability_of to)
dtype-of_kind from to same =
    let m = nullability_of to in
    let one = (same_dtype-decides (with_nullability from NonNullable) (with_nullability to NonNullable)).0 same in
    sym (own_nullability to) ∙ sym (last_nullability to NonNullable m) ∙ ap (λ t. with_nullability t m) (sym one) ∙ last_nullability from NonNullable m

-- where the first test fails, the second pair of tests holds
second-of_tests : (a b c d : Bool) → a ≡ false → ((a && b) || (c && d)) ≡ true → c ≡ true
second-of_tests true b c d off holds = cc
second-of_tests false b true d off holds = refl
second-of_tests false b false d off holds = holds

-- rows that are not numbers are cast to a type that differs only in nullability
pub dtype-of_cast : (from to : DType) → is_numbers from ≡ false → can_cast from to ≡ true → to ≡ with_nullability from (nullability_of to)
dtype-of_cast from to other can = dtype-of_kind from to (second-of_tests (is_numbers from) (is_numbers to) (same_kind from to) (not (is_list to)) other can)
