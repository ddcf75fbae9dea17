-- Columns of lists of which all rows are null.
use Rattle.std.proofs.Common.{◌≡◌, ℕ, [], pos, Option, None, replicate, refl, sym, ◌∙◌}
use Rattle.std.specs.Prelude.{unsigned_abs}
use Rattle.std.specs.List.{range_with_len}
use Rattle.std.proofs.lemmas.List.{length-map, length-replicate}
use Rattle.std.proofs.lemmas.List.FromFn.{length-range_with_len}
use Rattle.std.proofs.lemmas.Simd.{splat_is_map}
use Rattle.column_base.specs.declared.dtype.Nullability.{Nullability}
use Rattle.column_base.specs.declared.dtype.Nullability.TheVariants.{Nullable}
use Rattle.column_base.specs.declared.dtype.ElementDType.{ElementDType}
use Rattle.column_base.specs.declared.dtype.DType.TheVariants as column
use Rattle.column_base.specs.declared.dtype.PType.TheVariants.{U64}
use Rattle.column_base.specs.ValidityForm.{ValidityForm, AllNull, NeverNull, nullability_in}
use Rattle.column_core.specs.PrimitiveForm.{primitive_with}
use Rattle.column_core.specs.Leaf.{Leaf, OfNumbers, leaf_dtype}
use Rattle.column_core.specs.Value.{Value}
use Rattle.runend_array.specs.Lists.{Index, Lists, RowValidityForm, ByRows, lists_with, index_count, list_rows, list_dtype}
use Rattle.column_core.specs.Value.{element_of}
use Rattle.runend_array.specs.Column.{Column, OfLeaf, index_of}

pub rows-of_null_lists : (lists : Lists) (elements : Leaf) (offsets sizes : Index) (n : ℕ) → lists ≡ lists_with elements offsets sizes (ByRows AllNull) → index_count offsets ≡ n
    → list_rows lists ≡ replicate n None
rows-of_null_lists lists elements offsets sizes n made counted =
    rw (made, counted) (sym (splat_is_map {V = ℕ} {Y = Option Value} (range_with_len 0 n) n None (length-range_with_len 0 n)))

pub dtype-of_null_lists : (lists : Lists) (elements : Leaf) (offsets sizes : Index) (element : ElementDType) → lists ≡ lists_with elements offsets sizes (ByRows AllNull)
    → element_of (leaf_dtype elements) ≡ element → list_dtype lists ≡ column.List element Nullable
dtype-of_null_lists lists elements offsets sizes element made typed = rw (made, typed) refl

-- as many zeros as rows
pub index_count-of_zeros : (c : Column) (n : ℕ) → c ≡ OfLeaf (OfNumbers (primitive_with U64 (replicate n (pos 0)) NeverNull)) → index_count (index_of c) ≡ n
index_count-of_zeros c n zeros = rw zeros (length-map (replicate n (pos 0)) unsigned_abs ∙ length-replicate n (pos 0))

-- lists of which there are none
pub rows-of_no_lists : (lists : Lists) (elements : Leaf) (offsets sizes : Index) (validity : RowValidityForm) → lists ≡ lists_with elements offsets sizes validity → index_count offsets ≡ 0
    → list_rows lists ≡ []
rows-of_no_lists lists elements offsets sizes validity made counted = rw (made, counted) refl

pub dtype-of_no_lists : (lists : Lists) (elements : Leaf) (offsets sizes : Index) (form : ValidityForm) (element : ElementDType) (nullability : Nullability) → lists ≡ lists_with elements offsets sizes (ByRows form)
    → element_of (leaf_dtype elements) ≡ element → nullability_in form ≡ nullability → list_dtype lists ≡ column.List element nullability
dtype-of_no_lists lists elements offsets sizes form element nullability made typed null = rw (made, typed, null) refl
