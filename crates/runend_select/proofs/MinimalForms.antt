-- Flat columns and columns without runs, in the forms that a filter leaves.
use Rattle.std.proofs.Common.{◌≡◌, ◌<◌, pos, List, [], ◌∷◌, Bool, true, false, length, map, refl, arith}
use Rattle.std.specs.Prelude.{option_map}
use Rattle.std.proofs.lemmas.List.{length-map}
use Rattle.column_base.specs.declared.dtype.DType.{DType}
use Rattle.column_base.specs.declared.dtype.DType.TheVariants as column
use Rattle.column_base.specs.ValidityForm.{AllNull, IsNormal, ValidityForm, flags}
use Rattle.column_core.specs.Computed.{AreComputed}
use Rattle.column_core.specs.Kinds.{is_numbers}
use Rattle.column_core.specs.Leaf.{Leaf, OfNumbers, OfTruths, OfDecimals, OfVarBins, leaf_rows, single_rows}
use Rattle.column_core.specs.Optionals.{AreBlankAtNulls, optionals}
use Rattle.column_core.specs.Value.{FlatValue, IsLists, Single}
use Rattle.column_core.specs.VarBinForm.{view_bytes, zero_view}
use Rattle.runend_array.specs.Canonical.{IsAllNullFlat, IsNormalFlat}
use Rattle.runend_array.specs.Column.{Column, OfLeaf, OfConstant, OfLists, OfRuns, IsFlat, Runs, column_rows}
use Rattle.runend_array.specs.Encoding.{IsComputedFlat}
use Rattle.runend_windows.proofs.Grow.{IsTightCover-of_none}
use Rattle.runend_select.specs.FilterForm.{HasNoRuns}
use Rattle.runend_column.specs.MinimalForm.{IsMinimalForm}

-- a flat form as a call computes it is a flat form
pub flat_of_computed : (column : Column) → IsComputedFlat column → IsFlat column
flat_of_computed (OfLeaf leaf) h = tt
flat_of_computed (OfConstant constant) h = h
flat_of_computed (OfLists lists) h = tt
flat_of_computed (OfRuns ends_type ends values offset count) h = h

-- integers are not lists
pub number_lists : (dtype : DType) → is_numbers dtype ≡ true → ¬ IsLists dtype
number_lists (column.Bool n) is lists = lists
number_lists (column.Primitive t n) is lists = lists
number_lists (column.Decimal d n) is lists = lists
number_lists (column.Utf8 n) is lists = lists
number_lists (column.Binary n) is lists = lists
number_lists (column.List e n) is lists = cc

-- as many rows, as values of a column
pub single_count : (leaf : Leaf) → length (single_rows leaf) ≡ length (leaf_rows leaf)
single_count leaf = length-map (leaf_rows leaf) (option_map (λ (v : FlatValue). Single v))

map_none : {B C : Type 0} (f : B → C) (items : List B) → map f items ≡ [] → items ≡ []
map_none f [] none = refl
map_none f (x ∷ items) none = cc

unmapped : {B C : Type 0} (f : B → C) (items : List B) (bits : List Bool) → optionals (map f items) bits ≡ [] → optionals items bits ≡ []
unmapped f [] bits none = refl
unmapped f (x ∷ items) [] none = refl
unmapped f (x ∷ items) (b ∷ bits) none = cc

blank_none : {B : Type 0} (blank : B) (items : List B) (bits : List Bool) → optionals items bits ≡ [] → AreBlankAtNulls blank items bits
blank_none blank [] bits none = tt
blank_none blank (x ∷ items) [] none = tt
blank_none blank (x ∷ items) (b ∷ bits) none = cc

computed_items : {B : Type 0} (blank : B) (items : List B) (form : ValidityForm) → optionals items (flags form (length items)) ≡ [] → IsNormal form → (form ≡ AllNull → 0 < 0) → AreComputed blank items form
computed_items blank items form none normal some = record {
  blanked = blank_none blank items (flags form (length items)) none;
  normal = normal;
  some = λ is. let wrong = some is in absurd (omega arith);
}

-- a flat column without rows that is not stored as all null is one that a call computes
pub computed_none : (column : Column) → column_rows column ≡ [] → IsNormalFlat column → (IsAllNullFlat column → 0 < 0) → IsComputedFlat column
computed_none (OfLeaf (OfNumbers form)) none normal some = computed_items (pos 0) form.numbers form.validity (map_none _ _ (map_none _ _ none)) normal some
computed_none (OfLeaf (OfTruths form)) none normal some = computed_items false form.bits form.validity (map_none _ _ (map_none _ _ none)) normal some
computed_none (OfLeaf (OfDecimals form)) none normal some = computed_items (pos 0) form.numbers form.validity (map_none _ _ (map_none _ _ none)) normal some
computed_none (OfLeaf (OfVarBins form)) none normal some =
    computed_items zero_view form.views form.validity (unmapped (view_bytes form.buffers) form.views (flags form.validity (length form.views)) (map_none _ _ (map_none _ _ none))) normal some
computed_none (OfConstant constant) none normal some = normal
computed_none (OfLists lists) none normal some = tt
computed_none (OfRuns ends_type ends values offset count) none normal some = normal

-- no runs are the minimal form of no rows
pub least-without_runs : (whole : Runs) (column : Column) → HasNoRuns whole column → IsMinimalForm whole.ends_type column
least-without_runs whole (OfLeaf leaf) h = h
least-without_runs whole (OfConstant constant) h = h
least-without_runs whole (OfLists lists) h = h
least-without_runs whole (OfRuns ends_type ends values offset count) h = record {
  cover = rw (h.1, h.2, h.5) (IsTightCover-of_none [] refl);
  offset = h.4;
  ends_type = h.0;
  values = h.3;
}
