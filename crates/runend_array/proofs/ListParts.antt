-- Parts of columns of lists that are equal in form.
use Rattle.std.proofs.Common.{◌≡◌, sym, subst, ap, ◌∙◌}
use Rattle.column_core.specs.FlatColumn.{leaf_of}
use Rattle.column_core.specs.declared.flat.FlatColumn.{FlatColumn}
use Rattle.runend_array.specs.Array.{AreListParts, IsRowValidity, column_of, lists_of, validity_of}
use Rattle.runend_array.specs.Column.{Column, index_of, IsIndex}
use Rattle.runend_array.specs.Lists.{AreLists, lists_with}
use Rattle.runend_array.specs.declared.array_ref.ArrayRef.{ArrayRef}
use Rattle.runend_array.specs.declared.validities.row_validity.RowValidity.{RowValidity}

module _ {A : Type 0} (elements elements' : FlatColumn A) (offsets offsets' sizes sizes' : ArrayRef A) (validity validity' : RowValidity A)
    (same_elements : elements' ≡ elements)
    (same_offsets : column_of offsets' ≡ column_of offsets)
    (same_sizes : column_of sizes' ≡ column_of sizes)
    (same_validity : validity_of validity' ≡ validity_of validity) where
  -- they are lists of one form
  pub lists_of-same : lists_of elements' offsets' sizes' validity' ≡ lists_of elements offsets sizes validity
  lists_of-same =
      ap (λ e. lists_with (leaf_of e) (index_of (column_of offsets')) (index_of (column_of sizes')) (validity_of validity')) same_elements
      ∙ ap (λ o. lists_with (leaf_of elements) (index_of o) (index_of (column_of sizes')) (validity_of validity')) same_offsets
      ∙ ap (λ s. lists_with (leaf_of elements) (index_of (column_of offsets)) (index_of s) (validity_of validity')) same_sizes
      ∙ ap (λ v. lists_with (leaf_of elements) (index_of (column_of offsets)) (index_of (column_of sizes)) v) same_validity

  -- and make a column of lists where the others do
  pub AreListParts-same : IsRowValidity validity' → AreListParts elements offsets sizes validity → AreListParts elements' offsets' sizes' validity'
  AreListParts-same plain parts = record {
    types = record {
      first_elements = subst (λ (c : Column). IsIndex c) (sym same_offsets) parts.types.first_elements;
      counts = subst (λ (c : Column). IsIndex c) (sym same_sizes) parts.types.counts;
      flags = plain;
    };
    lists = subst AreLists (sym lists_of-same) parts.lists;
  }
