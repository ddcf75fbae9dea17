-- Parts of lists that are seen make lists, or none.
use Rattle.std.proofs.Common.{◌≡◌, ℕ, ◌<◌, ◌≤◌, ◌^◌, List, length, refl, sym, subst, ◌∙◌}
use Rattle.column_core.specs.Leaf.{Leaf}
use Rattle.column_fields.specs.ListFields.{list_fields}
use Rattle.runend_array.specs.Column.{Column, OfLists}
use Rattle.runend_array.specs.Lists.{Index, RowValidityForm, HasRows, Lists, index_count, lists_depth, lists_with}
use Rattle.column_bytes.specs.ListRead.{IsLeafMessage, IsIndexMessage, AreListsBehind, AreListsOf, AreNoListsBehind, BeginsWithValidity}
use Rattle.column_bytes.specs.ListWalks.{FitsEachRow}
use Rattle.column_bytes.specs.Read.{IsBody}
use Rattle.column_bytes.proofs.ListReads.{are_behind, are_over, lists_found, none_behind, none_over}

pub made : (levels rows : ℕ) (lists : Lists) → index_count lists.offsets ≡ rows → index_count lists.sizes ≡ rows → HasRows lists.validity rows → lists_depth lists ≤ levels → FitsEachRow lists rows → AreListsOf levels rows lists
made levels rows lists counted sized flagged shallow fits = record {
  are = record {
    sized = sized ∙ sym counted;
    flagged = subst (λ (n : ℕ). HasRows lists.validity n) (sym counted) flagged;
    within = subst (λ (n : ℕ). FitsEachRow lists n) (sym counted) fits;
  };
  shallow = shallow;
  counted = counted;
}

pub each_fits : (levels rows : ℕ) (lists : Lists) → AreListsOf levels rows lists → FitsEachRow lists rows
each_fits levels rows lists h = subst (λ (n : ℕ). FitsEachRow lists n) h.counted h.are.within

-- ---- after the validity

module _ (levels rows : ℕ) (validity : RowValidityForm) (bytes message first counts : List ℕ) (lt : length bytes < 2 ^ 64) (m-small : length message < 2 ^ 64) (f-small : length first < 2 ^ 64) (c-small : length counts < 2 ^ 64) (b : bytes ≡ list_fields message first counts) (elements : Leaf) (offsets sizes : Index) (m : IsLeafMessage message elements) (o : IsIndexMessage first offsets) (s : IsIndexMessage counts sizes) where
  pub parts_fit : AreListsOf levels rows (lists_with elements offsets sizes validity) → (c : Column) × AreListsBehind levels rows validity bytes c
  parts_fit are =
      let c : Column = OfLists (lists_with elements offsets sizes validity) in
      (c, are_behind levels rows validity bytes lt message first counts m-small f-small c-small b elements c m (are_over levels rows elements validity first counts offsets sizes c o s refl are))

  pub parts_do_not_fit : (AreListsOf levels rows (lists_with elements offsets sizes validity) → ⊥) → AreNoListsBehind levels rows validity bytes
  parts_do_not_fit absent =
      none_behind levels rows validity bytes lt message first counts m-small f-small c-small b elements m (none_over levels rows elements validity first counts offsets sizes f-small c-small o s absent)

-- ---- and with it

pub body_of_lists : (levels kind rows : ℕ) (bytes : List ℕ) (v : RowValidityForm) (rest : List ℕ) → kind ≡ 13 → BeginsWithValidity rows bytes v rest → (c : Column) × AreListsBehind levels rows v rest c → (c : Column) × IsBody levels kind 4 rows bytes c
body_of_lists levels kind rows bytes v rest known found h = (h.0, lists_found levels kind rows bytes v rest h.0 known found h.1)
