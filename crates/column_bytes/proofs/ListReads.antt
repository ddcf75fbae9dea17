-- Columns of lists are read as they are written, and in no other way.
use Rattle.std.proofs.Common.{◌≡◌, ℕ, ◌^◌, ◌<◌, ◌≤◌, List, [], ◌++◌, length, Some, inl, inr, refl, sym, ap, subst, ◌∙◌, arith}
use Rattle.column_base.specs.declared.error.VortexError.{VortexError}
use Rattle.column_base.specs.declared.error.VortexError.TheVariants.{OutOfBounds, ColumnLength, TypeMismatch}
use Rattle.column_base.specs.ValidityForm.{NeverNull, NoneNull, AllNull, ByBits}
use Rattle.column_core.specs.Leaf.{Leaf}
use Rattle.column_core.specs.declared.flat.FlatColumn.{FlatColumn}
use Rattle.column_fields.specs.ListFields.{list_fields, AreNoListFields}
use Rattle.column_fields.proofs.ListFieldLaws.{lists_same}
use Rattle.runend_array.specs.Array.{AreListTypes, lists_of}
use Rattle.runend_array.specs.Column.{Column, OfLeaf, OfConstant, OfLists, OfRuns}
use Rattle.runend_array.specs.Fault.{ListPartsFault, ListsFault, rows_told}
use Rattle.runend_array.specs.Lists.{Index, RowValidityForm, ByRows, ByRuns, HasRows, Lists, AreLists, list_count, lists_depth, lists_with}
use Rattle.runend_array.specs.declared.array_ref.ArrayRef.{ArrayRef}
use Rattle.runend_array.specs.declared.validities.row_validity.RowValidity.{RowValidity}
use Rattle.column_bytes.specs.Bytes.{leaf_message, index_message, row_validity_field}
use Rattle.column_bytes.specs.ListRead.{IsLeafMessage, IsNoLeafMessage, IsIndexMessage, IsNoIndexMessage, BeginsWithValidity, BeginsWithNoValidity, AreListsOf, AreListsOver, AreNoListsOver, AreListsBehind, AreNoListsBehind, AreListsIn}
use Rattle.column_bytes.specs.Read.{IsBody, IsNoBody}
use Rattle.column_bytes.proofs.Messages.{index_one, leaf_message_one, lists_at, lists_body_is, parts_long, validity_one}

-- ---- why parts do not make a column of lists

told_rows : (v : RowValidityForm) (n told : ℕ) → HasRows v n → rows_told v ≡ Some told → n ≡ told
told_rows (ByRows NeverNull) n told h e = cc
told_rows (ByRows NoneNull) n told h e = cc
told_rows (ByRows AllNull) n told h e = cc
told_rows (ByRows (ByBits bits)) n told h e = cc
told_rows (ByRuns t ends bits offset count) n told h e = cc

lists_fault : (l : Lists) (error : VortexError) → ListsFault l error → AreLists l → ⊥
lists_fault l (ColumnLength left right) (is, ne, inl sizes) are = ne (is ∙ sym are.sized ∙ sym sizes)
lists_fault l (ColumnLength left right) (is, ne, inr told) are = ne (is ∙ told_rows l.validity (list_count l) right are.flagged told.1)
lists_fault l (OutOfBounds row count) why are = why.3.2.outside (are.within why.3.0 why.3.2.within why.3.2.valid)
lists_fault l error why are = why

parts_fault : {A : Type 0} (elements : FlatColumn A) (offsets sizes : ArrayRef A) (validity : RowValidity A) (error : VortexError) → AreListTypes offsets sizes validity → ListPartsFault elements offsets sizes validity error → ListsFault (lists_of elements offsets sizes validity) error
parts_fault elements offsets sizes validity TypeMismatch types why = absurd (why types)
parts_fault elements offsets sizes validity error types why = why.1

pub faulty : {A : Type 0} (elements : FlatColumn A) (offsets sizes : ArrayRef A) (validity : RowValidity A) (error : VortexError) (levels rows : ℕ) → AreListTypes offsets sizes validity → ListPartsFault elements offsets sizes validity error → AreListsOf levels rows (lists_of elements offsets sizes validity) → ⊥
faulty elements offsets sizes validity error levels rows types why h =
    lists_fault (lists_of elements offsets sizes validity) error (parts_fault elements offsets sizes validity error types why) h.are

-- lists of another shape
pub misshaped : (l made : Lists) (levels rows : ℕ) → made ≡ l → (list_count made ≡ rows → lists_depth made ≤ levels → ⊥) → AreListsOf levels rows l → ⊥
misshaped l made levels rows is other h =
    other (ap list_count is ∙ h.counted) (subst (λ (x : Lists). lists_depth x ≤ levels) (sym is) h.shallow)

pub shaped : (l made : Lists) (levels rows : ℕ) → made ≡ l → AreLists l → list_count made ≡ rows → lists_depth made ≤ levels → AreListsOf levels rows l
shaped l made levels rows is are counted shallow = record {
  are = are;
  shallow = subst (λ (x : Lists). lists_depth x ≤ levels) is shallow;
  counted = ap list_count (sym is) ∙ counted;
}

-- ---- offsets and sizes over elements and validity

module _ (levels rows : ℕ) (elements : Leaf) (validity : RowValidityForm) (first counts : List ℕ) where
  pub no_offsets : IsNoIndexMessage first → AreNoListsOver levels rows elements validity first counts
  no_offsets absent = record { none = λ c h. absent.none h.offsets h.offsets_are }

  pub no_sizes : IsNoIndexMessage counts → AreNoListsOver levels rows elements validity first counts
  no_sizes absent = record { none = λ c h. absent.none h.sizes h.sizes_are }

  pub are_over : (offsets sizes : Index) (c : Column) → IsIndexMessage first offsets → IsIndexMessage counts sizes → c ≡ OfLists (lists_with elements offsets sizes validity) → AreListsOf levels rows (lists_with elements offsets sizes validity) → AreListsOver levels rows elements validity first counts c
  are_over offsets sizes c o s is are = record { offsets = offsets; sizes = sizes; is = is; offsets_are = o; sizes_are = s; are = are }

  index_same : (message : List ℕ) (a b : Index) → length message < 2 ^ 64 → IsIndexMessage message a → IsIndexMessage message b → a ≡ b
  index_same message a b lt p q = index_one a b p.stored q.stored (omega (arith, lt, ap length p.spelt)) (sym p.spelt ∙ q.spelt)

  pub none_over : (offsets sizes : Index) → length first < 2 ^ 64 → length counts < 2 ^ 64 → IsIndexMessage first offsets → IsIndexMessage counts sizes → (AreListsOf levels rows (lists_with elements offsets sizes validity) → ⊥) → AreNoListsOver levels rows elements validity first counts
  none_over offsets sizes f-small c-small o s absent = record {
    none = λ c h.
        let os : h.offsets ≡ offsets = index_same first h.offsets offsets f-small h.offsets_are o in
        let ss : h.sizes ≡ sizes = index_same counts h.sizes sizes c-small h.sizes_are s in
        absent (subst (λ (x : Index). AreListsOf levels rows (lists_with elements offsets x validity)) ss (subst (λ (x : Index). AreListsOf levels rows (lists_with elements x h.sizes validity)) os h.are));
  }

-- ---- what is after the validity

module _ (levels rows : ℕ) (validity : RowValidityForm) (bytes : List ℕ) (lt : length bytes < 2 ^ 64) where
  pub no_list_fields : AreNoListFields bytes → AreNoListsBehind levels rows validity bytes
  no_list_fields absent = record {
    none = λ c h.
        let long = parts_long [] h.message h.first h.counts in
        let is = ap length h.spelt in
        absent.none h.message h.first h.counts (omega (arith, lt, is, long.0)) (omega (arith, lt, is, long.1)) (omega (arith, lt, is, long.2)) h.spelt;
  }

  -- whose fields are read
  module _ (message first counts : List ℕ) (m-small : length message < 2 ^ 64) (f-small : length first < 2 ^ 64) (c-small : length counts < 2 ^ 64) (b : bytes ≡ list_fields message first counts) where
    fields_same : (c : Column) (h : AreListsBehind levels rows validity bytes c) → (h.message ≡ message) × (h.first ≡ first) × (h.counts ≡ counts)
    fields_same c h =
        let long = parts_long [] h.message h.first h.counts in
        let is = ap length h.spelt in
        lists_same h.message message h.first first h.counts counts (omega (arith, lt, is, long.0)) m-small (omega (arith, lt, is, long.1)) f-small (omega (arith, lt, is, long.2)) c-small (sym h.spelt ∙ b)

    pub no_elements : IsNoLeafMessage message → AreNoListsBehind levels rows validity bytes
    no_elements absent = record {
      none = λ c h. absent.none h.elements (subst (λ (x : List ℕ). IsLeafMessage x h.elements) (fields_same c h).0 h.elements_are);
    }

    pub are_behind : (elements : Leaf) (c : Column) → IsLeafMessage message elements → AreListsOver levels rows elements validity first counts c → AreListsBehind levels rows validity bytes c
    are_behind elements c m over = record { elements = elements; message = message; first = first; counts = counts; spelt = b; elements_are = m; over = over }

    pub none_behind : (elements : Leaf) → IsLeafMessage message elements → AreNoListsOver levels rows elements validity first counts → AreNoListsBehind levels rows validity bytes
    none_behind elements m absent = record {
      none = λ c h.
          let same = fields_same c h in
          let own : IsLeafMessage message h.elements = subst (λ (x : List ℕ). IsLeafMessage x h.elements) same.0 h.elements_are in
          let one : h.elements ≡ elements = leaf_message_one h.elements elements own.stored own.packed m.stored m.packed (omega (arith, m-small, ap length own.spelt)) (sym own.spelt ∙ m.spelt) in
          absent.none c (subst (λ (x : List ℕ). AreListsOver levels rows elements validity first x c) same.2 (subst (λ (x : List ℕ). AreListsOver levels rows elements validity x h.counts c) same.1 (subst (λ (x : Leaf). AreListsOver levels rows x validity h.first h.counts c) one h.over)));
    }

-- ---- columns of lists

list_kind_at : (c : Column) (levels kind rows : ℕ) (bytes : List ℕ) → IsBody levels kind 4 rows bytes c → kind ≡ 13
list_kind_at (OfLeaf leaf) levels kind rows bytes h = absurd (omega (arith, h.form_is))
list_kind_at (OfConstant constant) levels kind rows bytes h = absurd (omega (arith, h.form_is))
list_kind_at (OfLists lists) levels kind rows bytes h = sym h.kind_is
list_kind_at (OfRuns t ends values offset count) levels kind rows bytes h = absurd (omega (arith, h.form_is))

pub other_list_kind : (levels kind rows : ℕ) (bytes : List ℕ) → (kind ≡ 13 → ⊥) → IsNoBody levels kind 4 rows bytes
other_list_kind levels kind rows bytes other = record { none = λ c h. other (list_kind_at c levels kind rows bytes h) }

validity_in : (levels rows : ℕ) (bytes : List ℕ) (l : Lists) → AreListsIn levels rows bytes l → BeginsWithValidity rows bytes l.validity (list_fields (leaf_message l.elements) (index_message l.offsets) (index_message l.sizes))
validity_in levels rows bytes l h = record {
  stored = h.stored.validity;
  counted = subst (λ (n : ℕ). HasRows l.validity n) h.counted h.stored.are.flagged;
  spelt = h.spelt;
}

pub no_validity : (levels kind rows : ℕ) (bytes : List ℕ) → BeginsWithNoValidity rows bytes → IsNoBody levels kind 4 rows bytes
no_validity levels kind rows bytes absent = record {
  none = λ c h.
      let at = lists_at c levels kind rows bytes h in
      absent.none at.lists.validity (list_fields (leaf_message at.lists.elements) (index_message at.lists.offsets) (index_message at.lists.sizes)) (validity_in levels rows bytes at.lists at.are);
}

-- the lists are those after their validity
behind_own : (levels rows : ℕ) (bytes : List ℕ) (l : Lists) → AreListsIn levels rows bytes l → AreListsBehind levels rows l.validity (list_fields (leaf_message l.elements) (index_message l.offsets) (index_message l.sizes)) (OfLists l)
behind_own levels rows bytes l h = record {
  elements = l.elements;
  message = leaf_message l.elements;
  first = index_message l.offsets;
  counts = index_message l.sizes;
  spelt = refl;
  elements_are = record { stored = h.stored.elements; packed = h.packed; spelt = refl };
  over = record {
    offsets = l.offsets;
    sizes = l.sizes;
    is = refl;
    offsets_are = record { stored = h.stored.offsets; spelt = refl };
    sizes_are = record { stored = h.stored.sizes; spelt = refl };
    are = record { are = h.stored.are; shallow = h.shallow; counted = h.counted };
  };
}

pub none_behind_validity : (levels kind rows : ℕ) (bytes : List ℕ) (v : RowValidityForm) (rest : List ℕ) → length bytes < 2 ^ 64 → rows < 2 ^ 64 → BeginsWithValidity rows bytes v rest → AreNoListsBehind levels rows v rest → IsNoBody levels kind 4 rows bytes
none_behind_validity levels kind rows bytes v rest lt small found absent = record {
  none = λ c h.
      let at = lists_at c levels kind rows bytes h in
      let l : Lists = at.lists in
      let parts : List ℕ = list_fields (leaf_message l.elements) (index_message l.offsets) (index_message l.sizes) in
      let own = validity_in levels rows bytes l at.are in
      let same = validity_one l.validity v rows parts rest small own.stored found.stored own.counted found.counted (omega (arith, lt, ap length own.spelt)) (sym own.spelt ∙ found.spelt) in
      absent.none (OfLists l) (subst (λ (x : List ℕ). AreListsBehind levels rows v x (OfLists l)) same.1 (subst (λ (x : RowValidityForm). AreListsBehind levels rows x parts (OfLists l)) same.0 (behind_own levels rows bytes l at.are)));
}

pub lists_found : (levels kind rows : ℕ) (bytes : List ℕ) (v : RowValidityForm) (rest : List ℕ) (c : Column) → kind ≡ 13 → BeginsWithValidity rows bytes v rest → AreListsBehind levels rows v rest c → IsBody levels kind 4 rows bytes c
lists_found levels kind rows bytes v rest c known found h =
    let o = h.over in
    let l : Lists = lists_with h.elements o.offsets o.sizes v in
    let e : List ℕ = leaf_message h.elements in
    let rest_is : rest ≡ list_fields e (index_message o.offsets) (index_message o.sizes) =
    h.spelt ∙ ap (λ (x : List ℕ). list_fields x h.first h.counts) h.elements_are.spelt ∙ ap (λ (x : List ℕ). list_fields e x h.counts) o.offsets_are.spelt ∙ ap (λ (x : List ℕ). list_fields e (index_message o.offsets) x) o.sizes_are.spelt in
    subst (λ (x : Column). IsBody levels kind 4 rows bytes x) (sym o.is) (record {
      writable = record {
        stored = record { elements = h.elements_are.stored; offsets = o.offsets_are.stored; sizes = o.sizes_are.stored; validity = found.stored; are = o.are.are };
        shallow = o.are.shallow;
      };
      packed = h.elements_are.packed;
      kind_is = sym known;
      form_is = refl;
      rows_is = o.are.counted;
      spelt = found.spelt ∙ ap (λ (x : List ℕ). row_validity_field v ++ x) rest_is ∙ sym (lists_body_is l);
    })
