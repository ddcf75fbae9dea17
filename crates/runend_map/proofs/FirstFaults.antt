-- The first fault among rows is that of the first visible run that has one.
use Rattle.std.proofs.Common.{◌≡◌, ℕ, ◌<◌, zero, suc, List, [], ◌∷◌, Option, Some, None, refl, sym, ap, ◌∙◌, arith, get_or}
use Rattle.std.specs.Option.{option_or}
use Rattle.std.specs.List.{All}
use Rattle.std.proofs.lemmas.List.Elements.{All-nil, All-cons, All-head, All-tail}
use Rattle.column_base.specs.declared.error.VortexError.{VortexError}
use Rattle.column_core.specs.Value.{Value}
use Rattle.column_ops.specs.Fault.{first_fault}
use Rattle.runend_windows.specs.Visible.{FailsFirst}
use Rattle.runend_windows.proofs.VisibleLaws.{all_rows, fails_first}
use Rattle.runend_array.specs.Column.{AreRuns, Runs, column_of_runs, column_rows}
use Rattle.runend_column.specs.VisibleForm.{visible_values}

module _ {B : Type 0} (fault : B → Option VortexError) where
  abbrev pub HasNone : B → Type 0
  HasNone x = fault x ≡ None

  -- where each item has none, there is none
  pub first_fault-none : (xs : List B) → All HasNone xs → first_fault fault xs ≡ None
  first_fault-none [] all = refl
  first_fault-none (x ∷ xs) all =
      let here : fault x ≡ None = All-head HasNone x xs all in
      ap (λ (o : Option VortexError). option_or o (first_fault fault xs)) here ∙ first_fault-none xs (All-tail HasNone x xs all)

  -- and the other way round
  pub first_fault-all : (xs : List B) → first_fault fault xs ≡ None → All HasNone xs
  first_fault-all [] none = All-nil HasNone
  first_fault-all (x ∷ xs) none = elim (fault x) as (λ o. fault x ≡ o → All HasNone (x ∷ xs)) [
    | None ↦ λ here. All-cons HasNone x xs here (first_fault-all xs (sym (ap (λ (o : Option VortexError). option_or o (first_fault fault xs)) here) ∙ none))
    | Some error ↦ λ here. let never : ◌≡◌ {A = Option VortexError} (Some error) None = sym (ap (λ (o : Option VortexError). option_or o (first_fault fault xs)) here) ∙ none in cc
  ] refl

  -- the fault of the first item that has one
  pub first_fault-at : (xs : List B) (k : ℕ) (x : B) → FailsFirst HasNone xs k x → first_fault fault xs ≡ fault x
  first_fault-at [] k x fails = let within = fails.within in absurd (omega arith)
  first_fault-at (y ∷ xs) zero x fails =
      let same : y ≡ x = fails.here in
      let chosen : (o : Option VortexError) → ¬ (o ≡ None) → option_or o (first_fault fault xs) ≡ o = λ o. elim o as (λ o. ¬ (o ≡ None) → option_or o (first_fault fault xs) ≡ o) [ None ↦ λ some. absurd (some refl) | Some e ↦ λ some. refl ] in
      ap (λ (z : B). option_or (fault z) (first_fault fault xs)) same ∙ chosen (fault x) fails.fails
  first_fault-at (y ∷ xs) (suc k) x fails =
      let within = fails.within in
      let before : fault y ≡ None = fails.before 0 y (omega arith) in
      ap (λ (o : Option VortexError). option_or o (first_fault fault xs)) before
      ∙ first_fault-at xs k x (record { within = omega arith; here = fails.here; fails = fails.fails; before = λ j d lt. fails.before (suc j) d (omega arith) })

  -- an item after one that has none
  later : (y : B) (xs : List B) (k : ℕ) (x : B) → fault y ≡ None → FailsFirst HasNone xs k x → FailsFirst HasNone (y ∷ xs) (suc k) x
  later y xs k x none rest = record {
    within = let within = rest.within in omega arith;
    here = rest.here;
    fails = rest.fails;
    before = earlier;
  }
    where
      earlier : (j : ℕ) (default : B) → j < suc k → fault (get_or (y ∷ xs) j default) ≡ None
      earlier zero default lt = none
      earlier (suc j) default lt = rest.before j default (omega arith)

  -- the first item, where it has one
  at_once : (y : B) (xs : List B) (error : VortexError) → fault y ≡ Some error → FailsFirst HasNone (y ∷ xs) 0 y
  at_once y xs error has = record {
    within = omega arith;
    here = refl;
    fails = λ none. let never : ◌≡◌ {A = Option VortexError} (Some error) None = sym has ∙ none in cc;
    before = λ j default lt. absurd (omega arith);
  }

  -- a list with a fault has a first item that has one
  pub first_failing : (xs : List B) (error : VortexError) → first_fault fault xs ≡ Some error → (k : ℕ) × (x : B) × FailsFirst HasNone xs k x
  first_failing [] error found = cc
  first_failing (y ∷ xs) error found = elim (fault y) as (λ o. fault y ≡ o → (k : ℕ) × (x : B) × FailsFirst HasNone (y ∷ xs) k x) [
    | None ↦ λ here.
        let rest = first_failing xs error (sym (ap (λ (o : Option VortexError). option_or o (first_fault fault xs)) here) ∙ found) in
        (suc rest.0, rest.1, later y xs rest.0 rest.1 here rest.2)
    | Some other ↦ λ here. (0, y, at_once y xs other here)
  ] refl

-- rows have the fault that visible values have
pub visible_fault : (fault : Option Value → Option VortexError) (r : Runs) → AreRuns r → first_fault fault (column_rows (column_of_runs r)) ≡ first_fault fault (visible_values r)
visible_fault fault r runs = elim (first_fault fault (visible_values r)) as (λ o. first_fault fault (visible_values r) ≡ o → first_fault fault (column_rows (column_of_runs r)) ≡ first_fault fault (visible_values r)) [
  | None ↦ λ none.
      let each = first_fault-all fault (visible_values r) none in
      first_fault-none fault (column_rows (column_of_runs r)) ((all_rows r.ends (column_rows r.values) r.offset r.count runs.window runs.paired (HasNone fault)).1 each) ∙ sym none
  | Some error ↦ λ some.
      let first = first_failing fault (visible_values r) error some in
      let row = fails_first r.ends (column_rows r.values) r.offset r.count runs.window runs.paired (HasNone fault) first.0 first.1 first.2 in
      first_fault-at fault (column_rows (column_of_runs r)) row.0 first.1 row.1 ∙ sym (first_fault-at fault (visible_values r) first.0 first.1 first.2)
] refl
