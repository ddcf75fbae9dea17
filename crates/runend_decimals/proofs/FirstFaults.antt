-- The first row whose decimal has a fault, by the first run whose value has one.
use Rattle.std.proofs.Common.{◌≡◌, ◌∙◌, ℕ, zero, suc, ◌+◌, ◌<◌, ◌≤◌, ℤ, Option, Some, None, List, [], ◌∷◌, ◌++◌, length, map, take, slice_index, refl, sym, ap, subst, arith, zero-add, inl, inr}
use Rattle.std.specs.Prelude.{slice_get}
use Rattle.std.proofs.lemmas.Bool.{cases_lt}
use Rattle.std.proofs.lemmas.List.{map-append}
use Rattle.std.proofs.lemmas.Option.{slice_get_within}
use Rattle.runend_floats.specs.Runs.{first_row}
use Rattle.runend_floats.proofs.CoveredRows.{run_is_filled, within_last}
use Rattle.runend_windows.specs.Window.{IsWindow, last_end, run_at, run_rows}
use Rattle.runend_windows.proofs.RunAt.{run_at-le}
use Rattle.runend_windows.proofs.RunRows.{length-run_rows, slice_get-run_rows_of_window}
use Rattle.runend_decimals.specs.Rescaling.{IsValueHeld, IsValueMisfit, misfit_at}
use Rattle.runend_decimals.specs.Scales.{EachDecimal, IsFirstFault, IsHeldBy, IsInexactBy, IsPastBy, IsRescaleRefusalBy}
use Rattle.runend_decimals.specs.declared.scaling.Misfit.{Misfit}
use Rattle.runend_decimals.specs.declared.scaling.Misfit.TheVariants.{Inexact, Overflow}
use Rattle.runend_decimals.proofs.RunsAt.{run_shows}
use Rattle.runend_decimals.proofs.TotalRows.{first_after}

-- what holds of each decimal among the first values
abbrev pub EachBefore : (ℤ → Type 0) → List (Option ℤ) → ℕ → Type 0
EachBefore P values run = (k : ℕ) (n : ℤ) → k < run → slice_get values k ≡ Some (Some n) → P n

-- one value more
pub each_next : (P : ℤ → Type 0) (values : List (Option ℤ)) (run : ℕ) (value : Option ℤ) → slice_get values run ≡ Some value → ((n : ℤ) → value ≡ Some n → P n) → EachBefore P values run → EachBefore P values (run + 1)
each_next P values run value is here before = λ k n within there. elim (cases_lt k run) [
  | inl earlier ↦ before k n earlier there
  | inr last ↦
      let same : k ≡ run = omega (arith, within, last) in
      let both : Some value ≡ Some (Some n) = sym is ∙ sym (ap (slice_get values) same) ∙ there in
      let e : value ≡ Some n = cc in
      here n e
]

module _ (P : ℤ → Type 0) (ends : List ℕ) (values : List (Option ℤ)) (window : IsWindow ends 0 (last_end ends)) (paired : length values ≡ length ends) where
  -- a row before a run is in an earlier one
  run_before : (run k : ℕ) → run ≤ length ends → k < first_row ends run → (run_at ends k < run) × (k < last_end ends)
  run_before zero k within before = absurd (omega (arith, before))
  run_before (suc run) k within before =
      let there : run < length ends = omega (arith, within) in
      let early = run_at-le ends k run there before in
      let last = within_last ends run window.increasing there in
      (omega (arith, early), omega (arith, before, last))

  -- the rows of the first runs
  pub each_row_before : (run : ℕ) → run ≤ length ends → EachBefore P values run → (k : ℕ) (n : ℤ) → k < first_row ends run → slice_get (run_rows ends values 0 (last_end ends)) k ≡ Some (Some n) → P n
  each_row_before run within held k n before is =
      let earlier = run_before run k within before in
      let shown = slice_get-run_rows_of_window ends values 0 (last_end ends) k window paired earlier.1 ∙ ap (λ (j : ℕ). slice_get values (run_at ends j)) (zero-add k) in
      held (run_at ends k) n earlier.0 (sym shown ∙ is)

  -- of all runs
  pub each_row : (run : ℕ) → run ≡ length ends → EachBefore P values run → EachDecimal P (run_rows ends values 0 (last_end ends))
  each_row run all held = λ k n is.
      let within = slice_get_within (run_rows ends values 0 (last_end ends)) k (Some n) is in
      let long = length-run_rows ends values 0 (last_end ends) in
      let after : first_row ends run ≡ last_end ends = ap (first_row ends) all ∙ first_after ends in
      each_row_before run (omega (arith, all)) held k n (omega (arith, within, long, after)) is

  -- the first run that has a fault
  pub first_fault_at : (fault : ℤ → Type 0) (run : ℕ) (n : ℤ) → (0 < length ends → 0 < slice_index ends 0) → run < length ends → slice_get values run ≡ Some (Some n) → fault n → EachBefore P values run
      → IsFirstFault fault P (run_rows ends values 0 (last_end ends)) (first_row ends run)
  first_fault_at fault run n filled within is faulty held =
      let some = run_is_filled ends run window.increasing filled within in
      record {
        number = n;
        here = run_shows ends window filled run (first_row ends run) (slice_index ends run) within refl refl values (Some n) paired is (first_row ends run) (omega arith) (omega (arith, some));
        faulty = faulty;
        before = each_row_before run (omega (arith, within)) held;
      }

-- the refusal of a run whose value does not fit
pub refused_at : (dropped added : ℕ) (Has : ℤ → Type 0) (ends : List ℕ) (values : List (Option ℤ)) (run : ℕ) (value : Option ℤ) (misfit : Misfit) → IsWindow ends 0 (last_end ends) → length values ≡ length ends
    → (0 < length ends → 0 < slice_index ends 0) → run < length ends → slice_get values run ≡ Some value → IsValueMisfit dropped added Has value misfit → EachBefore (IsHeldBy dropped added Has) values run
    → IsRescaleRefusalBy None dropped added Has (run_rows ends values 0 (last_end ends)) (misfit_at misfit (first_row ends run))
refused_at dropped added Has ends values run None misfit window paired filled within is wrong held = absurd wrong
refused_at dropped added Has ends values run (Some n) Inexact window paired filled within is wrong held =
    (refl, first_fault_at (IsHeldBy dropped added Has) ends values window paired (IsInexactBy dropped added) run n filled within is wrong held)
refused_at dropped added Has ends values run (Some n) Overflow window paired filled within is wrong held =
    (refl, first_fault_at (IsHeldBy dropped added Has) ends values window paired (IsPastBy dropped added Has) run n filled within is wrong held)

-- a value that is held
pub value_held : (dropped added : ℕ) (Has : ℤ → Type 0) (value : Option ℤ) → IsValueHeld dropped added Has value → (n : ℤ) → value ≡ Some n → IsHeldBy dropped added Has n
value_held dropped added Has None held n is = cc
value_held dropped added Has (Some m) held n is = let e : m ≡ n = cc in subst (IsHeldBy dropped added Has) e held

-- the items of one value more
take_next : (values : List (Option ℤ)) (run : ℕ) (value : Option ℤ) → slice_get values run ≡ Some value → take (suc run) values ≡ take run values ++ value ∷ []
take_next [] run value is = cc
take_next (v ∷ values) zero value is = let e : v ≡ value = cc in rw e refl
take_next (v ∷ values) (suc run) value is = ap (λ (rest : List (Option ℤ)). v ∷ rest) (take_next values run value is)

pub stored_next : {Z : Type 0} (integer : Z → ℤ) (stored : Option ℤ → ℤ) (items : List Z) (item : Z) (values : List (Option ℤ)) (run : ℕ) (value : Option ℤ) → map integer items ≡ map stored (take run values)
    → slice_get values run ≡ Some value → integer item ≡ stored value → map integer (items ++ item ∷ []) ≡ map stored (take (run + 1) values)
stored_next integer stored items item values run value done is next =
    let place : suc run ≡ run + 1 = omega arith in
    map-append integer items (item ∷ [])
    ∙ (λ i. done i ++ next i ∷ [])
    ∙ sym (map-append stored (take run values) (value ∷ []))
    ∙ sym (ap (map stored) (take_next values run value is)) ∙ ap (λ (k : ℕ). map stored (take k values)) place
