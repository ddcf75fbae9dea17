-- Runs of runs: where runs represent stretches of rows, the encoding of their values says which of them are joined.
use Rattle.std.proofs.Common.{◌≡◌, ◌∙◌, ◌+◌, ◌-◌, ◌<◌, ◌≤◌, ◌^◌, ℕ, zero, suc, List, [], ◌∷◌, length, map, refl, sym, ap, subst, arith, inl, inr}
use Rattle.std.specs.Prelude.{slice_get}
use Rattle.std.proofs.lemmas.Bool.{cases_lt}
use Rattle.runend_windows.specs.Cover.{IsTightCover}
use Rattle.runend_windows.proofs.Grow.{IsTightCover-from_Tiles}
use Rattle.runend_windows.proofs.ShownRuns.{shown_at, shown_at-here, shown_at-past}
use Rattle.runend_windows.proofs.Tiles.{Tiles, Tiles-from_IsTightCover, Tiles-le, shown-from_IsTightCover}

-- `starts` is where each run starts, and after the last run where it ends: no run is empty
abbrev pub AreFilled : (ℕ → ℕ) → ℕ → Type 0
AreFilled starts runs = (run : ℕ) → run < runs → starts run < starts (run + 1)

-- a later run starts later
starts_later : (starts : ℕ → ℕ) (runs from more : ℕ) → AreFilled starts runs → from + more ≤ runs → starts from ≤ starts (from + more)
starts_later starts runs from zero filled within =
    let same : from ≡ from + 0 = omega arith in
    subst (λ (k : ℕ). starts from ≤ starts k) same (omega arith)
starts_later starts runs from (suc more) filled within =
    let before = starts_later starts runs from more filled (omega arith) in
    let step = filled (from + more) (omega arith) in
    let same : from + more + 1 ≡ from + suc more = omega arith in
    subst (λ (k : ℕ). starts from ≤ starts k) same (omega arith)

starts-le : (starts : ℕ → ℕ) (runs from to : ℕ) → AreFilled starts runs → from ≤ to → to ≤ runs → starts from ≤ starts to
starts-le starts runs from to filled ordered within =
    let parts : from + (to - from) ≡ to = omega arith in
    subst (λ (k : ℕ). starts from ≤ starts k) parts (starts_later starts runs from (to - from) filled (omega arith))

starts-lt : (starts : ℕ → ℕ) (runs from to : ℕ) → AreFilled starts runs → from < to → to ≤ runs → starts from < starts to
starts-lt starts runs from to filled ordered within =
    let step = filled from (omega arith) in
    let rest = starts-le starts runs (from + 1) to filled (omega arith) within in
    omega arith

-- tiles of runs are tiles of their rows
Tiles-starts : {A : Type 0} (starts : ℕ → ℕ) (runs start stop : ℕ) (ends : List ℕ) (values : List A) → AreFilled starts runs → stop ≤ runs → Tiles start stop ends values
    → Tiles (starts start) (starts stop) (map starts ends) values
Tiles-starts starts runs start stop [] [] filled within tiles = ap starts tiles
Tiles-starts starts runs start stop [] (value ∷ values) filled within tiles = absurd tiles
Tiles-starts starts runs start stop (end ∷ ends) [] filled within tiles = absurd tiles
Tiles-starts starts runs start stop (end ∷ ends) (value ∷ values) filled within tiles =
    let order = Tiles-le end stop ends values tiles.2 in
    (starts-lt starts runs start end filled tiles.0 (omega arith), tiles.1, Tiles-starts starts runs end stop ends values filled within tiles.2)

-- and a row shows what its run does
shown-starts : {A : Type 0} (starts : ℕ → ℕ) (runs start stop : ℕ) (ends : List ℕ) (values : List A) (run row : ℕ) → AreFilled starts runs → stop ≤ runs → Tiles start stop ends values
    → run < runs → starts run ≤ row → row < starts (run + 1) → shown_at (map starts ends) values row ≡ shown_at ends values run
shown-starts starts runs start stop [] [] run row filled within tiles there from to = refl
shown-starts starts runs start stop [] (value ∷ values) run row filled within tiles there from to = absurd tiles
shown-starts starts runs start stop (end ∷ ends) [] run row filled within tiles there from to = absurd tiles
shown-starts starts runs start stop (end ∷ ends) (value ∷ values) run row filled within tiles there from to =
    let order = Tiles-le end stop ends values tiles.2 in
    elim (cases_lt run end) [
      | inl before ↦
          let later = starts-le starts runs (run + 1) end filled (omega arith) (omega arith) in
          shown_at-here (starts end) (map starts ends) value values row (omega arith) ∙ sym (shown_at-here end ends value values run before)
      | inr past ↦
          let earlier = starts-le starts runs end run filled past (omega arith) in
          shown_at-past (starts end) (map starts ends) value values row (omega arith)
          ∙ shown-starts starts runs end stop ends values run row filled within tiles.2 there from to
          ∙ sym (shown_at-past end ends value values run past)
    ]

-- a row, and the run that it is in
pub record IsInRun {A : Type 0} (starts : ℕ → ℕ) (values : List A) (rows : List A) (row : ℕ) : Type 0 where
  pub run : ℕ
  pub there : run < length values
  pub from : starts run ≤ row
  pub to : row < starts (run + 1)
  pub shows : slice_get rows row ≡ slice_get values run

-- the tight cover of the values of runs is that of their rows, with the ends counted in rows
pub IsTightCover-of_runs : {A : Type 0} (starts : ℕ → ℕ) (values rows : List A) (ends : List ℕ) (joined : List A)
    → length rows < 2 ^ 64 → AreFilled starts (length values) → starts 0 ≡ 0 → starts (length values) ≡ length rows
    → ((row : ℕ) → row < length rows → IsInRun starts values rows row)
    → IsTightCover values ends joined → IsTightCover rows (map starts ends) joined
IsTightCover-of_runs starts values rows ends joined small filled first last each cover =
    let runs = length values in
    let tiles = Tiles-from_IsTightCover values ends joined cover in
    let moved = Tiles-starts starts runs 0 runs ends joined filled (omega arith) tiles in
    let whole : Tiles 0 (length rows) (map starts ends) joined =
    subst (λ (k : ℕ). Tiles k (length rows) (map starts ends) joined) first (subst (λ (k : ℕ). Tiles (starts 0) k (map starts ends) joined) last moved) in
    IsTightCover-from_Tiles rows (map starts ends) joined small whole (λ row within.
    let in_run = each row within in
    in_run.shows ∙ sym (shown-from_IsTightCover values ends joined in_run.run cover in_run.there)
    ∙ sym (shown-starts starts runs 0 runs ends joined in_run.run row filled (omega arith) tiles in_run.there in_run.from in_run.to))
