-- Ends and starts of runs, as a walk over the rows finds them.
use Rattle.std.proofs.Common.{◌≡◌, ◌≢◌, ◌∙◌, ◌+◌, ◌<◌, ◌^◌, ◌++◌, ℕ, List, [], ◌∷◌, Some, length, map, refl, take, sym, ap, subst}
use Rattle.std.specs.Prelude.{slice_get, slice_index_or}
use Rattle.std.proofs.lemmas.List.{map-append}
use Rattle.std.proofs.lemmas.Option.{get_or_from_slice_get}
use Rattle.runend_windows.specs.Cover.{IsTightCover}
use Rattle.runend_windows.specs.Starts.{items_at, starts_from}
use Rattle.runend_windows.proofs.Grow.{Open, Open-first, Open-same, Open-next, Open-done}

-- where the run starts that comes after closed runs
abbrev pub start_behind : ℕ → List ℕ → ℕ
start_behind start [] = start
start_behind start (end ∷ ends) = start_behind end ends

pub starts_from-push : (start : ℕ) (ends : List ℕ) (end : ℕ) → starts_from start (ends ++ end ∷ []) ≡ starts_from start ends ++ start_behind start ends ∷ []
starts_from-push start [] end = refl
starts_from-push start (first ∷ ends) end = ap (λ starts. start ∷ starts) (starts_from-push first ends end)

pub start_behind-push : (start : ℕ) (ends : List ℕ) (end : ℕ) → start_behind start (ends ++ end ∷ []) ≡ end
start_behind-push start [] end = refl
start_behind-push start (first ∷ ends) end = start_behind-push first ends end

-- each run but the first starts where the one before it ends
pub starts_from-bounds : (start : ℕ) (ends : List ℕ) → take (length ends) (start ∷ ends) ≡ starts_from start ends
starts_from-bounds start [] = refl
starts_from-bounds start (end ∷ ends) = ap (λ starts. start ∷ starts) (starts_from-bounds end ends)

-- the values of closed runs and of the open one
pub items_at-push : {B : Type 0} (blank : B) (rows : List B) (ends : List ℕ) (end : ℕ) (value : B) → slice_index_or rows (start_behind 0 ends) blank ≡ value
    → items_at blank rows (starts_from 0 (ends ++ end ∷ [])) ≡ items_at blank rows (starts_from 0 ends) ++ value ∷ []
items_at-push blank rows ends end value first =
    ap (items_at blank rows) (starts_from-push 0 ends end)
    ∙ map-append (λ place. slice_index_or rows place blank) (starts_from 0 ends) (start_behind 0 ends ∷ [])
    ∙ ap (λ v. items_at blank rows (starts_from 0 ends) ++ v ∷ []) first

-- what is taken at the first row of each run, when one more is closed
pub taken-push : {B : Type 0} (f : ℕ → B) (ends : List ℕ) (end start : ℕ) (values : List B) (value : B) → start ≡ start_behind 0 ends → f start ≡ value
    → values ≡ map f (starts_from 0 ends) → values ++ value ∷ [] ≡ map f (starts_from 0 (ends ++ end ∷ []))
taken-push f ends end start values value place here taken =
    sym (ap (map f) (starts_from-push 0 ends end)
    ∙ map-append f (starts_from 0 ends) (start_behind 0 ends ∷ [])
    ∙ ap (λ v. map f (starts_from 0 ends) ++ v ∷ []) (ap f (sym place) ∙ here)
    ∙ ap (λ vs. vs ++ value ∷ []) (sym taken))

-- a walk has closed the runs with these ends, and its open run of `value` reaches to row `reached`
pub record OpenEnds {B : Type 0} (blank : B) (rows : List B) (reached : ℕ) (ends : List ℕ) (value : B) : Type 0 where
  pub opened : Open rows reached ends (items_at blank rows (starts_from 0 ends)) value
  pub first : slice_index_or rows (start_behind 0 ends) blank ≡ value

pub OpenEnds-first : {B : Type 0} (blank : B) (rows : List B) (value : B) → slice_get rows 0 ≡ Some value → OpenEnds blank rows 1 [] value
OpenEnds-first blank rows value row = record { opened = Open-first rows value row; first = get_or_from_slice_get rows 0 value blank row }

pub OpenEnds-same : {B : Type 0} (blank : B) (rows : List B) (reached : ℕ) (ends : List ℕ) (value next : B) → slice_get rows reached ≡ Some next → next ≡ value
    → OpenEnds blank rows reached ends value → OpenEnds blank rows (reached + 1) ends value
OpenEnds-same blank rows reached ends value next row same walk = record {
  opened = Open-same rows reached ends (items_at blank rows (starts_from 0 ends)) value next row same walk.opened;
  first = walk.first;
}

pub OpenEnds-next : {B : Type 0} (blank : B) (rows : List B) (reached : ℕ) (ends : List ℕ) (value next : B) → slice_get rows reached ≡ Some next → value ≢ next
    → OpenEnds blank rows reached ends value → OpenEnds blank rows (reached + 1) (ends ++ reached ∷ []) next
OpenEnds-next blank rows reached ends value next row differs walk =
    let grown = Open-next rows reached ends (items_at blank rows (starts_from 0 ends)) value next row differs walk.opened in
    record {
      opened = subst (λ values. Open rows (reached + 1) (ends ++ reached ∷ []) values next) (sym (items_at-push blank rows ends reached value walk.first)) grown;
      first = ap (λ (place : ℕ). slice_index_or rows place blank) (start_behind-push 0 ends reached) ∙ get_or_from_slice_get rows reached next blank row;
    }

pub OpenEnds-done : {B : Type 0} (blank : B) (rows : List B) (reached : ℕ) (ends : List ℕ) (value : B) → length rows < 2 ^ 64 → reached ≡ length rows
    → OpenEnds blank rows reached ends value → IsTightCover rows (ends ++ reached ∷ []) (items_at blank rows (starts_from 0 (ends ++ reached ∷ [])))
OpenEnds-done blank rows reached ends value small all walk =
    subst (λ values. IsTightCover rows (ends ++ reached ∷ []) values) (sym (items_at-push blank rows ends reached value walk.first))
    (Open-done rows reached ends (items_at blank rows (starts_from 0 ends)) value small all walk.opened)
