-- What the typed decoders are given, ends from any iterator and values under a mask, and what they answer. A run may be
-- empty.
use Rattle.std.specs.Prelude.{◌≡◌, ℕ, ◌<◌, ℤ, List, Bool, Option, length, map, option_map, slice_get}
use Rattle.std.specs.Iterator.{AlwaysYields}
use Rattle.std.specs.List.Sorted.{IsNonDecreasing}
use Rattle.column_base.specs.declared.dtype.Nullability.{Nullability}
use Rattle.column_base.specs.declared.dtype.Nullability.TheVariants.{NonNullable, Nullable}
use Rattle.column_base.specs.declared.mask.Mask.{Mask}
use Rattle.column_base.specs.declared.mask.Mask.TheVariants.{AllTrue, AllFalse, Values}
use Rattle.column_core.specs.Value.{Value, Truth, Number, Single}
use Rattle.column_core.specs.Optionals.{optionals}
use Rattle.runend_windows.specs.Window.{run_at, last_end}

-- the iterator gives these ends and no more: one for each run, none below the one before it, and the last one after the
-- last of `count` rows; so a column without runs has no rows
pub record AreRunEnds {S : Type 0} (gives : S → Option ℕ → S → Type 0) (run_ends : S) (runs count : ℕ) (ends : List ℕ) : Type 0 where
  pub yields : AlwaysYields gives (λ end. end) run_ends ends
  pub paired : length ends ≡ runs
  pub ordered : IsNonDecreasing ends
  pub last : last_end ends ≡ count

-- `count` rows, each the value of the first run that ends past it
pub record Fills {X : Type 0} (rows : List X) (ends : List ℕ) (values : List X) (count : ℕ) : Type 0 where
  pub counted : length rows ≡ count
  pub each : (i : ℕ) → i < count → slice_get rows i ≡ slice_get values (run_at ends i)

-- the values of runs, null where the mask is false
abbrev pub masked_values : List ℤ → List Bool → List (Option Value)
masked_values numbers bits = map (option_map Single) (map (option_map Number) (optionals numbers bits))

abbrev pub masked_truths : List Bool → List Bool → List (Option Value)
masked_truths truths bits = map (option_map Single) (map (option_map Truth) (optionals truths bits))

-- a type without null goes only with a mask that is all true by its form
abbrev pub FitsMask : {A : Type 0} → Nullability → Mask A → Type 0
FitsMask Nullable mask = Unit {0}
FitsMask NonNullable (AllTrue count) = Unit {0}
FitsMask NonNullable (AllFalse count) = ⊥
FitsMask NonNullable (Values bits) = ⊥
