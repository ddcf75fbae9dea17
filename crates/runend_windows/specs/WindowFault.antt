-- Why ends and a window are none of runs: the first fault, in the order in which they are tested.
use Rattle.std.specs.Prelude.{◌≡◌, ◌≢◌, ℕ, ◌+◌, ◌-◌, ◌^◌, ◌<◌, ◌≤◌, List, length, slice_index}
use Rattle.std.specs.List.Sorted.{IsStrictlyIncreasing}
use Rattle.column_base.specs.declared.error.VortexError.{VortexError}
use Rattle.column_base.specs.declared.error.VortexError.TheVariants.{LengthsDiffer, NoRunsWindow, EndsNotStrict, WindowOverflow, FirstEndBelowOffset, LastEndBelowWindow}
use Rattle.runend_windows.specs.Window.{last_end}

-- the first run whose end is not above the end before it
pub record IsFirstFall (ends : List ℕ) (run : ℕ) : Type 0 where
  pub later : 0 < run
  pub within : run < length ends
  pub falls : slice_index ends run ≤ slice_index ends (run - 1)
  pub least : (k : ℕ) → k + 1 < run → slice_index ends k < slice_index ends (k + 1)

-- there are runs, as many values, and strictly increasing ends
pub record AreStrictRuns (ends : List ℕ) (values : ℕ) : Type 0 where
  pub paired : values ≡ length ends
  pub some : 0 < length ends
  pub increasing : IsStrictlyIncreasing ends

-- the first fault of a window over these ends and a number of values
abbrev pub WindowFault : List ℕ → ℕ → ℕ → ℕ → VortexError → Type 0
WindowFault ends values offset count (LengthsDiffer e v) = (e ≡ length ends) × (v ≡ values) × (length ends ≢ values)
WindowFault ends values offset count (NoRunsWindow o n) = (values ≡ length ends) × (length ends ≡ 0) × (o ≡ offset) × (n ≡ count) × (0 < offset + count)
WindowFault ends values offset count (EndsNotStrict run) = (values ≡ length ends) × IsFirstFall ends run
WindowFault ends values offset count WindowOverflow = AreStrictRuns ends values × (2 ^ 64 ≤ offset + count)
WindowFault ends values offset count (FirstEndBelowOffset e o) = AreStrictRuns ends values × (offset + count < 2 ^ 64) × (e ≡ slice_index ends 0) × (o ≡ offset) × (0 < count) × (e < offset)
WindowFault ends values offset count (LastEndBelowWindow e r) = AreStrictRuns ends values × (offset + count < 2 ^ 64) × (offset ≤ slice_index ends 0) × (e ≡ last_end ends) × (r ≡ offset + count) × (0 < count) × (e < r)
WindowFault ends values offset count error = ⊥
