-- Texts in a range of one buffer, and their views once that range is elsewhere.
use Rattle.std.specs.Prelude.{ℕ, zero, suc, ◌+◌, ◌-◌, ◌<◌, ◌≤◌}
use Rattle.column_core.specs.VarBinForm.{zero_view}
use Rattle.column_core.specs.declared.varbinview.View.{View}

-- the text of the view, if it has a byte, lies in the range
abbrev pub IsInSpan : ℕ → ℕ → View → Type 0
IsInSpan start end view = 0 < view.size → (start ≤ view.start) × (view.start + view.size ≤ end)

-- the view of a number of bytes from a byte of the one buffer on: the view of nothing is the zero view
abbrev pub placed_view : ℕ → ℕ → View
placed_view start zero = zero_view
placed_view start (suc size) = record { buffer = 0; start = start; size = suc size }

-- the view of a text once the range that begins at this byte begins at byte `base` of the one buffer
abbrev pub moved_view : ℕ → ℕ → View → View
moved_view start base view = placed_view (base + (view.start - start)) view.size
