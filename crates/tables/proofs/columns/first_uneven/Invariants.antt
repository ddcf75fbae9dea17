-- Each column so far has this many rows.
use Rattle.std.proofs.Common.{◌≡◌, ◌<◌, ℕ, length, map}
use Rattle.std.specs.Prelude.{slice_index_or}
use Rattle.runend_array.specs.Column.{column_rows}
use Rattle.typed_columns.specs.Typed.{TypedForm, typed_of}
use Rattle.tables.proofs.columns.first_uneven.Given as goal

abbrev pub invariant-loop-place : goal.invariant-loop-place
invariant-loop-place g l = (k : ℕ) (d : TypedForm) → k < l.place → length (column_rows (slice_index_or (map typed_of l.fn.columns) k d).column) ≡ l.fn.wanted
