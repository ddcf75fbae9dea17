use Rattle.std.proofs.Common.{◌≡◌, length, map}
use Rattle.column_core.specs.Optionals.{optionals}
use Rattle.runend_script.proofs.ListedRows.{AreTaken}
use Rattle.runend_script.proofs.values.push_rows.Given as goal

abbrev pub invariant-loop-word : goal.invariant-loop-word
invariant-loop-word g l =
    (length l.items.items ≡ length l.valid)
    × AreTaken g.T.NativePType.number (λ word. word.now) l.reading l.nullability l.yielded (optionals (map g.T.NativePType.number l.initial.items.items) l.initial.valid) l.items.items l.valid
