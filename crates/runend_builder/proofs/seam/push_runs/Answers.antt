use Rattle.std.proofs.Common.{◌≤◌, ℕ, length, subst, sym, arith}
use Rattle.column_core.specs.FlatView.{leaf_in}
use Rattle.column_core.specs.Leaf.{leaf_rows}
use Rattle.runend_builder.proofs.Seams.{skipped_within}
use Rattle.runend_builder.proofs.seam.push_runs.Goals as goal

pub append-requires-clause-within : goal.append-requires-clause-within
append-requires-clause-within g c =
    let count = length (leaf_rows (leaf_in c.args.part_values)) in
    subst (λ (n : ℕ). n ≤ count) (sym c.skipped.ensures) (skipped_within c.args.goes_on count c.requires.some)
