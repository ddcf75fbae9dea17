use Rattle.std.proofs.Common.{◌≡◌, ◌<◌, ◌^◌, ◌++◌, ◌∷◌, [], length, sym, subst, arith}
use Rattle.column_base.specs.Bits.{set_indices_of}
use Rattle.column_core.specs.Leaf.{single_rows}
use Rattle.column_ops.proofs.Arms.{if_ok}
use Rattle.runend_encode.specs.Starts.{AreRunEnds}
use Rattle.runend_encode.proofs.Starts.{AreRunEnds-of_changes}
use Rattle.runend_encode.proofs.Starts.{length-single}
use Rattle.runend_encode.proofs.run_ends.run_ends.Goals as goal

pub returns-clause-ends : goal.returns-clause-ends
returns-clause-ends g c =
    let leaf = g.R.ColumnOps.leaf c.args.column.now in
    let rows = single_rows leaf in
    let bits = c.in_ok-changes.changes in
    let counted = length-single leaf in
    let some : 0 < length rows = omega (arith, c.row_count.ensures) in
    let small : length rows < 2 ^ 64 = omega (arith, c.row_count.ensures) in
    let ends = AreRunEnds-of_changes rows bits c.in_ok-changes.ensures.changes some small in
    if_ok c.of_changes-bounds.result (λ bounds. bounds ≡ set_indices_of bits ++ length bits ∷ []) (AreRunEnds rows)
    (λ bounds are. subst (AreRunEnds rows) (sym are) ends) c.of_changes-bounds.ensures.ends
