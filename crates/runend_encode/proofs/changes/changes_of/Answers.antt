use Rattle.std.proofs.Common.{◌∙◌, sym, subst, arith}
use Rattle.column_core.specs.Leaf.{single_rows}
use Rattle.runend_windows.specs.Starts.{AreChanges}
use Rattle.runend_windows.proofs.ChangedRows.{AreChanges-of_words}
use Rattle.runend_encode.proofs.Starts.{length-single}
use Rattle.runend_encode.proofs.changes.changes_of.Goals as goal

pub returns-clause-changes : goal.returns-clause-changes
returns-clause-changes g c =
    let leaf = g.R.ColumnOps.leaf c.args.column.now in
    let counted = length-single leaf in
    subst (AreChanges (single_rows leaf)) (sym (c.freeze.ensures ∙ c.from_words.ensures))
    (AreChanges-of_words (single_rows leaf) c.in_ok-words.words.items c.row_count.result (c.row_count.ensures ∙ sym counted)
    (λ row within. c.in_ok-words.ensures.digits row (omega arith)))
