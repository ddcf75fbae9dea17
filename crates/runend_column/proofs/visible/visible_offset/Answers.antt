use Rattle.std.proofs.Common.{◌∙◌, ℕ, ap, sym}
use Rattle.runend_column.specs.VisibleForm.{window_start}
use Rattle.runend_column.proofs.AnsweredRows.{start_of_rows}
use Rattle.runend_column.proofs.visible.visible_offset.Goals as goal

pub returns-then-is_empty : goal.returns-then-is_empty
returns-then-is_empty g c = sym (ap (λ (n : ℕ). window_start n c.args.array.now.offset) (c.is_empty.ensures.0 c.if-is_empty.true))

pub returns-else-is_empty : goal.returns-else-is_empty
returns-else-is_empty g c =
    c.offset.ensures ∙ start_of_rows c.args.array.now.count c.args.array.now.offset (λ none. let yes = c.is_empty.ensures.1 none in let no = c.if-is_empty.false in cc)
