use Rattle.std.proofs.Common.{◌∙◌, arith, sym}
use Rattle.runend_pairs.proofs.GroupPicked.{count-null, count-valid, numbers_le_rows}
use Rattle.runend_pairs.proofs.counts.ValidCountFoldU64.add.Goals as goal

pub returns-then-is_some : goal.returns-then-is_some
returns-then-is_some g c = λ before some short kept.
    let counted = count-valid g.T.NativePType.number before c.args.value c.args.rows (sym c.is_some.ensures ∙ c.if-is_some.true) in
    let fewer = numbers_le_rows before in
    omega (arith, c.saturating_add-self.ensures, counted)

pub returns-else-is_some : goal.returns-else-is_some
returns-else-is_some g c = λ before some short kept.
    let counted = count-null g.T.NativePType.number before c.args.value c.args.rows (sym c.is_some.ensures ∙ c.if-is_some.false) in
    omega (arith, counted)
