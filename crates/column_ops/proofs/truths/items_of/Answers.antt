use Rattle.std.proofs.Common.{◌∙◌, ◌++◌, ◌∷◌, [], sym, ap, add-one}
use Rattle.column_ops.proofs.Passed.{take_next}
use Rattle.column_ops.proofs.truths.items_of.Goals as goal

pub loop-row-preserved : goal.loop-row-preserved
loop-row-preserved g c =
    rw add-one (c.in_ok-push.ensures.items ∙ ap (λ old. old ++ c.value.result ∷ []) c.loop-row.invariant ∙ sym (take_next c.args.bits.now c.loop-row.row c.value.result c.value.ensures))
