use Rattle.std.proofs.Common.{length, arith}
use Rattle.column_base.specs.Validity.{validity_flags}
use Rattle.column_core.specs.Optionals.{optionals}
use Rattle.column_ops.proofs.Passed.{passed_all}
use Rattle.runend_map.proofs.MapResultRows.{all_at, zipped_next}
use Rattle.runend_column.proofs.PassedOn.{no_value}
use Rattle.runend_map.proofs.answers.answers.Goals as goal

pub loop-row-preserved : goal.loop-row-preserved
loop-row-preserved g c =
    zipped_next (λ row answer. g.F.Fn.post c.args.function.now (row, tt) answer) (optionals c.args.items.now (validity_flags c.args.validity.now (length c.args.items.now))) c.loop-row.row c.item_at.result
    c.function-answer.result c.loop-row.answers.items c.push.new.self.items c.item_at.ensures.row c.loop-row.invariant c.function-answer.ensures c.in_ok-push.ensures.items

pub returns-clause-each : goal.returns-clause-each
returns-clause-each g c =
    let all = passed_all c.args.items.now (validity_flags c.args.validity.now (length c.args.items.now)) c.loop-row.row (omega arith) in
    rw all at c.loop-row.invariant

pub item_at-requires-clause-fits : goal.item_at-requires-clause-fits
item_at-requires-clause-fits g c = c.requires.fits

pub returns-clause-only : goal.returns-clause-only
returns-clause-only g c = tt

pub returns-in_err-answers-clause-each : goal.returns-in_err-answers-clause-each
returns-in_err-answers-clause-each g c = no_value _ c.from_residual.result c.from_residual.ensures.0

pub returns-in_err-push-clause-each : goal.returns-in_err-push-clause-each
returns-in_err-push-clause-each g c = no_value _ c.from_residual-in_err-push.result c.from_residual-in_err-push.ensures.0

pub function-answer-requires : goal.function-answer-requires
function-answer-requires g c =
    all_at (λ row. g.F.Fn.pre c.args.function.now (row, tt)) (optionals c.args.items.now (validity_flags c.args.validity.now (length c.args.items.now))) c.loop-row.row c.item_at.result c.item_at.ensures.row
    c.requires.callable
