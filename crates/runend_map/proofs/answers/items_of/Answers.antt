use Rattle.std.proofs.Common.{◌∙◌, map, ap, arith}
use Rattle.std.specs.Prelude.{unwrap_or}
use Rattle.std.proofs.lemmas.List.{take_all}
use Rattle.runend_map.proofs.MapResultRows.{mapped_next}
use Rattle.runend_column.proofs.PassedOn.{no_value}
use Rattle.runend_map.proofs.answers.items_of.Goals as goal

pub loop-row-preserved : goal.loop-row-preserved
loop-row-preserved g c =
    mapped_next (λ r. unwrap_or r c.args.blank) c.args.rows.now c.loop-row.row c.index-rows-row.result c.unwrap_or.result c.loop-row.items.items c.push.new.self.items c.loop-row-test.true c.index-rows-row.is
    c.loop-row.invariant c.unwrap_or.ensures c.in_ok-push.ensures.items

pub returns-clause-only : goal.returns-clause-only
returns-clause-only g c = tt

pub returns-clause-items : goal.returns-clause-items
returns-clause-items g c = c.loop-row.invariant ∙ ap (map (λ r. unwrap_or r c.args.blank)) (take_all c.loop-row.row c.args.rows.now (omega arith))

pub returns-in_err-items-clause-items : goal.returns-in_err-items-clause-items
returns-in_err-items-clause-items g c = no_value _ c.from_residual.result c.from_residual.ensures.0

pub returns-in_err-push-clause-items : goal.returns-in_err-push-clause-items
returns-in_err-push-clause-items g c = no_value _ c.from_residual-in_err-push.result c.from_residual-in_err-push.ensures.0
