use Rattle.std.proofs.Common.{◌∙◌, Option, subst}
use Rattle.column_base.specs.declared.error.VortexError.{VortexError}
use Rattle.column_core.specs.Refusal.{IsRefusedBy}
use Rattle.runend_map.proofs.KeptRows.{if_ok}
use Rattle.runend_commands.proofs.ComparedColumns.{constant_compared, constant_fault}
use Rattle.runend_commands.proofs.compute.scalar_comparisons.truths_of_runs.Goals as goal

pub returns-clause-refused : goal.returns-clause-refused
returns-clause-refused g c =
    let copy = c.in_ok-value in
    subst (λ (fault : Option VortexError). IsRefusedBy fault c.compare-truths.result)
    (constant_fault c.args.runs.now c.new.result copy.value c.args.value.now c.len.result c.new.ensures copy.ensures.same c.len.ensures) c.compare-truths.ensures.refused

pub returns-clause-rows : goal.returns-clause-rows
returns-clause-rows g c =
    let copy = c.in_ok-value in
    if_ok c.compare-truths.result (λ truths same.
    same ∙ constant_compared c.args.runs.now c.new.result copy.value c.args.value.now c.len.result c.new.ensures copy.ensures.same c.len.ensures c.args.operator) c.compare-truths.ensures.rows
