use Rattle.std.specs.Prelude.{option_map}
use Rattle.column_core.specs.Value.{FlatValue, Single}
use Rattle.runend_aggregate.proofs.SameRows.{sorted_loosely, sorted_strictly}
use Rattle.runend_aggregate.proofs.constants.is_sorted_of_constant.Goals as goal

pub returns-then-not-strict-clause-answer : goal.returns-then-not-strict-clause-answer
returns-then-not-strict-clause-answer g c =
    let constant = c.args.array.now in
    sorted_loosely c.args.strict (option_map (λ (v : FlatValue). Single v) constant.value) constant.count c.if-not-strict.true

pub returns-else-not-strict-clause-answer : goal.returns-else-not-strict-clause-answer
returns-else-not-strict-clause-answer g c =
    let constant = c.args.array.now in
    sorted_strictly c.args.strict (option_map (λ (v : FlatValue). Single v) constant.value) constant.count c.len.result c.if-not-strict.false c.len.ensures
