use Rattle.std.proofs.Common.{◌≡◌, Some, FitsSigned, rules}
use Rattle.std.specs.Int.{w128}
use Rattle.logical_types.specs.Units.{kind_of}
use Rattle.logical_types.proofs.SameTimes.{counted, uncounted}
use Rattle.logical_types.proofs.units.recount.Goals as goal

pub returns-in_err-answer : goal.returns-in_err-answer
returns-in_err-answer c =
    uncounted c.args.from c.args.to c.args.value c.tick_of.result c.tick_of-2.result c.ranges.value c.tick_of.ensures c.tick_of-2.ensures c.from_residual-in_err-answer.result c.from_residual-in_err-answer.ensures c.in_err-answer.ensures

pub returns : goal.returns
returns c =
    let first : kind_of c.args.from ≡ Some c.in_ok-kind_of.field-0 = search rules in
    let second : kind_of c.args.to ≡ Some c.in_ok-kind_of.field-0 = search rules in
    let fits : FitsSigned w128 c.in_ok-answer.answer = search rules in
    counted c.args.from c.args.to c.args.value c.tick_of.result c.tick_of-2.result c.ranges.value c.tick_of.ensures c.tick_of-2.ensures c.in_ok-kind_of.field-0 first second c.in_ok-answer.answer c.in_ok-answer.ensures c.fitted.result fits c.fitted.ensures
