use Rattle.std.proofs.Common.{◌≡◌, codes, rules}
use Rattle.std.specs.String.{string_bytes}
use Rattle.runend_script.proofs.FloatAnswers.{sum_answered}
use Rattle.runend_script.proofs.floats.sum_line.Goals as goal

pub returns-clause-answer : goal.returns-clause-answer
returns-clause-answer g c =
    let named : string_bytes c.in_ok-line.line ≡ codes "sum" = search rules in
    sum_answered c.args.column.now c.in_ok-sum.sum c.rounded.result (string_bytes c.in_ok-line.line) (string_bytes c.push_row.new.line) c.in_ok-sum.ensures.sum c.rounded.ensures named c.in_ok-push_row.ensures
