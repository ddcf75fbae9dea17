use Rattle.std.proofs.Common.{◌≡◌, ◌∙◌, ap, codes, rules}
use Rattle.std.specs.String.{string_bytes}
use Rattle.column_floats.specs.Formats.{format_of}
use Rattle.runend_script.proofs.FloatAnswers.{ends_answered}
use Rattle.runend_script.proofs.floats.extremes_line.Goals as goal

pub returns-clause-answer : goal.returns-clause-answer
returns-clause-answer g c =
    let named : string_bytes c.in_ok-line.line ≡ codes "minmax" = search rules in
    ends_answered c.args.column.now c.in_ok-format.format c.in-Some.ends (string_bytes c.in_ok-line.line) (string_bytes c.push_row.new.line) (string_bytes c.push_row-2.new.line)
    (c.in_ok-format.ensures.format.1 ∙ ap format_of c.dtype.ensures) (rw c.in-Some.is at c.in_ok-found.ensures.extremes) named c.in_ok-push_row.ensures c.in_ok-push_row-2.ensures
