use Rattle.std.proofs.Common.{◌≡◌, ◌∙◌, ap, codes, rules}
use Rattle.std.specs.String.{string_bytes}
use Rattle.column_floats.specs.Formats.{format_of}
use Rattle.runend_script.proofs.FloatAnswers.{row_answered}
use Rattle.runend_script.proofs.floats.row_line.Goals as goal

pub returns-clause-answer : goal.returns-clause-answer
returns-clause-answer g c =
    let named : string_bytes c.in_ok-line.line ≡ codes "value" = search rules in
    row_answered c.args.column.now c.in_ok-format.format c.args.index c.in_ok-float.float (string_bytes c.in_ok-line.line) (string_bytes c.push_row.new.line)
    (c.in_ok-format.ensures.format.1 ∙ ap format_of c.dtype.ensures) c.in_ok-float.ensures.float named c.in_ok-push_row.ensures
