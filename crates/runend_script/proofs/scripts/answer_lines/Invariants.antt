use Rattle.std.specs.String.{string_bytes}
use Rattle.runend_script.specs.AnswerLines.{AddsLines}
use Rattle.runend_script.proofs.scripts.answer_lines.Given as goal

abbrev pub invariant-loop-line : goal.invariant-loop-line
invariant-loop-line g l = AddsLines (string_bytes l.initial.answers) (string_bytes l.answers)
