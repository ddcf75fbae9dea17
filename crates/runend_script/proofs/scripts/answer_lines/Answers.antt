use Rattle.std.specs.String.{string_bytes}
use Rattle.runend_script.proofs.AnswerLines.{more_lines}
use Rattle.runend_script.proofs.scripts.answer_lines.Goals as goal

pub returns-in_err-bad-clause-lines : goal.returns-in_err-bad-clause-lines
returns-in_err-bad-clause-lines g c = more_lines (string_bytes c.args.answers.now) (string_bytes c.loop-line.answers) (string_bytes c.push_reply.new.answers) c.loop-line.invariant c.push_reply.ensures

pub returns-then-bad-clause-lines : goal.returns-then-bad-clause-lines
returns-then-bad-clause-lines g c = more_lines (string_bytes c.args.answers.now) (string_bytes c.loop-line.answers) (string_bytes c.push_reply.new.answers) c.loop-line.invariant c.push_reply.ensures

pub loop-line-preserved : goal.loop-line-preserved
loop-line-preserved g c = more_lines (string_bytes c.args.answers.now) (string_bytes c.loop-line.answers) (string_bytes c.push_reply.new.answers) c.loop-line.invariant c.push_reply.ensures
