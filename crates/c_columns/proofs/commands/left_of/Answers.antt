use Rattle.c_columns.proofs.Left.{left_new, left_same}
use Rattle.c_columns.proofs.commands.left_of.Goals as goal

pub returns-in-Becomes-clause-left : goal.returns-in-Becomes-clause-left
returns-in-Becomes-clause-left c =
    let outcome = rw c.in-Becomes.is at c.in_ok-left.ensures.outcome in
    left_new c.args.session.now c.context-ctx.result c.args.array.now c.in-Becomes.left c.args.command.now c.context-ctx.ensures outcome.0 outcome.1

pub returns-in_ok-copied-in-Answers-clause-left : goal.returns-in_ok-copied-in-Answers-clause-left
returns-in_ok-copied-in-Answers-clause-left c =
    let outcome = rw c.in-Answers.is at c.in_ok-left.ensures.outcome in
    let copied = c.in_ok-copied-in-Answers in
    left_same c.args.session.now c.context-ctx.result c.args.array.now copied.copied c.args.command.now c.in-Answers.answer c.context-ctx.ensures outcome.0 outcome.1 copied.ensures.same
