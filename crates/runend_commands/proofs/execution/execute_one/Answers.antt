use Rattle.std.proofs.Common.{inl, inr, refl, ap}
use Rattle.runend_commands.specs.declared.command.Answer.TheVariants.{Refused}
use Rattle.runend_commands.specs.Step.{IsShort, IsRefused, Does}
use Rattle.runend_commands.proofs.execution.execute_one.Goals as goal

pub returns-in-Err-clause-step : goal.returns-in-Err-clause-step
returns-in-Err-clause-step g c =
    let outcome = c.in-Err.ensures.outcome in
    (elim outcome.0 [ inl short ↦ IsShort (ap Refused short) refl | inr fault ↦ IsRefused c.in-Err.error fault refl refl ], outcome.1)

pub returns-in-Err-clause-session : goal.returns-in-Err-clause-session
returns-in-Err-clause-session g c = c.outcome_of.ensures.session

pub returns-in-Ok-Becomes-clause-step : goal.returns-in-Ok-Becomes-clause-step
returns-in-Ok-Becomes-clause-step g c =
    let outcome = rw c.in-Ok-Becomes.field-0-is at c.in-Ok-Becomes.ensures.outcome in
    rw c.replace.ensures.after (Does outcome.0, outcome.1)

pub returns-in-Ok-Becomes-clause-session : goal.returns-in-Ok-Becomes-clause-session
returns-in-Ok-Becomes-clause-session g c = c.outcome_of.ensures.session

pub returns-in-Ok-Answers-clause-step : goal.returns-in-Ok-Answers-clause-step
returns-in-Ok-Answers-clause-step g c =
    let outcome = rw c.in-Ok-Answers.field-0-is at c.in-Ok-Answers.ensures.outcome in
    (Does outcome.0, outcome.1)

pub returns-in-Ok-Answers-clause-session : goal.returns-in-Ok-Answers-clause-session
returns-in-Ok-Answers-clause-session g c = c.outcome_of.ensures.session
