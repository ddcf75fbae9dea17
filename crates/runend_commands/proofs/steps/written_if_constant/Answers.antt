use Rattle.std.proofs.Common.{◌≡◌, ◌∙◌, sym}
use Rattle.std.proofs.lemmas.Bool.{false≢true}
use Rattle.runend_commands.proofs.Kept.{done_if_written, kernel_if_written, kernel_of_others, kernel_of_slice, outcome_if_short}
use Rattle.runend_commands.proofs.steps.written_if_constant.Goals as goal

pub returns-in-Slice-clause-outcome : goal.returns-in-Slice-clause-outcome
returns-in-Slice-clause-outcome g c =
    (c.requires.done, kernel_of_slice c.args.ctx.now c.args.column.now c.args.after c.args.command.now c.in-Slice.field-0 c.in-Slice.is c.requires.kept)

pub returns-then-not-has_constant_form-clause-outcome : goal.returns-then-not-has_constant_form-clause-outcome
returns-then-not-has_constant_form-clause-outcome g c = (
  c.requires.done,
  kernel_of_others c.args.ctx.now c.args.column.now c.args.after c.args.command.now c.requires.kept
      (λ is. absurd (false≢true (sym c.if-not-has_constant_form.true ∙ c.has_constant_form.ensures.1 is))),
)

pub returns-then-not-has_constant_form-2-clause-outcome : goal.returns-then-not-has_constant_form-2-clause-outcome
returns-then-not-has_constant_form-2-clause-outcome g c = (
  c.requires.done,
  kernel_of_others c.args.ctx.now c.args.column.now c.args.after c.args.command.now c.requires.kept
      (λ is left. false≢true (sym c.if-not-has_constant_form-2.true ∙ c.has_constant_form-2.ensures.1 left)),
)

pub returns-clause-outcome : goal.returns-clause-outcome
returns-clause-outcome g c =
    let before = c.args.column.now in
    let after = c.args.after in
    let written = c.in_ok-written.field-0 in (
      done_if_written before after written c.args.command.now c.requires.done (c.has_constant_form-2.ensures.0 c.if-not-has_constant_form-2.false) c.in_ok-written.ensures.rows c.in_ok-written.ensures.dtype,
      kernel_if_written c.args.ctx.now before written c.args.command.now (c.has_constant_form.ensures.0 c.if-not-has_constant_form.false)
          c.in_ok-written.ensures.form c.in_default.not-Slice,
    )

pub returns-in_err-written-clause-outcome : goal.returns-in_err-written-clause-outcome
returns-in_err-written-clause-outcome g c =
    outcome_if_short c.args.ctx.now c.args.column.now c.args.command.now c.in_err-written.field-0.0 c.from_residual.result c.from_residual.ensures.1 c.in_err-written.ensures.only c.requires.done.answered
