use Rattle.std.proofs.Common.{◌≡◌, ◌++◌, [], ◌∷◌, ◌∙◌, take, arith, rules}
use Rattle.std.proofs.lemmas.List.{take_more, take_all}
use Rattle.runend_commands.specs.KernelForms.{IsStepIn}
use Rattle.runend_commands.specs.Step.{IsStep}
use Rattle.runend_commands.proofs.Chains.{chain_more, chain_weaker}
use Rattle.runend_commands.proofs.execution.execute.Goals as goal

pub loop-command-preserved : goal.loop-command-preserved
loop-command-preserved g c =
    let l = c.loop-command in
    let commands = c.args.commands.now in
    let command = c.command-item.result in
    let answer = c.execute_one-answer in
    let pushed : c.push.new.self.items ≡ l.answers.items ++ answer.result ∷ [] = rw c.unwrap.ensures at c.push.ensures.items in
    let step : IsStepIn c.args.ctx.now l.column command answer.result answer.new.column = rw l.invariant.session at answer.ensures.step in
    record {
      run = rw (take_more commands l.command-index command (omega arith), ← c.command-item.is, pushed)
          (chain_more (IsStepIn c.args.ctx.now) c.args.column.now l.column answer.new.column (take l.command-index commands) l.answers.items command answer.result l.invariant.run step);
      room = omega arith;
      counted = search rules;
      session = answer.ensures.session ∙ l.invariant.session;
    }

pub returns-clause-forms : goal.returns-clause-forms
returns-clause-forms g c = rw (take_all c.loop-command.command-index c.args.commands.now (omega arith)) at c.loop-command.invariant.run

pub returns-clause-run : goal.returns-clause-run
returns-clause-run g c =
    let l = c.loop-command in
    chain_weaker (IsStepIn c.args.ctx.now) IsStep (λ before command answer after step. step.0) c.args.column.now l.column c.args.commands.now l.answers.items (returns-clause-forms g c)
