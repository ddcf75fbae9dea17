use Rattle.std.proofs.Common.{◌≡◌, ◌≤◌, length, take}
use Rattle.std.specs.Vec.{vec_capacity, vec_len}
use Rattle.runend_commands.specs.KernelForms.{IsExecutionIn}
use Rattle.runend_commands.proofs.execution.execute.Given as goal

abbrev pub invariant-loop-command : goal.invariant-loop-command
invariant-loop-command g l = record {
  run : IsExecutionIn l.fn.ctx l.fn.column (take l.command-index l.commands) l.answers.items l.column;
  room : length l.commands ≤ vec_capacity l.answers;
  counted : vec_len l.answers ≡ l.command-index;
  session : l.ctx ≡ l.fn.ctx;
}
