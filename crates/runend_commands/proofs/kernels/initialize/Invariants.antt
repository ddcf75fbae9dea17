-- The kernels so far are registered.
use Rattle.std.proofs.Common.{◌≡◌, true, ◌<◌}
use Rattle.runend_array.specs.SessionForm.{is_registered_in, kernel_index}
use Rattle.runend_array.specs.declared.session.Kernel.{Kernel}
use Rattle.runend_commands.proofs.kernels.initialize.Given as goal

abbrev pub invariant-loop-kernel : goal.invariant-loop-kernel
invariant-loop-kernel l =
    (k : Kernel) → kernel_index k < l.kernel-index → is_registered_in l.session k ≡ true
