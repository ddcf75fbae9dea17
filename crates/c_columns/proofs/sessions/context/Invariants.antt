-- The kernels so far are registered as their flags say, and no other is.
use Rattle.std.proofs.Common.{◌≡◌, false, ◌<◌, ◌≤◌, slice_index_or}
use Rattle.runend_array.specs.SessionForm.{is_registered_in, kernel_index}
use Rattle.runend_array.specs.declared.session.Kernel.{Kernel}
use Rattle.c_columns.specs.Flags.{flag_of}
use Rattle.c_columns.proofs.sessions.context.Given as goal

abbrev pub invariant-loop-kernel : goal.invariant-loop-kernel
invariant-loop-kernel l =
    record {
      before : (k : Kernel) → kernel_index k < l.kernel-index → is_registered_in l.built k ≡ flag_of (slice_index_or l.session.kernels (kernel_index k) 0);
      after : (k : Kernel) → l.kernel-index ≤ kernel_index k → is_registered_in l.built k ≡ false;
    }
