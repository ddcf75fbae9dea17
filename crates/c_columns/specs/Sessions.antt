-- The session that C passes.
use Rattle.std.specs.Prelude.{◌≡◌, slice_index_or}
use Rattle.runend_array.specs.Column.{Column}
use Rattle.runend_array.specs.SessionForm.{SessionForm, is_registered_in, kernel_index}
use Rattle.runend_array.specs.declared.session.Kernel.{Kernel}
use Rattle.runend_array.specs.declared.session.Thresholds.{Thresholds}
use Rattle.runend_commands.specs.KernelForms.{IsReadInPlace}
use Rattle.c_columns.specs.Flags.{flag_of}
use Rattle.c_columns.specs.declared.sessions.Session.{Session}

-- the thresholds
abbrev pub thresholds_in : Session → Thresholds
thresholds_in s = record { prefill_runs = s.prefill_runs; min_run_filter_rows = s.min_run_filter_rows; filter_factor = s.filter_factor; sorted_runs_per_index = s.sorted_runs_per_index; table_len_per_index = s.table_len_per_index; unsorted_min_runs = s.unsorted_min_runs; unsorted_runs_per_index = s.unsorted_runs_per_index }

-- each kernel is registered as its flag says, and the thresholds are these
pub record IsSessionOf (s : Session) (form : SessionForm) : Type 0 where
  pub kernels : (k : Kernel) → is_registered_in form k ≡ flag_of (slice_index_or s.kernels (kernel_index k) 0)
  pub thresholds : form.thresholds ≡ thresholds_in s

-- the flag of each kernel is 1
abbrev pub HasAllKernels : Session → Type 0
HasAllKernels s = (k : Kernel) → slice_index_or s.kernels (kernel_index k) 0 ≡ 1

-- under the session the kernel reads the rows of this column where they are
abbrev pub IsReadInPlaceIn : Session → Kernel → Column → Type 0
IsReadInPlaceIn s kernel column = (form : SessionForm) → IsSessionOf s form → IsReadInPlace form kernel column
