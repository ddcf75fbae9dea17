-- What a session holds.
use Rattle.std.specs.Prelude.{ℕ, Bool, false, List, slice_index_or}
use Rattle.runend_array.specs.declared.session.Kernel.{Kernel}
use Rattle.runend_array.specs.declared.session.Kernel.TheVariants.{Slice, Filter, Take, TakeFrom, Compare, Cast, FillNull, ScalarFn, Sum, MinMax, IsConstant, IsSorted}
use Rattle.runend_array.specs.declared.session.Thresholds.{Thresholds}

-- a flag for each kernel, in the order of the kernels, and the thresholds
pub record SessionForm : Type 0 where
  pub flags : List Bool
  pub thresholds : Thresholds

-- the place of a kernel in the order of the kernels
abbrev pub kernel_index : Kernel → ℕ
kernel_index Slice = 0
kernel_index Filter = 1
kernel_index Take = 2
kernel_index TakeFrom = 3
kernel_index Compare = 4
kernel_index Cast = 5
kernel_index FillNull = 6
kernel_index ScalarFn = 7
kernel_index Sum = 8
kernel_index MinMax = 9
kernel_index IsConstant = 10
kernel_index IsSorted = 11

-- whether the kernel is registered
abbrev pub is_registered_in : SessionForm → Kernel → Bool
is_registered_in session kernel = slice_index_or session.flags (kernel_index kernel) false

-- the thresholds of a session that has none: all 0
abbrev pub no_thresholds : Thresholds
no_thresholds = record { prefill_runs = 0; min_run_filter_rows = 0; filter_factor = 0; sorted_runs_per_index = 0; table_len_per_index = 0; unsorted_min_runs = 0; unsorted_runs_per_index = 0 }

-- the thresholds that `initialize` sets
abbrev pub crate_thresholds : Thresholds
crate_thresholds = record { prefill_runs = 32; min_run_filter_rows = 25; filter_factor = 10; sorted_runs_per_index = 16; table_len_per_index = 8; unsorted_min_runs = 524288; unsorted_runs_per_index = 4 }
