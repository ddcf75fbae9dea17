-- What kernels, registered or not, add to the steps of a run: the forms that they leave, and answers that need no
-- memory.
use Rattle.std.specs.Prelude.{◌≡◌, ◌≢◌, ◌⊎◌, List, true}
use Rattle.column_base.specs.declared.dtype.DType.{DType}
use Rattle.column_base.specs.declared.error.VortexError.TheVariants.{OutOfMemory}
use Rattle.column_core.specs.PrimitiveForm.{optional_numbers}
use Rattle.column_ops.specs.Fill.{fill_dtype}
use Rattle.runend_array.specs.Array.{column_of, dtype_of, rows}
use Rattle.runend_array.specs.Column.{Column, OfLeaf, OfConstant, OfLists, OfRuns, Runs, runs_with, IsFlat, IsLeaf}
use Rattle.runend_array.specs.Encoding.{IsDecodedForm}
use Rattle.runend_array.specs.SessionForm.{SessionForm, is_registered_in}
use Rattle.runend_array.specs.declared.array_ref.ArrayRef.{ArrayRef}
use Rattle.runend_array.specs.declared.session.Kernel.{Kernel}
use Rattle.runend_array.specs.declared.session.Kernel.TheVariants as kernel
use Rattle.runend_column.specs.SliceForm.{SliceLeaves}
use Rattle.runend_select.specs.FilterForm.{IsFilterForm}
use Rattle.runend_select.specs.TakeForm.{TakeLeaves}
use Rattle.runend_map.specs.Codes.{keeps_runs}
use Rattle.runend_map.specs.TakenForm.{TakeFromLeaves}
use Rattle.runend_map.specs.ComparisonForm.{IsComparisonForm}
use Rattle.runend_column.specs.MinimalForm.{IsRunForm}
use Rattle.runend_commands.specs.declared.command.Command.{Command}
use Rattle.runend_commands.specs.declared.command.Command.TheVariants.{Slice, Filter, Take, TakeFrom, CompareScalar, CompareColumn, Cast, FillNull, Sum, MinMax, IsConstant, IsSorted}
use Rattle.runend_commands.specs.declared.command.Answer.{Answer}
use Rattle.runend_commands.specs.declared.command.Answer.TheVariants.{Done, Refused}
use Rattle.runend_commands.specs.Extremes.{HasBytes}
use Rattle.runend_column.specs.Parts.{IsPlainPart}
use Rattle.runend_commands.specs.Step.{IsChain, IsStep}

-- a run column whose kernel is registered
abbrev pub HasKernel : SessionForm → Kernel → Column → Type 0
HasKernel session kernel (OfLeaf leaf) = ⊥
HasKernel session kernel (OfConstant constant) = ⊥
HasKernel session kernel (OfLists lists) = ⊥
HasKernel session kernel (OfRuns ends_type ends values offset count) = is_registered_in session kernel ≡ true

-- a constant whose kernel is registered: to an aggregate it is one run of all its rows
abbrev pub HasConstantKernel : SessionForm → Kernel → Column → Type 0
HasConstantKernel session kernel (OfLeaf leaf) = ⊥
HasConstantKernel session kernel (OfConstant constant) = is_registered_in session kernel ≡ true
HasConstantKernel session kernel (OfLists lists) = ⊥
HasConstantKernel session kernel (OfRuns ends_type ends values offset count) = ⊥

-- a column whose rows an aggregate reads where they are, so that it takes no memory: runs or a constant whose kernel is
-- registered, or a flat column, whatever is registered
abbrev pub IsReadInPlace : SessionForm → Kernel → Column → Type 0
IsReadInPlace session kernel before = HasKernel session kernel before ⊎ HasConstantKernel session kernel before ⊎ IsLeaf before

-- a fact of the runs, where it is a run column
abbrev pub OnRuns : Column → (Runs → Type 0) → Type 0
OnRuns (OfLeaf leaf) P = Unit {0}
OnRuns (OfConstant constant) P = Unit {0}
OnRuns (OfLists lists) P = Unit {0}
OnRuns (OfRuns ends_type ends values offset count) P = P (runs_with ends_type ends values offset count)

-- one fact where the kernel serves the column, the other where it does not
pub record ByKernel (session : SessionForm) (kernel : Kernel) (before : Column) (Served : Runs → Type 0) (Otherwise : Type 0) : Type 0 where
  pub served : HasKernel session kernel before → OnRuns before Served
  pub otherwise : ¬ HasKernel session kernel before → Otherwise

-- the kernel leaves runs: integers in minimal form, other types over the visible runs; where it does not serve the
-- column, the rows are flat
abbrev pub KeepsRuns : SessionForm → Kernel → DType → Column → Column → Type 0
KeepsRuns session kernel dtype before after = ByKernel session kernel before (λ runs. IsRunForm dtype runs after) (IsFlat after)

-- an aggregate that reads the rows where they are never runs out of memory
abbrev pub IsNeverShort : {A : Type 0} → SessionForm → Kernel → Column → Answer A → Type 0
IsNeverShort session kernel before answer = IsReadInPlace session kernel before → answer ≢ Refused OutOfMemory

-- what a command leaves or answers by its kernel, where it has one
abbrev pub LeavesByKernel : {A : Type 0} → SessionForm → ArrayRef A → Command A → Answer A → ArrayRef A → Type 0
LeavesByKernel session before (Slice range) Done after = ByKernel session kernel.Slice (column_of before) (λ runs. SliceLeaves runs range.start range.end (column_of after)) (IsPlainPart (column_of before) range.start range.end (column_of after))
LeavesByKernel session before (Filter mask) Done after = ByKernel session kernel.Filter (column_of before) (λ runs. IsFilterForm session.thresholds runs mask (column_of after)) (IsFlat (column_of after))
LeavesByKernel session before (Take indices) Done after = ByKernel session kernel.Take (column_of before) (λ runs. TakeLeaves (optional_numbers indices) (column_of after)) (IsFlat (column_of after))
LeavesByKernel session before (TakeFrom dictionary) Done after = ByKernel session kernel.TakeFrom (column_of before) (λ runs. TakeFromLeaves (keeps_runs (dtype_of dictionary)) (dtype_of dictionary) runs (column_of after)) (IsFlat (column_of after))
LeavesByKernel session before (CompareScalar operator value) Done after = ByKernel session kernel.Compare (column_of before) (λ runs. IsDecodedForm (rows after) (column_of after)) (IsFlat (column_of after))
LeavesByKernel session before (CompareColumn operator right) Done after = ByKernel session kernel.Compare (column_of before) (λ runs. IsComparisonForm (column_of right) (column_of after)) (IsFlat (column_of after))
LeavesByKernel session before (Cast dtype) Done after = KeepsRuns session kernel.Cast dtype (column_of before) (column_of after)
LeavesByKernel session before (FillNull value) Done after = KeepsRuns session kernel.FillNull (fill_dtype (dtype_of before)) (column_of before) (column_of after)
LeavesByKernel session before Sum answer after = IsNeverShort session kernel.Sum (column_of before) answer
LeavesByKernel session before MinMax answer after = ¬ HasBytes (dtype_of before) → IsNeverShort session kernel.MinMax (column_of before) answer
LeavesByKernel session before IsConstant answer after = IsNeverShort session kernel.IsConstant (column_of before) answer
LeavesByKernel session before (IsSorted strict) answer after = IsNeverShort session kernel.IsSorted (column_of before) answer
LeavesByKernel session before command answer after = Unit {0}

-- a step in a session
abbrev pub IsStepIn : {A : Type 0} → SessionForm → ArrayRef A → Command A → Answer A → ArrayRef A → Type 0
IsStepIn session before command answer after = IsStep before command answer after × LeavesByKernel session before command answer after

-- a run of the commands in a session
abbrev pub IsExecutionIn : {A : Type 0} → SessionForm → ArrayRef A → List (Command A) → List (Answer A) → ArrayRef A → Type 0
IsExecutionIn session before commands answers after = IsChain (IsStepIn session) before commands answers after
