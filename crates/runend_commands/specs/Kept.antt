-- What commands leave where constants are kept, as the calls of `compute` leave it: a constant stays one, so that no row
-- is written.
use Rattle.std.specs.Prelude.{◌<◌}
use Rattle.runend_array.specs.Array.{column_of}
use Rattle.runend_array.specs.Column.{Column, OfLeaf, OfConstant, OfLists, OfRuns}
use Rattle.runend_array.specs.SessionForm.{SessionForm}
use Rattle.runend_array.specs.declared.array_ref.ArrayRef.{ArrayRef}
use Rattle.runend_builder.specs.Encoded.{IsConstantForm}
use Rattle.runend_commands.specs.declared.command.Command.{Command}
use Rattle.runend_commands.specs.declared.command.Command.TheVariants.{Filter, CompareScalar, CompareColumn, Cast, FillNull}
use Rattle.runend_commands.specs.declared.command.Answer.{Answer}
use Rattle.runend_commands.specs.KernelForms.{LeavesByKernel}

-- a constant that has a row
abbrev pub IsConstantWithRows : Column → Type 0
IsConstantWithRows (OfLeaf leaf) = ⊥
IsConstantWithRows (OfConstant constant) = 0 < constant.count
IsConstantWithRows (OfLists lists) = ⊥
IsConstantWithRows (OfRuns ends_type ends values offset count) = ⊥

-- a constant that has a row, and a constant on the right
abbrev pub AreConstants : Column → Column → Type 0
AreConstants before right = IsConstantWithRows before × IsConstantForm right

-- the command keeps this column a constant: a filter keeps any constant, and what maps values keeps one that has a row
abbrev pub KeepsConstant : {A : Type 0} → Column → Command A → Type 0
KeepsConstant before (Filter mask) = IsConstantForm before
KeepsConstant before (CompareScalar operator value) = IsConstantWithRows before
KeepsConstant before (CompareColumn operator right) = AreConstants before (column_of right)
KeepsConstant before (Cast dtype) = IsConstantWithRows before
KeepsConstant before (FillNull value) = IsConstantWithRows before
KeepsConstant before command = ⊥

-- what a command leaves or answers: where constants are kept, and where they are not, by its kernel if it has one
pub record LeavesKept {A : Type 0} (session : SessionForm) (before : ArrayRef A) (command : Command A) (answer : Answer A) (after : ArrayRef A) : Type 0 where
  pub constant : KeepsConstant (column_of before) command → IsConstantForm (column_of after)
  pub by_kernel : ¬ KeepsConstant (column_of before) command → LeavesByKernel session before command answer after
