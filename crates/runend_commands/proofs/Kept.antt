-- Where constants are kept, and what is left where they are written out.
use Rattle.std.proofs.Common.{◌≡◌, ◌∙◌, ◌⊎◌, inl, inr, refl, subst, sym, arith, List, Option}
use Rattle.std.specs.Prelude.{◌≢◌, Result, Ok, Err, IsErrAnd}
use Rattle.std.specs.declared.ops.Range.{Range}
use Rattle.std.proofs.lemmas.Bool.{cases_lt}
use Rattle.std.specs.Prelude.{ℕ}
use Rattle.column_base.specs.declared.error.VortexError.{VortexError}
use Rattle.column_base.specs.declared.error.VortexError.TheVariants.{OutOfMemory}
use Rattle.column_core.specs.PrimitiveForm.{optional_numbers}
use Rattle.column_core.specs.Value.{Value}
use Rattle.column_ops.specs.Fill.{fill_dtype}
use Rattle.runend_array.specs.Array.{column_of, dtype_of, rows}
use Rattle.runend_array.specs.Column.{Column, OfLeaf, OfConstant, OfLists, OfRuns, IsFlat, Runs, column_of_runs}
use Rattle.runend_array.specs.Encoding.{IsDecodedForm}
use Rattle.runend_array.specs.SessionForm.{SessionForm}
use Rattle.runend_array.specs.declared.array_ref.ArrayRef.{ArrayRef}
use Rattle.runend_array.specs.declared.array_ref.ArrayRef.TheVariants.{Constant}
use Rattle.runend_array.specs.declared.session.Kernel.{Kernel}
use Rattle.runend_array.specs.declared.session.Kernel.TheVariants as kernel
use Rattle.runend_builder.specs.Encoded.{IsConstantForm}
use Rattle.runend_map.specs.Codes.{keeps_runs}
use Rattle.runend_map.specs.ComparisonForm.{IsComparisonForm}
use Rattle.runend_map.specs.TakenForm.{TakeFromLeaves}
use Rattle.runend_select.specs.FilterForm.{IsFilterForm}
use Rattle.runend_select.specs.TakeForm.{TakeLeaves}
use Rattle.runend_column.specs.MinimalForm.{IsRunForm}
use Rattle.runend_commands.specs.declared.command.Command.{Command}
use Rattle.runend_commands.specs.declared.command.Command.TheVariants.{Slice, Filter, Take, TakeFrom, CompareScalar, CompareColumn, Cast, FillNull, Encode, Decode, At, Sum, MinMax, IsConstant, IsSorted}
use Rattle.runend_commands.specs.declared.command.Answer.{Answer}
use Rattle.runend_commands.specs.declared.command.Answer.TheVariants.{Done, Refused}
use Rattle.runend_commands.specs.KernelForms.{ByKernel, HasKernel, LeavesByKernel, OnRuns}
use Rattle.runend_commands.specs.Kept.{IsConstantWithRows, KeepsConstant, LeavesKept}
use Rattle.runend_commands.specs.Meaning.{IsAnswer, IsTightColumn, LeavesForm, plain}
use Rattle.runend_commands.specs.Outcomes.{IsOutcome}
use Rattle.runend_commands.specs.Step.{IsDone}
use Rattle.runend_commands.specs.declared.steps.StepResult.{StepResult}

-- a column is a constant or not
decide_constant : (c : Column) → IsConstantForm c ⊎ (¬ IsConstantForm c)
decide_constant (OfLeaf leaf) = inr (λ no. no)
decide_constant (OfConstant constant) = inl tt
decide_constant (OfLists lists) = inr (λ no. no)
decide_constant (OfRuns ends_type ends values offset count) = inr (λ no. no)

decide_rows : (c : Column) → IsConstantWithRows c ⊎ (¬ IsConstantWithRows c)
decide_rows (OfLeaf leaf) = inr (λ no. no)
decide_rows (OfConstant constant) = elim (cases_lt 0 constant.count) [ inl some ↦ inl some | inr none ↦ inr (λ some. omega arith) ]
decide_rows (OfLists lists) = inr (λ no. no)
decide_rows (OfRuns ends_type ends values offset count) = inr (λ no. no)

decide_both : {P Q : Type 0} → P ⊎ (¬ P) → Q ⊎ (¬ Q) → (P × Q) ⊎ (¬ (P × Q))
decide_both (inl p) (inl q) = inl (p, q)
decide_both (inl p) (inr other) = inr (λ both. other both.1)
decide_both (inr other) decided = inr (λ both. other both.0)

-- a command keeps a constant, or it does not
pub decide_kept : {A : Type 0} (c : Column) (command : Command A) → KeepsConstant c command ⊎ (¬ KeepsConstant c command)
decide_kept c (Filter mask) = decide_constant c
decide_kept c (CompareScalar operator value) = decide_rows c
decide_kept c (CompareColumn operator right) = decide_both (decide_rows c) (decide_constant (column_of right))
decide_kept c (Cast dtype) = decide_rows c
decide_kept c (FillNull value) = decide_rows c
decide_kept c command = inr (λ no. no)

rows_constant : (c : Column) → IsConstantWithRows c → IsConstantForm c
rows_constant (OfLeaf leaf) is = is
rows_constant (OfConstant constant) is = tt
rows_constant (OfLists lists) is = is
rows_constant (OfRuns ends_type ends values offset count) is = is

-- what is kept a constant was one
pub constant_if_kept : {A : Type 0} (c : Column) (command : Command A) → KeepsConstant c command → IsConstantForm c
constant_if_kept c (Filter mask) keeps = keeps
constant_if_kept c (CompareScalar operator value) keeps = rows_constant c keeps
constant_if_kept c (CompareColumn operator right) keeps = rows_constant c keeps.0
constant_if_kept c (Cast dtype) keeps = rows_constant c keeps
constant_if_kept c (FillNull value) keeps = rows_constant c keeps
constant_if_kept c command keeps = absurd keeps

-- no kernel serves a constant
no_kernel : (session : SessionForm) (k : Kernel) (c : Column) → IsConstantForm c → ¬ HasKernel session k c
no_kernel session k (OfLeaf leaf) is = absurd is
no_kernel session k (OfConstant constant) is = λ no. no
no_kernel session k (OfLists lists) is = absurd is
no_kernel session k (OfRuns ends_type ends values offset count) is = absurd is

flat_of_constant : (session : SessionForm) (k : Kernel) (c after : Column) (Served : Runs → Type 0) → IsConstantForm c → IsFlat after → ByKernel session k c Served (IsFlat after)
flat_of_constant session k c after Served is flat = record { served = λ has. absurd (no_kernel session k c is has); otherwise = λ no. flat }

not_short : {A : Type 0} (answer : Answer A) → answer ≡ Done → answer ≢ Refused OutOfMemory
not_short answer done = λ short. let is = sym done ∙ short in absurd (cc)

-- every command but a slice leaves flat rows where a constant was
pub kernel_if_written : {A : Type 0} (session : SessionForm) (before after : ArrayRef A) (command : Command A) → IsConstantForm (column_of before) → IsFlat (column_of after)
    → ((range : Range ℕ) → ¬ (command ≡ Slice range)) → LeavesByKernel session before command Done after
kernel_if_written session before after (Slice range) is flat other = absurd (other range refl)
kernel_if_written session before after (Filter mask) is flat other = flat_of_constant session kernel.Filter (column_of before) (column_of after) (λ runs. IsFilterForm session.thresholds runs mask (column_of after)) is flat
kernel_if_written session before after (Take indices) is flat other = flat_of_constant session kernel.Take (column_of before) (column_of after) (λ runs. TakeLeaves (optional_numbers indices) (column_of after)) is flat
kernel_if_written session before after (TakeFrom dictionary) is flat other =
    flat_of_constant session kernel.TakeFrom (column_of before) (column_of after) (λ runs. TakeFromLeaves (keeps_runs (dtype_of dictionary)) (dtype_of dictionary) runs (column_of after)) is flat
kernel_if_written session before after (CompareScalar operator value) is flat other = flat_of_constant session kernel.Compare (column_of before) (column_of after) (λ runs. IsDecodedForm (rows after) (column_of after)) is flat
kernel_if_written session before after (CompareColumn operator right) is flat other = flat_of_constant session kernel.Compare (column_of before) (column_of after) (λ runs. IsComparisonForm (column_of right) (column_of after)) is flat
kernel_if_written session before after (Cast dtype) is flat other = flat_of_constant session kernel.Cast (column_of before) (column_of after) (λ runs. IsRunForm dtype runs (column_of after)) is flat
kernel_if_written session before after (FillNull value) is flat other =
    flat_of_constant session kernel.FillNull (column_of before) (column_of after) (λ runs. IsRunForm (fill_dtype (dtype_of before)) runs (column_of after)) is flat
kernel_if_written session before after Encode is flat other = tt
kernel_if_written session before after Decode is flat other = tt
kernel_if_written session before after (At index) is flat other = tt
kernel_if_written session before after Sum is flat other = λ read. not_short Done refl
kernel_if_written session before after MinMax is flat other = λ plain read. not_short Done refl
kernel_if_written session before after IsConstant is flat other = λ read. not_short Done refl
kernel_if_written session before after (IsSorted strict) is flat other = λ read. not_short Done refl

-- a constant is not a tight column, and not flat
not_tight : (rows : List (Option Value)) (c : Column) → IsConstantForm c → ¬ IsTightColumn rows c
not_tight rows (OfLeaf leaf) is = absurd is
not_tight rows (OfConstant constant) is = λ no. no
not_tight rows (OfLists lists) is = absurd is
not_tight rows (OfRuns ends_type ends values offset count) is = absurd is

not_flat : (c : Column) → IsConstantForm c → ¬ IsFlat c
not_flat (OfLeaf leaf) is = absurd is
not_flat (OfConstant constant) is = λ no. no
not_flat (OfLists lists) is = absurd is
not_flat (OfRuns ends_type ends values offset count) is = absurd is

form_if_written : {A : Type 0} (before after written : ArrayRef A) (command : Command A) → IsConstantForm (column_of after) → IsAnswer (plain before) command Done → LeavesForm before command after → LeavesForm before command written
form_if_written before after written Encode is answered form = absurd (not_tight (rows before) (column_of after) is form)
form_if_written before after written Decode is answered form = absurd (not_flat (column_of after) is form)
form_if_written before after written (At index) is answered form = absurd answered
form_if_written before after written Sum is answered form = absurd answered
form_if_written before after written MinMax is answered form = absurd answered
form_if_written before after written IsConstant is answered form = absurd answered
form_if_written before after written (IsSorted strict) is answered form = absurd answered
form_if_written before after written command is answered form = tt

-- a constant that is left and written out is done as before
pub done_if_written : {A : Type 0} (before after written : ArrayRef A) (command : Command A) → IsDone before command Done after → IsConstantForm (column_of after) → rows written ≡ rows after → dtype_of written ≡ dtype_of after → IsDone before command Done written
done_if_written before after written command done is kept typed = record {
  accepted = done.accepted;
  rows = kept ∙ done.rows;
  dtype = typed ∙ done.dtype;
  answered = done.answered;
  form = form_if_written before after written command is done.answered done.form;
}

-- where no constant is kept, what is left is what the kernel leaves
pub kernel_of_others : {A : Type 0} (session : SessionForm) (before after : ArrayRef A) (command : Command A) → LeavesKept session before command Done after
    → (IsConstantForm (column_of before) → ¬ IsConstantForm (column_of after)) → LeavesByKernel session before command Done after
kernel_of_others session before after command kept other = kept.by_kernel (λ keeps. other (constant_if_kept (column_of before) command keeps) (kept.constant keeps))

pub kernel_of_slice : {A : Type 0} (session : SessionForm) (before after : ArrayRef A) (command : Command A) (range : Range ℕ) → command ≡ Slice range → LeavesKept session before command Done after → LeavesByKernel session before command Done after
kernel_of_slice {A} session before after command range is kept = kept.by_kernel (λ keeps. subst (λ (k : Command A). KeepsConstant (column_of before) k) is keeps)

-- a fact that names no runs, of the runs of any column
pub on_runs : (c : Column) (P : Type 0) → P → OnRuns c (λ runs. P)
on_runs (OfLeaf leaf) P is = tt
on_runs (OfConstant constant) P is = tt
on_runs (OfLists lists) P is = tt
on_runs (OfRuns ends_type ends values offset count) P is = is

-- a command that leaves a column promises nothing of one that is refused
kernel_if_refused : {A : Type 0} (session : SessionForm) (before : ArrayRef A) (command : Command A) (error : VortexError) → IsAnswer (plain before) command Done → LeavesByKernel session before command (Refused error) before
kernel_if_refused session before (Slice range) error answered = tt
kernel_if_refused session before (Filter mask) error answered = tt
kernel_if_refused session before (Take indices) error answered = tt
kernel_if_refused session before (TakeFrom dictionary) error answered = tt
kernel_if_refused session before (CompareScalar operator value) error answered = tt
kernel_if_refused session before (CompareColumn operator right) error answered = tt
kernel_if_refused session before (Cast dtype) error answered = tt
kernel_if_refused session before (FillNull value) error answered = tt
kernel_if_refused session before Encode error answered = tt
kernel_if_refused session before Decode error answered = tt
kernel_if_refused session before (At index) error answered = tt
kernel_if_refused session before Sum error answered = absurd answered
kernel_if_refused session before MinMax error answered = absurd answered
kernel_if_refused session before IsConstant error answered = absurd answered
kernel_if_refused session before (IsSorted strict) error answered = absurd answered

-- memory was refused where what is left is written out
pub outcome_if_short : {A : Type 0} (session : SessionForm) (before : ArrayRef A) (command : Command A) (error : VortexError) (result : Result (StepResult A) VortexError)
    → IsErrAnd result (λ e. e ≡ error) → error ≡ OutOfMemory → IsAnswer (plain before) command Done → IsOutcome session before command result
outcome_if_short session before command error (Ok step) passed short answered = absurd passed
outcome_if_short session before command error (Err other) passed short answered = (inl (passed ∙ short), kernel_if_refused session before command other answered)

-- an array of another variant is not a constant
pub not_constant : {A : Type 0} (array : ArrayRef A) → ((constant : _) → ¬ (array ≡ Constant constant)) → ¬ IsConstantForm (column_of array)
not_constant (Constant constant) other is = other constant refl
not_constant array other is = is

-- runs are not a constant
pub runs_not_constant : (c : Column) (runs : Runs) → c ≡ column_of_runs runs → ¬ IsConstantWithRows c
runs_not_constant c runs is constant = subst IsConstantWithRows is constant
