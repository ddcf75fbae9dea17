-- What a command leaves, and what one that asks answers, from what its function came to.
use Rattle.std.proofs.Common.{◌≡◌, ◌≢◌, refl, sym, ap, ◌∙◌, subst, length, ℕ}
use Rattle.std.specs.Prelude.{Bool, true, false, IsTrue, ◌↔◌, None, slice_range}
use Rattle.std.proofs.lemmas.Bool.{false≢true}
use Rattle.std.specs.declared.ops.Range.{Range}
use Rattle.std.specs.Global.{Global}
use Rattle.column_core.specs.PrimitiveForm.{PrimitiveForm, optional_numbers, primitive_dtype}
use Rattle.column_core.specs.Refusal.{range_fault}
use Rattle.column_ops.specs.Fill.{fill_dtype}
use Rattle.column_ops.specs.Nullable.{take_dtype}
use Rattle.column_ops.specs.Take.{take_fault, take_rows}
use Rattle.column_ops.specs.OrderFacts as order
use Rattle.runend_column.specs.Parts.{IsPlainPart}
use Rattle.column_base.specs.Mask.{mask_bits}
use Rattle.column_base.specs.declared.error.VortexError.TheVariants.{OutOfMemory}
use Rattle.column_base.specs.declared.mask.Mask.{Mask}
use Rattle.column_ops.specs.Filter.{filter_fault, filter_rows}
use Rattle.runend_array.specs.Column.{Column, IsFlat, column_rows, column_dtype}
use Rattle.runend_array.specs.Array.{column_of, dtype_of, rows}
use Rattle.runend_array.specs.Encoding.{IsDecodedForm}
use Rattle.runend_array.specs.SessionForm.{SessionForm}
use Rattle.runend_array.specs.declared.array_ref.ArrayRef.{ArrayRef}
use Rattle.runend_array.specs.declared.session.Kernel.TheVariants as kernel
use Rattle.runend_column.specs.SliceForm.{SliceLeaves}
use Rattle.runend_map.specs.Codes.{keeps_runs}
use Rattle.runend_map.specs.ComparisonForm.{IsComparisonForm}
use Rattle.runend_map.specs.TakenForm.{TakeFromLeaves}
use Rattle.runend_select.specs.FilterForm.{IsFilterForm}
use Rattle.runend_select.specs.TakeForm.{TakeLeaves}
use Rattle.runend_column.specs.MinimalForm.{IsRunForm}
use Rattle.runend_commands.specs.declared.command.Command.{Command}
use Rattle.runend_commands.specs.declared.command.Command.TheVariants.{Slice, Filter, Take, TakeFrom, CompareScalar, CompareColumn, Cast, FillNull, Encode, Decode, At, Sum, MinMax, IsConstant, IsSorted}
use Rattle.runend_commands.specs.declared.command.Answer.{Answer}
use Rattle.runend_commands.specs.declared.command.Answer.TheVariants.{Done, Refused, Bool as BoolIs}
use Rattle.runend_commands.specs.KernelForms.{ByKernel, HasKernel, LeavesByKernel, OnRuns}
use Rattle.runend_commands.specs.Kept.{LeavesKept}
use Rattle.runend_commands.proofs.Kept.{constant_if_kept}
use Rattle.runend_builder.specs.Encoded.{IsConstantForm}
use Rattle.runend_commands.specs.Meaning.{IsAnswer, LeavesForm, plain}
use Rattle.runend_commands.specs.Step.{IsDone}
use Rattle.c_columns.specs.Calls.{Leaves, LeavesShape}
use Rattle.c_columns.specs.Flags.{Tells, byte_of}
use Rattle.c_columns.specs.Makers.{IsCopyOf}
use Rattle.c_columns.specs.Sessions.{IsSessionOf}
use Rattle.c_columns.specs.declared.sessions.Session.{Session}
use Rattle.c_columns.proofs.Forms.{least_left, on_runs}

shape_of : (b d : ArrayRef Global) (command : Command Global) → LeavesForm b command d → LeavesShape (column_of b) command (column_of d)
shape_of b d Encode form = form
shape_of b d Decode form = form
shape_of b d (Slice range) form = tt
shape_of b d (Filter mask) form = tt
shape_of b d (Take indices) form = tt
shape_of b d (TakeFrom dictionary) form = tt
shape_of b d (CompareScalar operator value) form = tt
shape_of b d (CompareColumn operator right) form = tt
shape_of b d (Cast dtype) form = tt
shape_of b d (FillNull value) form = tt
shape_of b d (At index) form = tt
shape_of b d Sum form = tt
shape_of b d MinMax form = tt
shape_of b d IsConstant form = tt
shape_of b d (IsSorted strict) form = tt

-- a column took the place of the one before
pub left_new : (s : Session) (session : SessionForm) (a d : ArrayRef Global) (command : Command Global) → IsSessionOf s session → IsDone a command Done d → LeavesKept session a command Done d → Leaves s command a d
left_new s session a d command set done left =
    let shape = shape_of a d command done.form in
    record {
      accepted = done.accepted;
      rows = done.rows;
      dtype = done.dtype;
      shape = shape;
      form = record { session = session; set = set; left = left };
      least = least_left session a d command done.rows done.dtype shape left;
    }

-- the column stayed, of which there is a copy
no_refusal : (answer : Answer Global) → answer ≡ Done → answer ≢ Refused OutOfMemory
no_refusal answer done = λ short. let is = sym done ∙ short in absurd (cc)

module _ (session : SessionForm) (a b : ArrayRef Global) (same : IsCopyOf a b) where
  as_done : (command : Command Global) (answer : Answer Global) → IsAnswer (plain a) command answer → LeavesByKernel session a command answer a → LeavesByKernel session a command Done b
  as_done (Slice range) answer is by = subst (λ (c : Column). ByKernel session kernel.Slice (column_of a) (λ runs. SliceLeaves runs range.start range.end c) (IsPlainPart (column_of a) range.start range.end c)) (sym same) (subst (λ (x : Answer Global). LeavesByKernel session a (Slice range) x a) is by)
  as_done (Filter mask) answer is by = subst (λ (c : Column). ByKernel session kernel.Filter (column_of a) (λ runs. IsFilterForm session.thresholds runs mask c) (IsFlat c)) (sym same) (subst (λ (x : Answer Global). LeavesByKernel session a (Filter mask) x a) is by)
  as_done (Take indices) answer is by = subst (λ (c : Column). ByKernel session kernel.Take (column_of a) (λ runs. TakeLeaves (optional_numbers indices) c) (IsFlat c)) (sym same) (subst (λ (x : Answer Global). LeavesByKernel session a (Take indices) x a) is by)
  as_done (TakeFrom dictionary) answer is by = subst (λ (c : Column). ByKernel session kernel.TakeFrom (column_of a) (λ runs. TakeFromLeaves (keeps_runs (dtype_of dictionary)) (dtype_of dictionary) runs c) (IsFlat c)) (sym same) (subst (λ (x : Answer Global). LeavesByKernel session a (TakeFrom dictionary) x a) is by)
  as_done (CompareScalar operator value) answer is by = subst (λ (c : Column). ByKernel session kernel.Compare (column_of a) (λ runs. IsDecodedForm (column_rows c) c) (IsFlat c)) (sym same) (subst (λ (x : Answer Global). LeavesByKernel session a (CompareScalar operator value) x a) is by)
  as_done (CompareColumn operator right) answer is by = subst (λ (c : Column). ByKernel session kernel.Compare (column_of a) (λ runs. IsComparisonForm (column_of right) c) (IsFlat c)) (sym same) (subst (λ (x : Answer Global). LeavesByKernel session a (CompareColumn operator right) x a) is by)
  as_done (Cast dtype) answer is by = subst (λ (c : Column). ByKernel session kernel.Cast (column_of a) (λ runs. IsRunForm dtype runs c) (IsFlat c)) (sym same) (subst (λ (x : Answer Global). LeavesByKernel session a (Cast dtype) x a) is by)
  as_done (FillNull value) answer is by = subst (λ (c : Column). ByKernel session kernel.FillNull (column_of a) (λ runs. IsRunForm (fill_dtype (dtype_of a)) runs c) (IsFlat c)) (sym same) (subst (λ (x : Answer Global). LeavesByKernel session a (FillNull value) x a) is by)
  as_done Encode answer is by = tt
  as_done Decode answer is by = tt
  as_done (At index) answer is by = tt
  as_done Sum answer is by = λ read. no_refusal Done refl
  as_done MinMax answer is by = λ plain read. no_refusal Done refl
  as_done IsConstant answer is by = λ read. no_refusal Done refl
  as_done (IsSorted strict) answer is by = λ read. no_refusal Done refl

pub left_same : (s : Session) (session : SessionForm) (a b : ArrayRef Global) (command : Command Global) (answer : Answer Global)
    → IsSessionOf s session → IsDone a command answer a → LeavesByKernel session a command answer a → IsCopyOf a b → Leaves s command a b
left_same s session a b command answer set done by same =
    let kept = ap column_rows same ∙ done.rows in
    let typed = ap column_dtype same ∙ done.dtype in
    let shape = subst (λ (c : Column). LeavesShape (column_of a) command c) (sym same) (shape_of a a command done.form) in
    let formed : LeavesKept session a command Done b = record {
      constant = λ keeps. subst IsConstantForm (sym same) (constant_if_kept (column_of a) command keeps);
      by_kernel = λ not. as_done session a b same command answer done.answered by;
    } in
    record {
      accepted = done.accepted;
      rows = kept;
      dtype = typed;
      shape = shape;
      form = record { session = session; set = set; left = formed };
      least = least_left session a b command kept typed shape formed;
    }

-- a slice, for which only the command's kernel is asked
pub left_sliced : (s : Session) (session : SessionForm) (a d : ArrayRef Global) (range : Range ℕ) → IsSessionOf s session → range_fault range.start range.end (length (rows a)) ≡ None
    → rows d ≡ slice_range (rows a) range.start range.end → dtype_of d ≡ dtype_of a → (HasKernel session kernel.Slice (column_of a) → OnRuns (column_of a) (λ runs. SliceLeaves runs range.start range.end (column_of d)))
    → (¬ HasKernel session kernel.Slice (column_of a) → IsPlainPart (column_of a) range.start range.end (column_of d)) → Leaves s (Slice range) a d
left_sliced s session a d range set accepted kept typed served otherwise = record {
  accepted = accepted;
  rows = kept;
  dtype = typed;
  shape = tt;
  form = record { session = session; set = set; left = record { constant = λ no. absurd no; by_kernel = λ not. record { served = served; otherwise = otherwise } } };
  least = tt;
}

-- a filter, for which only the command's kernel is asked
pub left_filtered : (s : Session) (session : SessionForm) (a d : ArrayRef Global) (mask : Mask Global) → IsSessionOf s session → filter_fault (length (mask_bits mask)) (length (rows a)) ≡ None
    → rows d ≡ filter_rows (mask_bits mask) (rows a) → dtype_of d ≡ dtype_of a → (HasKernel session kernel.Filter (column_of a) → OnRuns (column_of a) (λ runs. IsFilterForm session.thresholds runs mask (column_of d)))
    → (IsConstantForm (column_of a) → IsConstantForm (column_of d)) → (¬ HasKernel session kernel.Filter (column_of a) → ¬ IsConstantForm (column_of a) → IsFlat (column_of d)) → Leaves s (Filter mask) a d
left_filtered s session a d mask set accepted kept typed served constant otherwise =
    let left : LeavesKept session a (Filter mask) Done d = record { constant = constant; by_kernel = λ not. record { served = served; otherwise = λ has. otherwise has not } } in
    record { accepted = accepted; rows = kept; dtype = typed; shape = tt; form = record { session = session; set = set; left = left }; least = least_left session a d (Filter mask) kept typed tt left }

-- a take, likewise
pub left_taken : (s : Session) (session : SessionForm) (a d : ArrayRef Global) (indices : PrimitiveForm) → IsSessionOf s session → take_fault (optional_numbers indices) (length (rows a)) ≡ None
    → rows d ≡ take_rows (rows a) (optional_numbers indices) → dtype_of d ≡ take_dtype (dtype_of a) (primitive_dtype indices)
    → (HasKernel session kernel.Take (column_of a) → TakeLeaves (optional_numbers indices) (column_of d)) → (¬ HasKernel session kernel.Take (column_of a) → IsFlat (column_of d)) → Leaves s (Take indices) a d
left_taken s session a d indices set accepted kept typed served otherwise =
    let by : ByKernel session kernel.Take (column_of a) (λ runs. TakeLeaves (optional_numbers indices) (column_of d)) (IsFlat (column_of d)) = record { served = λ has. on_runs (column_of a) (TakeLeaves (optional_numbers indices) (column_of d)) (served has); otherwise = otherwise } in
    let left : LeavesKept session a (Take indices) Done d = record { constant = λ no. absurd no; by_kernel = λ not. by } in
    record { accepted = accepted; rows = kept; dtype = typed; shape = tt; form = record { session = session; set = set; left = left }; least = least_left session a d (Take indices) kept typed tt left }

-- a boolean as a byte
pub tells_of : (truth : Bool) (P : Type 0) → (IsTrue truth ↔ P) → Tells (byte_of truth) P
tells_of true P is = is.0 refl
tells_of false P is = λ p. false≢true (is.1 p)

-- what `IsConstant` and `IsSorted` answer, as a byte
pub constant_told : (a : ArrayRef Global) (truth : Bool) → IsDone a IsConstant (BoolIs truth) a → Tells (byte_of truth) (order.IsConstant (rows a))
constant_told a truth done = tells_of truth (order.IsConstant (rows a)) done.answered

pub sorted_told : (a : ArrayRef Global) (strict truth : Bool) → IsDone a (IsSorted strict) (BoolIs truth) a → Tells (byte_of truth) (order.IsSorted strict (rows a))
sorted_told a strict truth done = tells_of truth (order.IsSorted strict (rows a)) done.answered
