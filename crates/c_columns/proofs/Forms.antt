-- In which forms commands leave columns, and that their runs of integers are as few as can be.
use Rattle.std.proofs.Common.{◌≡◌, ◌∙◌, refl, sym, ap, subst, inl, inr, ℤ, List, Option}
use Rattle.std.specs.Prelude.{Bool, true, false, count_by, length}
use Rattle.std.proofs.lemmas.Bool.{false≢true}
use Rattle.std.specs.Global.{Global}
use Rattle.column_base.specs.declared.dtype.PType.{PType}
use Rattle.column_base.specs.declared.dtype.DType.{DType}
use Rattle.column_base.specs.declared.dtype.DType.TheVariants as column
use Rattle.column_base.specs.declared.mask.Mask.{Mask}
use Rattle.column_base.specs.declared.mask.Mask.TheVariants.{AllTrue, AllFalse, Values}
use Rattle.column_core.specs.Kinds.{is_numbers}
use Rattle.column_core.specs.PrimitiveForm.{optional_numbers}
use Rattle.column_core.specs.Value.{Value}
use Rattle.column_ops.specs.Fill.{fill_dtype}
use Rattle.column_ops.specs.Nullable.{take_dtype}
use Rattle.runend_windows.specs.Cover.{IsTightCover}
use Rattle.runend_array.specs.Array.{column_of, dtype_of, rows}
use Rattle.runend_array.specs.Column.{Column, OfLeaf, OfConstant, OfLists, OfRuns, IsFlat, Runs, column_dtype, column_rows, runs_with}
use Rattle.runend_array.specs.Encoding.{IsComputedFlat, IsDecodedForm}
use Rattle.runend_array.specs.SessionForm.{SessionForm, is_registered_in}
use Rattle.runend_array.specs.declared.array_ref.ArrayRef.{ArrayRef}
use Rattle.runend_array.specs.declared.session.Kernel.{Kernel}
use Rattle.runend_array.specs.declared.session.Kernel.TheVariants as kernel
use Rattle.runend_array.specs.declared.session.Thresholds.{Thresholds}
use Rattle.runend_commands.specs.KernelForms.{ByKernel, LeavesByKernel, OnRuns}
use Rattle.runend_commands.specs.Kept.{LeavesKept}
use Rattle.runend_commands.specs.Meaning.{IsTightColumn, dtype_after, plain, rows_after}
use Rattle.runend_commands.specs.declared.command.Answer.TheVariants.{Done}
use Rattle.runend_commands.specs.declared.command.Command.{Command}
use Rattle.runend_commands.specs.declared.command.Command.TheVariants.{Slice, Filter, Take, TakeFrom, CompareScalar, CompareColumn, Cast, FillNull, Encode, Decode, At, Sum, MinMax, IsConstant, IsSorted}
use Rattle.runend_commands.proofs.Kept.{decide_kept}
use Rattle.runend_builder.specs.Encoded.{IsConstantForm}
use Rattle.runend_map.specs.Codes.{keeps_runs}
use Rattle.runend_map.specs.ComparisonForm.{IsComparisonForm}
use Rattle.runend_map.specs.TakenForm.{TakeFromLeaves}
use Rattle.runend_select.specs.FilterForm.{AreLeftRuns, IsFilterForm, IsSelectedForm, IsWholeForm, TakesDirectly}
use Rattle.runend_select.specs.TakeForm.{TakeLeaves}
use Rattle.runend_column.specs.MinimalForm.{IsMinimalForm, IsRunForm}
use Rattle.c_columns.specs.Calls.{LeavesShape}
use Rattle.c_columns.specs.Forms.{AreLeastRuns, IsLeastIfRuns, LeavesLeast}

-- what is flat has no runs
pub flat_least : (d : Column) → IsFlat d → IsLeastIfRuns d
flat_least (OfLeaf leaf) flat = tt
flat_least (OfConstant constant) flat = tt
flat_least (OfLists lists) flat = tt
flat_least (OfRuns ends_type ends values offset count) flat = absurd flat

computed_least : (d : Column) → IsComputedFlat d → IsLeastIfRuns d
computed_least (OfLeaf leaf) flat = tt
computed_least (OfConstant constant) flat = tt
computed_least (OfLists lists) flat = tt
computed_least (OfRuns ends_type ends values offset count) flat = absurd flat

decoded_least : (values : List (Option Value)) (d : Column) → IsDecodedForm values d → IsLeastIfRuns d
decoded_least values (OfLeaf leaf) form = tt
decoded_least values (OfConstant constant) form = tt
decoded_least values (OfLists lists) form = tt
decoded_least values (OfRuns ends_type ends run_values offset count) form = absurd form

taken_least : (indices : List (Option ℤ)) (d : Column) → TakeLeaves indices d → IsLeastIfRuns d
taken_least indices (OfLeaf leaf) form = tt
taken_least indices (OfConstant constant) form = tt
taken_least indices (OfLists lists) form = tt
taken_least indices (OfRuns ends_type ends values offset count) form = absurd form

compared_least : (right d : Column) → IsComparisonForm right d → IsLeastIfRuns d
compared_least (OfLeaf leaf) d form = computed_least d form
compared_least (OfConstant constant) d form = decoded_least (column_rows d) d form
compared_least (OfLists lists) d form = computed_least d form
compared_least (OfRuns ends_type ends values offset count) d form = computed_least d form

-- minimal form, and runs that are not integers
minimal_least : (t : PType) (d : Column) → IsMinimalForm t d → IsLeastIfRuns d
minimal_least t (OfLeaf leaf) form = tt
minimal_least t (OfConstant constant) form = tt
minimal_least t (OfLists lists) form = tt
minimal_least t (OfRuns ends_type ends values offset count) form = λ numbers. record { cover = form.cover; offset = form.offset }

other_least : (dtype : DType) (d : Column) → column_dtype d ≡ dtype → is_numbers dtype ≡ false → IsLeastIfRuns d
other_least dtype (OfLeaf leaf) is other = tt
other_least dtype (OfConstant constant) is other = tt
other_least dtype (OfLists lists) is other = tt
other_least dtype (OfRuns ends_type ends values offset count) is other = λ numbers. absurd (false≢true (sym other ∙ sym (ap is_numbers is) ∙ numbers))

run_form_least : (dtype : DType) (whole : Runs) (d : Column) → column_dtype d ≡ dtype → IsRunForm dtype whole d → IsLeastIfRuns d
run_form_least (column.Primitive t n) whole d is form = minimal_least whole.ends_type d form
run_form_least (column.Bool n) whole d is form = other_least (column.Bool n) d is refl
run_form_least (column.Decimal decimal n) whole d is form = other_least (column.Decimal decimal n) d is refl
run_form_least (column.Utf8 n) whole d is form = other_least (column.Utf8 n) d is refl
run_form_least (column.Binary n) whole d is form = other_least (column.Binary n) d is refl
run_form_least (column.List e n) whole d is form = other_least (column.List e n) d is refl

-- rows of a dictionary
looked_up_least : (dictionary codes : DType) (whole : Runs) (d : Column) → column_dtype d ≡ take_dtype dictionary codes → TakeFromLeaves (keeps_runs dictionary) dictionary whole d → IsLeastIfRuns d
looked_up_least (column.Primitive t n) codes whole d is form = minimal_least whole.ends_type d form
looked_up_least (column.Bool n) codes whole d is form = other_least (take_dtype (column.Bool n) codes) d is refl
looked_up_least (column.Decimal decimal n) codes whole d is form = computed_least d form
looked_up_least (column.Utf8 n) codes whole d is form = computed_least d form
looked_up_least (column.Binary n) codes whole d is form = computed_least d form
looked_up_least (column.List e n) codes whole d is form = computed_least d form

-- rows that a mask selects
left_runs_least : (numbers : Bool) (whole part : Runs) (bits : List Bool) → is_numbers (column_dtype whole.values) ≡ numbers → column_dtype part.values ≡ column_dtype whole.values → AreLeftRuns numbers whole bits part
    → is_numbers (column_dtype part.values) ≡ true → AreLeastRuns part
left_runs_least true whole part bits of_whole is left numbers = record { cover = left.cover; offset = left.offset }
left_runs_least false whole part bits of_whole is left numbers = absurd (false≢true (sym of_whole ∙ sym (ap is_numbers is) ∙ numbers))

selected_least : (directly : Type 0) (whole : Runs) (bits : List Bool) (d : Column) → column_dtype d ≡ column_dtype whole.values → IsSelectedForm directly whole bits d → IsLeastIfRuns d
selected_least directly whole bits (OfLeaf leaf) is form = tt
selected_least directly whole bits (OfConstant constant) is form = tt
selected_least directly whole bits (OfLists lists) is form = tt
selected_least directly whole bits (OfRuns ends_type ends values offset count) is form =
    left_runs_least (is_numbers (column_dtype whole.values)) whole (runs_with ends_type ends values offset count) bits refl is form.1

whole_least : (numbers : Bool) (whole : Runs) (d : Column) → is_numbers (column_dtype whole.values) ≡ numbers → column_dtype d ≡ column_dtype whole.values → IsWholeForm numbers whole d → IsLeastIfRuns d
whole_least true whole d of_whole is form = minimal_least whole.ends_type d form
whole_least false whole d of_whole is form = other_least (column_dtype whole.values) d is of_whole

filter_least : (thresholds : Thresholds) (whole : Runs) (mask : Mask Global) (d : Column) → column_dtype d ≡ column_dtype whole.values → IsFilterForm thresholds whole mask d → IsLeastIfRuns d
filter_least thresholds whole (AllTrue n) d is form = whole_least (is_numbers (column_dtype whole.values)) whole d refl is form
filter_least thresholds whole (AllFalse n) d is form = minimal_least whole.ends_type d form.1
filter_least thresholds whole (Values bits) d is form = selected_least (TakesDirectly (count_by (λ bit. bit) bits) (length whole.ends) thresholds) whole bits d is form

-- by a kernel, registered or not, which leaves flat rows where it does not serve the column
kernel_least : (session : SessionForm) (k : Kernel) (c d : Column) (Served : Runs → Type 0) → ((whole : Runs) → column_dtype c ≡ column_dtype whole.values → Served whole → IsLeastIfRuns d)
    → ByKernel session k c Served (IsFlat d) → IsLeastIfRuns d
kernel_least session k (OfLeaf leaf) d Served each by = flat_least d (by.otherwise (λ no. no))
kernel_least session k (OfConstant constant) d Served each by = flat_least d (by.otherwise (λ no. no))
kernel_least session k (OfLists lists) d Served each by = flat_least d (by.otherwise (λ no. no))
kernel_least session k (OfRuns ends_type ends values offset count) d Served each by =
    elim (is_registered_in session k) as (λ b. is_registered_in session k ≡ b → IsLeastIfRuns d) [
      | true ↦ λ is. each (runs_with ends_type ends values offset count) refl (by.served is)
      | false ↦ λ is. flat_least d (by.otherwise (λ has. false≢true (sym is ∙ has)))
    ] refl

-- a fact that names no runs, of the runs of any column
pub on_runs : (c : Column) (P : Type 0) → P → OnRuns c (λ runs. P)
on_runs (OfLeaf leaf) P is = tt
on_runs (OfConstant constant) P is = tt
on_runs (OfLists lists) P is = tt
on_runs (OfRuns ends_type ends values offset count) P is = is

-- the runs of an encoding
tight_least : (before : List (Option Value)) (d : Column) → column_rows d ≡ before → IsTightColumn before d → IsLeastIfRuns d
tight_least before (OfLeaf leaf) is form = tt
tight_least before (OfConstant constant) is form = tt
tight_least before (OfLists lists) is form = tt
tight_least before (OfRuns ends_type ends values offset count) is form =
    λ numbers. record { cover = subst (λ (l : List (Option Value)). IsTightCover l ends (column_rows values)) (sym is) form.0; offset = form.1 }

-- a constant has no runs
constant_least : (d : Column) → IsConstantForm d → IsLeastIfRuns d
constant_least (OfLeaf leaf) is = tt
constant_least (OfConstant constant) is = tt
constant_least (OfLists lists) is = tt
constant_least (OfRuns ends_type ends values offset count) is = absurd is

-- what commands on two columns leave
filtered_least : (session : SessionForm) (mask : Mask Global) (c d : ArrayRef Global) → dtype_of d ≡ dtype_of c
    → ByKernel session kernel.Filter (column_of c) (λ runs. IsFilterForm session.thresholds runs mask (column_of d)) (IsFlat (column_of d)) → IsLeastIfRuns (column_of d)
filtered_least session mask c d typed by =
    kernel_least session kernel.Filter (column_of c) (column_of d) (λ runs. IsFilterForm session.thresholds runs mask (column_of d)) (λ whole same form. filter_least session.thresholds whole mask (column_of d) (typed ∙ same) form) by

indexed_least : (session : SessionForm) (indices : List (Option ℤ)) (c d : ArrayRef Global) → ByKernel session kernel.Take (column_of c) (λ runs. TakeLeaves indices (column_of d)) (IsFlat (column_of d)) → IsLeastIfRuns (column_of d)
indexed_least session indices c d by = kernel_least session kernel.Take (column_of c) (column_of d) (λ runs. TakeLeaves indices (column_of d)) (λ whole same form. taken_least indices (column_of d) form) by

coded_least : (session : SessionForm) (codes dictionary d : ArrayRef Global) → dtype_of d ≡ take_dtype (dtype_of dictionary) (dtype_of codes)
    → ByKernel session kernel.TakeFrom (column_of codes) (λ runs. TakeFromLeaves (keeps_runs (dtype_of dictionary)) (dtype_of dictionary) runs (column_of d)) (IsFlat (column_of d)) → IsLeastIfRuns (column_of d)
coded_least session codes dictionary d typed by =
    kernel_least session kernel.TakeFrom (column_of codes) (column_of d) (λ runs. TakeFromLeaves (keeps_runs (dtype_of dictionary)) (dtype_of dictionary) runs (column_of d))
    (λ whole same form. looked_up_least (dtype_of dictionary) (dtype_of codes) whole (column_of d) typed form) by

beside_least : (session : SessionForm) (c right d : ArrayRef Global) → ByKernel session kernel.Compare (column_of c) (λ runs. IsComparisonForm (column_of right) (column_of d)) (IsFlat (column_of d)) → IsLeastIfRuns (column_of d)
beside_least session c right d by = kernel_least session kernel.Compare (column_of c) (column_of d) (λ runs. IsComparisonForm (column_of right) (column_of d)) (λ whole same form. compared_least (column_of right) (column_of d) form) by

-- what a command leaves by its kernel
least_by_kernel : (session : SessionForm) (a d : ArrayRef Global) (command : Command Global) → rows d ≡ rows_after (plain a) command → dtype_of d ≡ dtype_after (plain a) command
    → LeavesShape (column_of a) command (column_of d) → LeavesByKernel session a command Done d → LeavesLeast command (column_of d)
least_by_kernel session a d (Slice range) is typed shape by = tt
least_by_kernel session a d (Filter mask) is typed shape by = filtered_least session mask a d typed by
least_by_kernel session a d (Take indices) is typed shape by = indexed_least session (optional_numbers indices) a d by
least_by_kernel session a d (TakeFrom dictionary) is typed shape by = coded_least session a dictionary d typed by
least_by_kernel session a d (CompareScalar operator value) is typed shape by =
    kernel_least session kernel.Compare (column_of a) (column_of d) (λ runs. IsDecodedForm (rows d) (column_of d)) (λ whole same form. decoded_least (rows d) (column_of d) form) by
least_by_kernel session a d (CompareColumn operator right) is typed shape by = beside_least session a right d by
least_by_kernel session a d (Cast dtype) is typed shape by =
    kernel_least session kernel.Cast (column_of a) (column_of d) (λ runs. IsRunForm dtype runs (column_of d)) (λ whole same form. run_form_least dtype whole (column_of d) typed form) by
least_by_kernel session a d (FillNull value) is typed shape by =
    kernel_least session kernel.FillNull (column_of a) (column_of d) (λ runs. IsRunForm (fill_dtype (dtype_of a)) runs (column_of d)) (λ whole same form. run_form_least (fill_dtype (dtype_of a)) whole (column_of d) typed form) by
least_by_kernel session a d Encode is typed shape by = tight_least (rows a) (column_of d) is shape
least_by_kernel session a d Decode is typed shape by = flat_least (column_of d) shape
least_by_kernel session a d (At index) is typed shape by = tt
least_by_kernel session a d Sum is typed shape by = tt
least_by_kernel session a d MinMax is typed shape by = tt
least_by_kernel session a d IsConstant is typed shape by = tt
least_by_kernel session a d (IsSorted strict) is typed shape by = tt

kept_least : (d : Column) (command : Command Global) → IsConstantForm d → LeavesLeast command d
kept_least d (Slice range) is = tt
kept_least d (At index) is = tt
kept_least d Sum is = tt
kept_least d MinMax is = tt
kept_least d IsConstant is = tt
kept_least d (IsSorted strict) is = tt
kept_least d command is = constant_least d is

-- what a command leaves where constants are kept
pub least_left : (session : SessionForm) (a d : ArrayRef Global) (command : Command Global) → rows d ≡ rows_after (plain a) command → dtype_of d ≡ dtype_after (plain a) command
    → LeavesShape (column_of a) command (column_of d) → LeavesKept session a command Done d → LeavesLeast command (column_of d)
least_left session a d command is typed shape left = elim (decide_kept (column_of a) command) [
  | inl keeps ↦ kept_least (column_of d) command (left.constant keeps)
  | inr not ↦ least_by_kernel session a d command is typed shape (left.by_kernel not)
]
