-- Commands that are made of a second column: how a mask is read, and what is refused because of it.
use Rattle.std.proofs.Common.{◌≡◌, ◌∙◌, ◌+◌, ◌≤◌, inl, inr, sym, ap, subst, ℕ, ℤ, zero, suc, List, [], ◌∷◌, ◌++◌, Bool, length, map, take, refl}
use Rattle.std.specs.Prelude.{Option, Some, None, Result, Ok, Err, IfOk, slice_get, replicate}
use Rattle.std.specs.Option.{option_or}
use Rattle.std.specs.Global.{Global}
use Rattle.std.proofs.lemmas.List.{map_push, take_all}
use Rattle.column_base.specs.Mask.{mask_bits}
use Rattle.column_base.specs.declared.error.VortexError.{VortexError}
use Rattle.column_base.specs.declared.mask.Mask.{Mask}
use Rattle.column_core.specs.Refusal.{IsErrorFor}
use Rattle.column_core.specs.Value.{Value}
use Rattle.column_core.specs.Leaf.{OfNumbers, single_rows}
use Rattle.column_core.specs.PrimitiveForm.{PrimitiveForm, optional_numbers}
use Rattle.column_ops.proofs.CodeRows.{code_numbers-of}
use Rattle.column_ops.proofs.Passed.{take_more}
use Rattle.column_ops.specs.Codes.{code_numbers, code_rows}
use Rattle.column_ops.specs.Filter.{filter_fault, filter_rows}
use Rattle.column_ops.specs.Nullable.{take_dtype}
use Rattle.column_ops.specs.Take.{take_rows}
use Rattle.column_ops.specs.Comparing.{compare_dtype, compare_rows}
use Rattle.column_ops.specs.declared.operator.CompareOperator.{CompareOperator}
use Rattle.runend_array.specs.Array.{column_of, dtype_of, rows}
use Rattle.runend_array.specs.Column.{Column, OfLeaf, OfConstant, OfLists, OfRuns, IsFlat}
use Rattle.runend_array.specs.SessionForm.{SessionForm}
use Rattle.runend_array.specs.declared.array_ref.ArrayRef.{ArrayRef}
use Rattle.runend_array.specs.declared.array_ref.ArrayRef.TheVariants as array
use Rattle.runend_array.specs.declared.session.Kernel.TheVariants as kernel
use Rattle.runend_commands.specs.KernelForms.{ByKernel, HasKernel, OnRuns}
use Rattle.runend_commands.specs.Kept.{AreConstants, LeavesKept}
use Rattle.runend_commands.specs.declared.command.Answer.TheVariants.{Done}
use Rattle.runend_commands.specs.declared.command.Command.TheVariants.{CompareColumn, Filter, Take, TakeFrom}
use Rattle.runend_builder.specs.Encoded.{IsConstantForm}
use Rattle.runend_map.specs.Codes.{keeps_runs}
use Rattle.runend_map.specs.ComparisonForm.{IsComparisonForm}
use Rattle.runend_map.specs.TakenForm.{TakeFromLeaves}
use Rattle.c_columns.specs.Calls.{Leaves}
use Rattle.c_columns.specs.Sessions.{IsSessionOf}
use Rattle.runend_select.specs.FilterForm.{IsFilterForm}
use Rattle.runend_select.specs.MaskRuns.{IsFilterFormBy, is_true, mask_fault}
use Rattle.c_columns.specs.TwoColumns.{HasPlain, IsComparedIn, IsFilteredIn, IsLookedUpIn, IsTakenIn, compared_by, filtered_by, looked_up_by, mask_filter_fault}
use Rattle.c_columns.specs.declared.sessions.Session.{Session}
use Rattle.c_columns.proofs.Forms.{least_left, on_runs}
use Rattle.c_columns.proofs.Left.{left_filtered}

-- one row more of a mask
pub one_row_more : (rows : List (Option Value)) (row : ℕ) (bits more : List Bool) (bit : Bool) (seen : Option Value) → bits ≡ map is_true (take row rows) → more ≡ bits ++ bit ∷ [] → bit ≡ is_true seen
    → slice_get rows row ≡ Some seen → more ≡ map is_true (take (row + 1) rows)
one_row_more rows row bits more bit seen so_far put is here =
    put ∙ ap (λ (xs : List Bool). xs ++ bit ∷ []) so_far ∙ ap (λ (b : Bool). map is_true (take row rows) ++ b ∷ []) is ∙ sym (map_push is_true (take row rows) seen)
    ∙ ap (λ (l : List (Option Value)). map is_true l) (sym (take_more rows row seen here))

-- all rows
pub all_rows_read : (rows : List (Option Value)) (row : ℕ) (bits : List Bool) → length rows ≤ row → bits ≡ map is_true (take row rows) → bits ≡ map is_true rows
all_rows_read rows row bits all so_far = so_far ∙ ap (λ (l : List (Option Value)). map is_true l) (take_all row rows all)

-- a value that each row shows
pub true_in_each : (count : ℕ) (value : Option Value) → map is_true (replicate count value) ≡ replicate count (is_true value)
true_in_each zero value = refl
true_in_each (suc n) value = ap (λ (bits : List Bool). is_true value ∷ bits) (true_in_each n value)

module _ (mask c : ArrayRef Global) where
  -- the mask is of another type
  pub mask_refused : (error : VortexError) → IsErrorFor (mask_fault (dtype_of mask)) error → IsErrorFor (mask_filter_fault mask c) error
  mask_refused error (inl short) = inl short
  mask_refused error (inr fault) = inr (ap (λ (f : Option VortexError). option_or f (filter_fault (length (map is_true (rows mask))) (length (rows c)))) fault)

  same_fault : (bits : List Bool) → mask_fault (dtype_of mask) ≡ None → bits ≡ map is_true (rows mask) → filter_fault (length bits) (length (rows c)) ≡ mask_filter_fault mask c
  same_fault bits none is =
      ap (λ (b : List Bool). filter_fault (length b) (length (rows c))) is
      ∙ sym (ap (λ (f : Option VortexError). option_or f (filter_fault (length (map is_true (rows mask))) (length (rows c)))) none)

  -- the filter is refused, or done
  pub filter_refused : (bits : List Bool) (error : VortexError) → mask_fault (dtype_of mask) ≡ None → bits ≡ map is_true (rows mask) → IsErrorFor (filter_fault (length bits) (length (rows c))) error → IsErrorFor (mask_filter_fault mask c) error
  filter_refused bits error none is why = subst (λ (f : Option VortexError). IsErrorFor f error) (same_fault bits none is) why

  pub filter_done : (bits : List Bool) → mask_fault (dtype_of mask) ≡ None → bits ≡ map is_true (rows mask) → filter_fault (length bits) (length (rows c)) ≡ None → mask_filter_fault mask c ≡ None
  filter_done bits none is accepted = sym (same_fault bits none is) ∙ accepted

  pub filter_left : (s : Session) (selected : Mask Global) (d : ArrayRef Global) → mask_bits selected ≡ map is_true (rows mask) → Leaves s (Filter selected) c d → HasPlain (filtered_by mask c) (IsFilteredIn s mask c) d
  filter_left s selected d is left = record {
    rows = left.rows ∙ ap (λ (b : List Bool). filter_rows b (rows c)) is;
    dtype = left.dtype;
    form = record { selected = selected; bits = is; form = left.form };
    least = left.least;
  }

-- a mask that is picked for the runs of a column
pub record IsPicked (session : SessionForm) (before after : Column) (bits : List Bool) : Type 0 where
  pub selected : Mask Global
  pub are : mask_bits selected ≡ bits
  pub served : OnRuns before (λ runs. IsFilterForm session.thresholds runs selected after)

picked : (session : SessionForm) (before after : Column) (bits : List Bool) → HasKernel session kernel.Filter before → OnRuns before (λ runs. IsFilterFormBy session.thresholds runs bits after) → IsPicked session before after bits
picked session (OfLeaf leaf) after bits has form = absurd has
picked session (OfConstant constant) after bits has form = absurd has
picked session (OfLists lists) after bits has form = absurd has
picked session (OfRuns ends_type ends values offset count) after bits has form = record { selected = form.mask; are = form.are; served = form.form }

never_constant : (session : SessionForm) (before : Column) → HasKernel session kernel.Filter before → ¬ IsConstantForm before
never_constant session (OfLeaf leaf) has = absurd has
never_constant session (OfConstant constant) has = absurd has
never_constant session (OfLists lists) has = absurd has
never_constant session (OfRuns ends_type ends values offset count) has = λ no. no

-- without a fault, the mask is as long
accepted_by : (fault other : Option VortexError) → option_or fault other ≡ None → other ≡ None
accepted_by None other none = none
accepted_by (Some error) other none = absurd (cc)

-- what the runs of a mask leave
pub runs_left : (s : Session) (session : SessionForm) (mask c d : ArrayRef Global) → IsSessionOf s session → mask_filter_fault mask c ≡ None → rows d ≡ filter_rows (map is_true (rows mask)) (rows c) → dtype_of d ≡ dtype_of c
    → HasKernel session kernel.Filter (column_of c) → OnRuns (column_of c) (λ runs. IsFilterFormBy session.thresholds runs (map is_true (rows mask)) (column_of d)) → HasPlain (filtered_by mask c) (IsFilteredIn s mask c) d
runs_left s session mask c d set none kept typed has form =
    let bits = map is_true (rows mask) in
    let is = picked session (column_of c) (column_of d) bits has form in
    let accepted = ap (λ (b : List Bool). filter_fault (length b) (length (rows c))) is.are ∙ accepted_by (mask_fault (dtype_of mask)) (filter_fault (length bits) (length (rows c))) none in
    let rows_are = kept ∙ ap (λ (b : List Bool). filter_rows b (rows c)) (sym is.are) in
    filter_left mask c s is.selected d is.are
    (left_filtered s session c d is.selected set accepted rows_are typed (λ yes. is.served) (λ no. absurd (never_constant session (column_of c) has no)) (λ not. absurd (not has)))

-- indices that lie flat, as codes
pub same_codes : (form : PrimitiveForm) → code_numbers (single_rows (OfNumbers form)) ≡ optional_numbers form
same_codes form = code_numbers-of form

-- rows that are taken by them
pub take_left : (s : Session) (numbers : PrimitiveForm) (indices c d : ArrayRef Global) → indices ≡ array.Primitive numbers → Leaves s (Take numbers) c d → HasPlain (looked_up_by indices c) (IsTakenIn s indices c) d
take_left s numbers indices c d is left =
    subst (λ (a : ArrayRef Global). HasPlain (looked_up_by a c) (IsTakenIn s a c) d) (sym is)
    (record {
      rows = left.rows ∙ ap (λ (ns : List (Option ℤ)). take_rows (rows c) ns) (sym (same_codes numbers));
      dtype = left.dtype;
      form = left.form;
      least = left.least;
    })

-- rows that are looked up by codes
pub look_up_left : (s : Session) (session : SessionForm) (codes c d : ArrayRef Global) → IsSessionOf s session → rows d ≡ code_rows (rows c) (rows codes) → dtype_of d ≡ take_dtype (dtype_of c) (dtype_of codes)
    → (HasKernel session kernel.TakeFrom (column_of codes) → OnRuns (column_of codes) (λ runs. TakeFromLeaves (keeps_runs (dtype_of c)) (dtype_of c) runs (column_of d)))
    → (¬ HasKernel session kernel.TakeFrom (column_of codes) → IsFlat (column_of d)) → HasPlain (looked_up_by codes c) (IsLookedUpIn s codes c) d
look_up_left s session codes c d set kept typed served otherwise =
    let left : LeavesKept session codes (TakeFrom c) Done d = record { constant = λ no. absurd no; by_kernel = λ not. record { served = served; otherwise = otherwise } } in
    record { rows = kept; dtype = typed; form = record { session = session; set = set; left = left }; least = least_left session codes d (TakeFrom c) kept typed tt left }

-- indices that do not lie flat are looked up as codes
pub looked_up_taken : (s : Session) (indices c d : ArrayRef Global) → ((numbers : PrimitiveForm) → ¬ (indices ≡ array.Primitive numbers)) → HasPlain (looked_up_by indices c) (IsLookedUpIn s indices c) d → HasPlain (looked_up_by indices c) (IsTakenIn s indices c) d
looked_up_taken s (array.Primitive numbers) c d other left = absurd (other numbers refl)
looked_up_taken s indices c d other left = record { rows = left.rows; dtype = left.dtype; form = left.form; least = left.least }

pub all_looked_up_taken : {B : Type 0} (outcome : Result B VortexError) (value : B → ArrayRef Global) (s : Session) (indices c : ArrayRef Global) → ((numbers : PrimitiveForm) → ¬ (indices ≡ array.Primitive numbers))
    → IfOk outcome (λ made. HasPlain (looked_up_by indices c) (IsLookedUpIn s indices c) (value made)) → IfOk outcome (λ made. HasPlain (looked_up_by indices c) (IsTakenIn s indices c) (value made))
all_looked_up_taken (Ok made) value s indices c other left = looked_up_taken s indices c (value made) other left
all_looked_up_taken (Err error) value s indices c other left = tt

-- rows that are compared
pub compare_left : (operator : CompareOperator) (s : Session) (session : SessionForm) (c right d : ArrayRef Global) → IsSessionOf s session → rows d ≡ compare_rows operator (rows c) (rows right) → dtype_of d ≡ compare_dtype (dtype_of c) (dtype_of right)
    → (HasKernel session kernel.Compare (column_of c) → IsComparisonForm (column_of right) (column_of d)) → (AreConstants (column_of c) (column_of right) → IsConstantForm (column_of d))
    → (¬ HasKernel session kernel.Compare (column_of c) → ¬ AreConstants (column_of c) (column_of right) → IsFlat (column_of d)) → HasPlain (compared_by operator c right) (IsComparedIn operator s c right) d
compare_left operator s session c right d set kept typed served constants otherwise =
    let by : ¬ AreConstants (column_of c) (column_of right) → ByKernel session kernel.Compare (column_of c) (λ runs. IsComparisonForm (column_of right) (column_of d)) (IsFlat (column_of d)) =
    λ not. record { served = λ has. on_runs (column_of c) (IsComparisonForm (column_of right) (column_of d)) (served has); otherwise = λ has. otherwise has not } in
    let left : LeavesKept session c (CompareColumn operator right) Done d = record { constant = constants; by_kernel = by } in
    record { rows = kept; dtype = typed; form = record { session = session; set = set; left = left }; least = least_left session c d (CompareColumn operator right) kept typed tt left }
