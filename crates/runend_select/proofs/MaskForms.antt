-- Which mask has the bits of runs, and which are refused.
use Rattle.std.proofs.Common.{◌≡◌, ◌≢◌, ◌∙◌, ℕ, ◌<◌, ◌≤◌, List, Bool, true, false, Option, None, Some, count_by, length, replicate, arith, ap, refl, sym}
use Rattle.std.specs.Option.{option_or}
use Rattle.std.proofs.lemmas.List.{length-map}
use Rattle.std.proofs.lemmas.List.Sums.{count_by-le-length}
use Rattle.column_base.specs.declared.dtype.DType.{DType}
use Rattle.column_base.specs.declared.dtype.DType.TheVariants as column
use Rattle.column_base.specs.declared.error.VortexError.{VortexError}
use Rattle.column_base.specs.declared.mask.Mask.TheVariants.{AllTrue, AllFalse, Values}
use Rattle.column_base.proofs.BitLists.{Contains-false, Contains-true, all_set, none_set}
use Rattle.column_core.specs.Kinds.{is_numbers}
use Rattle.column_core.specs.Value.{IsLists}
use Rattle.runend_array.specs.declared.session.Thresholds.{Thresholds}
use Rattle.runend_array.specs.Column.{Column, Runs, column_dtype, column_of_runs, column_rows}
use Rattle.runend_windows.proofs.RunRows.{length-run_rows}
use Rattle.runend_select.specs.FilterForm.{IsEmptyForm, IsSelectedForm, IsWholeForm, TakesDirectly}
use Rattle.runend_select.specs.MaskRuns.{IsFilterFormBy, is_true, mask_fault, truths_of}

-- a mask has a bit for each row
pub length-truths : (mask : Runs) → length (truths_of mask) ≡ mask.count
length-truths mask = length-map (column_rows (column_of_runs mask)) is_true ∙ length-run_rows mask.ends (column_rows mask.values) mask.offset mask.count

-- booleans are not lists
pub mask_single : (dtype : DType) → mask_fault dtype ≡ None → ¬ IsLists dtype
mask_single (column.Bool n) none lists = lists
mask_single (column.Primitive t n) none lists = lists
mask_single (column.Decimal d n) none lists = lists
mask_single (column.Utf8 n) none lists = lists
mask_single (column.Binary n) none lists = lists
mask_single (column.List e n) none lists = cc

-- the first of two faults, or the other where there is none
pub fault_first : (fault other : Option VortexError) (error : VortexError) → fault ≡ Some error → option_or fault other ≡ Some error
fault_first fault other error is = ap (λ (f : Option VortexError). option_or f other) is

pub fault_other : (fault other : Option VortexError) → fault ≡ None → option_or fault other ≡ other
fault_other fault other none = ap (λ (f : Option VortexError). option_or f other) none

module _ (bits : List Bool) (count total : ℕ) (long : length bits ≡ total) (counted : count ≡ count_by (λ bit. bit) bits) where
  pub all_true : count ≡ total → bits ≡ replicate total true
  all_true all = sym (all_set bits (sym counted ∙ all ∙ sym long)) ∙ ap (λ (n : ℕ). replicate n true) long

  pub none_true : count ≡ 0 → bits ≡ replicate total false
  none_true none = sym (none_set bits (sym counted ∙ none)) ∙ ap (λ (n : ℕ). replicate n false) long

  few : count ≤ total
  few = omega (arith, counted, long, count_by-le-length (λ (bit : Bool). bit) bits)

  module _ (thresholds : Thresholds) (whole : Runs) (column : Column) where
    pub form-all : count ≡ total → IsWholeForm (is_numbers (column_dtype whole.values)) whole column → IsFilterFormBy thresholds whole bits column
    form-all all form = record { mask = AllTrue total; are = sym (all_true all); normal = tt; form = form }

    pub form-none : count ≢ total → count ≡ 0 → IsEmptyForm whole column → IsFilterFormBy thresholds whole bits column
    form-none other none form = record { mask = AllFalse total; are = sym (none_true none); normal = more_than total count few other; form = form }
      where
        more_than : (m n : ℕ) → n ≤ m → n ≢ m → 0 < m
        more_than m n h unlike = omega (arith, unlike)

    pub form-some : count ≢ total → count ≢ 0
        → IsSelectedForm (TakesDirectly (count_by (λ bit. bit) bits) (length whole.ends) thresholds) whole bits column → IsFilterFormBy thresholds whole bits column
    form-some other some form = record {
      mask = Values bits;
      are = refl;
      normal = (Contains-true bits (omega (arith, counted, some)), Contains-false bits (omega (arith, counted, long, few, other)));
      form = form;
    }
