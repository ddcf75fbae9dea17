-- The decimals of a column, by the runs of its encoding.
use Rattle.std.proofs.Common.{◌≡◌, ◌∙◌, List, [], ◌∷◌, Option, Some, None, ℤ, length, map, refl, sym, ap, subst}
use Rattle.std.specs.Prelude.{option_map, IfErr, Result, Ok, Err}
use Rattle.std.proofs.lemmas.List.{length-map}
use Rattle.column_base.specs.declared.dtype.DType.{DType}
use Rattle.column_base.specs.declared.error.VortexError.{VortexError}
use Rattle.column_core.specs.DecimalForm.{DecimalForm, decimal_rows, optional_decimals}
use Rattle.column_core.specs.Leaf.{OfDecimals, single_rows}
use Rattle.column_core.specs.PrimitiveForm.{PrimitiveForm}
use Rattle.column_core.specs.Value.{DecimalNumber, FlatValue, Single, Value}
use Rattle.runend_encode.specs.Encoding.{IsRowEncoding}
use Rattle.runend_floats.proofs.CoveredRows.{shown_mapped}
use Rattle.runend_windows.specs.Ends.{ends_of}
use Rattle.runend_windows.specs.Window.{last_end, run_rows}
use Rattle.runend_decimals.specs.Rows.{decimal_in, decimals_fault}
use Rattle.runend_decimals.specs.Totals.{IsRunRefusal, IsSumRefusal}
use Rattle.runend_decimals.specs.declared.fault.DecimalError.{DecimalError}
use Rattle.runend_decimals.specs.declared.fault.DecimalError.TheVariants.{Overflow, Refused}

-- the decimals of a flat column
pub decimals-of_rows : (numbers : List (Option ℤ)) → map decimal_in (map (option_map (λ (v : FlatValue). Single v)) (map (option_map (λ (n : ℤ). DecimalNumber n)) numbers)) ≡ numbers
decimals-of_rows [] = refl
decimals-of_rows (None ∷ numbers) = ap (λ rest. None ∷ rest) (decimals-of_rows numbers)
decimals-of_rows (Some n ∷ numbers) = ap (λ rest. Some n ∷ rest) (decimals-of_rows numbers)

module _ (rows : List (Option Value)) (dtype : DType) (ends : PrimitiveForm) (form : DecimalForm) (e : IsRowEncoding rows dtype ends (OfDecimals form)) where
  -- the runs of the encoding show the decimals of the rows
  pub decimals_shown : run_rows (ends_of ends) (optional_decimals form) 0 (last_end (ends_of ends)) ≡ map decimal_in rows
  decimals_shown =
      ap (λ (numbers : List (Option ℤ)). run_rows (ends_of ends) numbers 0 (last_end (ends_of ends))) (sym (decimals-of_rows (optional_decimals form)))
      ∙ shown_mapped decimal_in rows (ends_of ends) (single_rows (OfDecimals form)) (last_end (ends_of ends)) e.cover.covers (sym e.cover.exact.stop)

  -- one for each run
  pub decimals_paired : length (optional_decimals form) ≡ length (ends_of ends)
  decimals_paired = ap length (sym (decimals-of_rows (optional_decimals form))) ∙ length-map (single_rows (OfDecimals form)) decimal_in ∙ e.cover.covers.paired

-- and the column is one of decimals
pub served : (rows : List (Option Value)) (dtype : DType) (ends : PrimitiveForm) (form : DecimalForm) → IsRowEncoding rows dtype ends (OfDecimals form) → decimals_fault dtype ≡ None
served rows dtype ends form e = subst (λ (t : DType). decimals_fault t ≡ None) e.typed refl

-- a flat column has as many rows as decimals
pub decimals_long : (form : DecimalForm) → length (decimal_rows form) ≡ length (optional_decimals form)
decimals_long form = length-map (optional_decimals form) (option_map (λ (n : ℤ). DecimalNumber n))

-- a refusal by a run is one by a row of the column
pub refused_by_run : {T : Type 0} (fault : Option VortexError) (rows shown : List (Option ℤ)) (result : Result T DecimalError) → fault ≡ None → shown ≡ rows → IfErr result (IsRunRefusal shown)
    → IfErr result (IsSumRefusal fault rows)
refused_by_run fault rows shown (Ok value) none same refused = tt
refused_by_run fault rows shown (Err (Refused error)) none same refused = absurd refused
refused_by_run fault rows shown (Err (Overflow row)) none same refused = (none, subst (λ (xs : List (Option ℤ)). IsRunRefusal xs (Overflow row)) same refused)
