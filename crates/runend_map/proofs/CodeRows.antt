-- Rows taken from a dictionary by codes, from the codes of visible runs.
use Rattle.std.proofs.Common.{◌≡◌, ℕ, ℤ, List, [], ◌∷◌, Bool, true, Option, Some, None, length, map, cond, refl, sym, ap, ◌∙◌}
use Rattle.std.specs.Prelude.{option_map}
use Rattle.std.specs.Option.{option_or}
use Rattle.std.proofs.lemmas.List.{length-map}
use Rattle.column_base.specs.declared.error.VortexError.TheVariants.{TypeMismatch}
use Rattle.column_core.specs.Value.{FlatValue, Number, Single, Value}
use Rattle.column_ops.specs.Cast.{is_numbers}
use Rattle.column_ops.specs.Fault.{first_fault}
use Rattle.column_ops.specs.Take.{index_fault, take_fault, taken_row}
use Rattle.runend_windows.specs.Window.{run_rows}
use Rattle.runend_array.specs.Column.{AreRuns, Runs, column_dtype, column_of_runs, column_rows, plain_of}
use Rattle.column_ops.specs.Codes.{code_fault, code_number, code_rows}
use Rattle.runend_column.specs.VisibleForm.{visible_ends, visible_values, window_start}
use Rattle.runend_map.proofs.FirstFaults.{visible_fault}
use Rattle.runend_map.proofs.KeptRows.{mapped_rows}

-- the codes of a flat column of integers are its numbers
pub codes_are : (numbers : List (Option ℤ)) → map code_number (map (option_map (λ (v : FlatValue). Single v)) (map (option_map (λ (n : ℤ). Number n)) numbers)) ≡ numbers
codes_are [] = refl
codes_are (None ∷ numbers) = ap (λ (ns : List (Option ℤ)). None ∷ ns) (codes_are numbers)
codes_are (Some n ∷ numbers) = ap (λ (ns : List (Option ℤ)). Some n ∷ ns) (codes_are numbers)

fault_of_codes : (count : ℕ) (rows : List (Option Value)) → first_fault (index_fault count) (map code_number rows) ≡ first_fault (λ row. index_fault count (code_number row)) rows
fault_of_codes count [] = refl
fault_of_codes count (row ∷ rows) = ap (option_or (index_fault count (code_number row))) (fault_of_codes count rows)

twice_taken : (rows : List (Option Value)) (codes : List (Option Value)) → map (λ code. taken_row rows (code_number code)) codes ≡ code_rows rows codes
twice_taken rows [] = refl
twice_taken rows (code ∷ codes) = ap (λ (xs : List (Option Value)). taken_row rows (code_number code) ∷ xs) (twice_taken rows codes)

module _ (r : Runs) (runs : AreRuns r) where
  -- the codes of all rows have the fault that those of visible runs have
  pub same_fault : (indices : List (Option ℤ)) (count : ℕ) → map code_number (visible_values r) ≡ indices → is_numbers (column_dtype r.values) ≡ true
      → take_fault indices count ≡ code_fault (plain_of (column_of_runs r)) count
  same_fault indices count codes numbers =
      ap (λ (ns : List (Option ℤ)). take_fault ns count) (sym codes) ∙ fault_of_codes count (visible_values r) ∙ sym (visible_fault (λ row. index_fault count (code_number row)) r runs)
      ∙ sym (fault_of_codes count (column_rows (column_of_runs r)))
      ∙ ap (λ (b : Bool). cond b (take_fault (map code_number (column_rows (column_of_runs r))) count) (Some TypeMismatch)) (sym numbers)

  -- over the runs, the rows at the codes of visible runs are those at all codes
  pub rows_at_runs : (dictionary taken rows : List (Option Value)) → taken ≡ code_rows dictionary (visible_values r)
      → rows ≡ run_rows (visible_ends r) taken (window_start r.count r.offset) r.count → rows ≡ code_rows dictionary (column_rows (column_of_runs r))
  rows_at_runs dictionary taken rows made rows_are =
      let f : Option Value → Option Value = λ code. taken_row dictionary (code_number code) in
      let each : taken ≡ map f (visible_values r) = made ∙ sym (twice_taken dictionary (visible_values r)) in
      rows_are ∙ mapped_rows f r taken runs each ∙ twice_taken dictionary (column_rows (column_of_runs r))

-- as many rows are taken as there are codes
pub rows_count : (dictionary codes taken : List (Option Value)) → taken ≡ code_rows dictionary codes → length taken ≡ length codes
rows_count dictionary codes taken made = ap length made ∙ length-map (map code_number codes) (taken_row dictionary) ∙ length-map codes code_number
