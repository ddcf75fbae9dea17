-- The one run of a constant.
use Rattle.std.proofs.Common.{◌≡◌, ◌∙◌, ◌+◌, ◌<◌, ◌^◌, ℕ, ℤ, pos, List, [], ◌∷◌, Option, length, map, replicate, refl, sym, ap, subst, arith}
use Rattle.std.specs.Prelude.{option_map, slice_get}
use Rattle.std.proofs.lemmas.List.{length-replicate}
use Rattle.runend_windows.specs.Window.{IsWindow, run_at, run_rows}
use Rattle.runend_windows.specs.Ends.{ends_of}
use Rattle.runend_windows.proofs.Lists.{equal_by_slice_get, slice_get-replicate}
use Rattle.runend_windows.proofs.RunAt.{run_at-here}
use Rattle.runend_windows.proofs.RunRows.{length-run_rows, slice_get-run_rows_of_window}
use Rattle.runend_windows.proofs.StoredNumbers.{naturals-of_pos}
use Rattle.column_base.specs.declared.dtype.PType.{PType}
use Rattle.column_base.specs.declared.dtype.PType.TheVariants.{U64}
use Rattle.column_base.specs.ValidityForm.{NeverNull}
use Rattle.column_core.specs.Leaf.{OfNumbers}
use Rattle.column_core.specs.PrimitiveForm.{PrimitiveForm, primitive_with}
use Rattle.column_core.specs.Value.{Single, Value}
use Rattle.runend_array.specs.Column.{AreParts, Column, Constant, OfConstant, OfLeaf, Runs, column_dtype, column_of_runs, column_rows, plain_of, repeated, runs_of}

window_of_one : (count : ℕ) → 0 < count → count < 2 ^ 64 → IsWindow (count ∷ []) 0 count
window_of_one count some small = record {
  increasing = λ k h. absurd (omega arith);
  none = λ none. absurd (omega arith);
  first = λ _. omega arith;
  last = λ _. omega arith;
  small = omega arith;
}

-- it shows its row in each
rows_of_one : {B : Type 0} (count : ℕ) (row : Option B) → 0 < count → count < 2 ^ 64 → run_rows (count ∷ []) (row ∷ []) 0 count ≡ replicate count row
rows_of_one count row some small = equal_by_slice_get (run_rows (count ∷ []) (row ∷ []) 0 count) (replicate count row)
    (length-run_rows (count ∷ []) (row ∷ []) 0 count ∙ sym (length-replicate count row))
    (λ k h.
    let long = length-run_rows (count ∷ []) (row ∷ []) 0 count in
    let within : k < count = omega arith in
    let same : 0 + k ≡ k = omega arith in
    slice_get-run_rows_of_window (count ∷ []) (row ∷ []) 0 count k (window_of_one count some small) refl within
    ∙ ap (slice_get (row ∷ [])) (ap (run_at (count ∷ [])) same ∙ run_at-here count [] k within)
    ∙ sym (slice_get-replicate count k row within))

-- columns of one type with the same rows
plain_same : (a b : Column) → column_dtype a ≡ column_dtype b → column_rows a ≡ column_rows b → plain_of a ≡ plain_of b
plain_same a b types rows = λ i. record { dtype = types i; rows = rows i }

module _ (constant one : Constant) (count : ℕ) (ptype : PType) (numbers : List ℤ) (items : List ℕ) (ends : PrimitiveForm) (some : 0 < constant.count) (counted : count ≡ constant.count) (small : count < 2 ^ 64)
    (typed : ptype ≡ U64) (shown : numbers ≡ map (λ (n : ℕ). pos n) items) (stored : items ≡ replicate 1 count) (formed : ends ≡ primitive_with ptype numbers NeverNull) (is : one ≡ repeated constant 1) where
  made : ends ≡ primitive_with U64 (map (λ (n : ℕ). pos n) (count ∷ [])) NeverNull
  made = formed ∙ (λ i. primitive_with (typed i) ((shown ∙ ap (map (λ (n : ℕ). pos n)) stored) i) NeverNull)

  ends_are : ends_of ends ≡ count ∷ []
  ends_are = ap ends_of made ∙ naturals-of_pos (count ∷ [])

  -- its parts make a run column
  pub one_parts : AreParts (OfLeaf (OfNumbers ends)) (OfConstant one) 0 count
  one_parts = record {
    plain = rw made tt;
    runs = record {
      window = subst (λ (es : List ℕ). IsWindow es 0 count) (sym ends_are) (window_of_one count (omega (arith, some, counted)) small);
      paired = ap (λ (c : Constant). length (column_rows (OfConstant c))) is ∙ sym (ap (λ (es : List ℕ). length es) ends_are);
    };
  }

  -- with the rows of the constant
  pub one_plain : (runs : Runs) → runs ≡ runs_of (OfLeaf (OfNumbers ends)) (OfConstant one) 0 count → plain_of (column_of_runs runs) ≡ plain_of (OfConstant constant)
  one_plain runs held =
      let row : Option Value = option_map Single constant.value in
      let rows : column_rows (column_of_runs runs) ≡ column_rows (OfConstant constant) =
      ap (λ (r : Runs). column_rows (column_of_runs r)) held
      ∙ ap (λ (es : List ℕ). run_rows es (column_rows (OfConstant one)) 0 count) ends_are
      ∙ ap (λ (c : Constant). run_rows (count ∷ []) (column_rows (OfConstant c)) 0 count) is
      ∙ rows_of_one count row (omega (arith, some, counted)) small ∙ ap (λ (n : ℕ). replicate n row) counted in
      plain_same (column_of_runs runs) (OfConstant constant) (ap (λ (r : Runs). column_dtype r.values) held ∙ ap (λ (c : Constant). c.dtype) is) rows
