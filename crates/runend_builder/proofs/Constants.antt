-- The one run of a constant.
use Rattle.std.proofs.Common.{◌≡◌, ◌∙◌, ◌+◌, ◌<◌, ◌^◌, ℕ, ℤ, pos, zero, suc, List, [], ◌∷◌, Option, length, map, min, replicate, refl, sym, ap, subst, arith}
use Rattle.std.specs.Prelude.{option_map, slice_get, slice_range}
use Rattle.std.proofs.lemmas.List.{length-replicate}
use Rattle.runend_windows.specs.Visible.{HasRow}
use Rattle.runend_windows.specs.Window.{IsWindow, run_at, run_rows}
use Rattle.runend_windows.proofs.Lists.{equal_by_slice_get, slice_get-replicate}
use Rattle.runend_windows.proofs.RunAt.{run_at-here}
use Rattle.runend_windows.proofs.RunRows.{length-run_rows, slice_get-run_rows_of_window}
use Rattle.runend_windows.proofs.SlicedRuns.{IsWindow-of_none}
use Rattle.runend_windows.proofs.StoredNumbers.{naturals-of_pos}
use Rattle.runend_windows.specs.Ends.{IsEndsType, ends_of}
use Rattle.column_base.specs.declared.dtype.PType.{PType}
use Rattle.column_base.specs.declared.dtype.PType.TheVariants.{U64}
use Rattle.column_base.specs.ValidityForm.{NeverNull}
use Rattle.column_core.specs.Leaf.{Leaf, single_rows}
use Rattle.column_core.specs.PrimitiveForm.{PrimitiveForm, primitive_dtype, primitive_with}
use Rattle.column_core.specs.Value.{Single, Value}
use Rattle.runend_array.specs.Column.{Column, OfConstant, OfLeaf, OfLists, OfRuns, column_rows}
use Rattle.runend_builder.specs.Encoded.{IsConstantForm}

-- the end of the one run, or none without rows
abbrev pub constant_ends : ℕ → List ℕ
constant_ends count = replicate (min count 1) count

ends-of_some : (n : ℕ) → constant_ends (suc n) ≡ suc n ∷ []
ends-of_some n = let one : min (suc n) 1 ≡ 1 = omega arith in ap (λ (k : ℕ). replicate k (suc n)) one

window_of_one : (count : ℕ) → 0 < count → count < 2 ^ 64 → IsWindow (count ∷ []) 0 count
window_of_one count some small = record {
  increasing = λ k h. absurd (omega arith);
  none = λ none. absurd (omega arith);
  first = λ _. omega arith;
  last = λ _. omega arith;
  small = omega arith;
}

pub constant_window : (count : ℕ) → count < 2 ^ 64 → IsWindow (constant_ends count) 0 count
constant_window zero small = IsWindow-of_none
constant_window (suc n) small = subst (λ (ends : List ℕ). IsWindow ends 0 (suc n)) (sym (ends-of_some n)) (window_of_one (suc n) (omega arith) small)

shown_of_one : (n run : ℕ) → run < length (suc n ∷ []) → HasRow (suc n ∷ []) 0 (suc n) run
shown_of_one n run within =
    let first : run ≡ 0 = omega arith in
    record { row = 0; within = omega arith; holds = run_at-here (suc n) [] 0 (omega arith) ∙ sym first }

pub constant_shown : (count run : ℕ) → run < length (constant_ends count) → HasRow (constant_ends count) 0 count run
constant_shown zero run within = absurd (omega arith)
constant_shown (suc n) run within =
    subst (λ (ends : List ℕ). HasRow ends 0 (suc n) run) (sym (ends-of_some n))
    (shown_of_one n run (subst (λ (ends : List ℕ). run < length ends) (ends-of_some n) within))

-- the row of the one run, or none
pub constant_row : {B : Type 0} (count : ℕ) (row : B) → slice_range (replicate count row) 0 (min count 1) ≡ replicate (min count 1) row
constant_row zero row = refl
constant_row (suc n) row =
    let one : min (suc n) 1 ≡ 1 = omega arith in
    ap (λ (k : ℕ). slice_range (replicate (suc n) row) 0 k) one ∙ sym (ap (λ (k : ℕ). replicate k row) one)

-- it shows the rows of the constant
rows_of_one : {B : Type 0} (n : ℕ) (row : Option B) → suc n < 2 ^ 64 → run_rows (suc n ∷ []) (row ∷ []) 0 (suc n) ≡ replicate (suc n) row
rows_of_one n row small = equal_by_slice_get (run_rows (suc n ∷ []) (row ∷ []) 0 (suc n)) (replicate (suc n) row)
    (length-run_rows (suc n ∷ []) (row ∷ []) 0 (suc n) ∙ sym (length-replicate (suc n) row))
    (λ k h.
    let long = length-run_rows (suc n ∷ []) (row ∷ []) 0 (suc n) in
    let within : k < suc n = omega arith in
    let same : 0 + k ≡ k = omega arith in
    slice_get-run_rows_of_window (suc n ∷ []) (row ∷ []) 0 (suc n) k (window_of_one (suc n) (omega arith) small) refl within
    ∙ ap (slice_get (row ∷ [])) (ap (run_at (suc n ∷ [])) same ∙ run_at-here (suc n) [] k within)
    ∙ sym (slice_get-replicate (suc n) k row within))

pub constant_rows : {B : Type 0} (count : ℕ) (row : Option B) → count < 2 ^ 64 → run_rows (constant_ends count) (replicate (min count 1) row) 0 count ≡ replicate count row
constant_rows zero row small = refl
constant_rows (suc n) row small =
    let one : replicate (min (suc n) 1) row ≡ row ∷ [] = (let k : min (suc n) 1 ≡ 1 = omega arith in ap (λ (m : ℕ). replicate m row) k) in
    ap (λ (ends : List ℕ). run_rows ends (replicate (min (suc n) 1) row) 0 (suc n)) (ends-of_some n)
    ∙ ap (λ values. run_rows (suc n ∷ []) values 0 (suc n)) one
    ∙ rows_of_one n row small

-- a constant has one row, many times
pub row_of_constant : (c : Column) → IsConstantForm c → (row : Option Value) × (column_rows c ≡ replicate (length (column_rows c)) row)
row_of_constant (OfLeaf leaf) is = absurd is
row_of_constant (OfConstant constant) is =
    let row = option_map Single constant.value in
    (row, ap (λ (n : ℕ). replicate n row) (sym (length-replicate constant.count row)))
row_of_constant (OfLists lists) is = absurd is
row_of_constant (OfRuns ends_type ends values offset count) is = absurd is

-- the parts of its one run, as they are made
pub record AreConstantParts (c : Column) (count : ℕ) (ends : PrimitiveForm) (values : Leaf) : Type 0 where
  pub plain : IsEndsType (primitive_dtype ends)
  pub window : IsWindow (ends_of ends) 0 count
  pub paired : length (single_rows values) ≡ length (ends_of ends)
  pub shown : (run : ℕ) → run < length (ends_of ends) → HasRow (ends_of ends) 0 count run
  pub rows : run_rows (ends_of ends) (single_rows values) 0 count ≡ column_rows c

pub constant_parts : (c : Column) (count runs : ℕ) (ptype : PType) (numbers : List ℤ) (items : List ℕ) (ends : PrimitiveForm) (values : Leaf) → IsConstantForm c → count ≡ length (column_rows c) → count < 2 ^ 64
    → runs ≡ min count 1 → ptype ≡ U64 → numbers ≡ map (λ (n : ℕ). pos n) items → items ≡ replicate runs count → ends ≡ primitive_with ptype numbers NeverNull → single_rows values ≡ slice_range (column_rows c) 0 runs
    → AreConstantParts c count ends values
constant_parts c count runs ptype numbers items ends values is counted small few typed shown repeated formed part =
    let stored : numbers ≡ map (λ (n : ℕ). pos n) (replicate runs count) = shown ∙ ap (map (λ (n : ℕ). pos n)) repeated in
    let made : ends ≡ primitive_with U64 (map (λ (n : ℕ). pos n) (replicate runs count)) NeverNull = formed ∙ (λ i. primitive_with (typed i) (stored i) NeverNull) in
    let whole = row_of_constant c is in
    let row = whole.0 in
    let all : column_rows c ≡ replicate count row = whole.1 ∙ ap (λ (n : ℕ). replicate n row) (sym counted) in
    let ends_are : ends_of ends ≡ constant_ends count =
    ap ends_of made ∙ naturals-of_pos (replicate runs count) ∙ ap (λ (n : ℕ). replicate n count) few in
    let values_are : single_rows values ≡ replicate (min count 1) row =
    part ∙ ap (λ rows. slice_range rows 0 runs) all ∙ ap (λ (n : ℕ). slice_range (replicate count row) 0 n) few ∙ constant_row count row in
    record {
      plain = subst (λ (form : PrimitiveForm). IsEndsType (primitive_dtype form)) (sym made) tt;
      window = subst (λ (es : List ℕ). IsWindow es 0 count) (sym ends_are) (constant_window count small);
      paired = ap length values_are ∙ length-replicate (min count 1) row ∙ sym (length-replicate (min count 1) count) ∙ sym (ap length ends_are);
      shown = subst (λ (es : List ℕ). (run : ℕ) → run < length es → HasRow es 0 count run) (sym ends_are) (constant_shown count);
      rows = ap (λ (es : List ℕ). run_rows es (single_rows values) 0 count) ends_are
          ∙ ap (λ vs. run_rows (constant_ends count) vs 0 count) values_are ∙ constant_rows count row small ∙ sym all;
    }
