-- The visible runs of four runs that are written out, and what sums of them answer.
use Rattle.std.proofs.Common.{◌≡◌, ◌∙◌, ◌-◌, ℕ, ℤ, pos, List, [], ◌∷◌, Option, Some, None, Result, Ok, Err, map, sym, ap}
use Rattle.std.specs.Prelude.{IfOk, IsOk}
use Rattle.std.proofs.lemmas.Bool.{false≢true}
use Rattle.column_base.specs.declared.dtype.DType.{DType}
use Rattle.column_base.specs.declared.dtype.DType.TheVariants as column
use Rattle.column_base.specs.declared.error.VortexError.{VortexError}
use Rattle.column_core.specs.Value.{Value}
use Rattle.column_sums.specs.RunSum.{rows_of_runs}
use Rattle.column_sums.specs.SumAnswer.{IsSumAnswer, answer_of, number_in}
use Rattle.column_sums.specs.SumRange.{SumRange, SignedRange}
use Rattle.column_sums.specs.declared.answer.SumAnswer.{SumAnswer}
use Rattle.column_sums.proofs.SingleRows.{sum_range-signed}
use Rattle.runend_array.specs.Column.{Runs, column_rows}
use Rattle.runend_array.specs.RowRuns.{first_visible, stop_visible}
use Rattle.runend_aggregate.specs.ShownRuns.{AreFourRuns, runs_from, visible_runs}
use Rattle.runend_aggregate.specs.SignOf.{IsSignedType}

abbrev visible_with : List ℕ → List (Option ℤ) → ℕ → ℕ → List (Option ℤ × ℕ)
visible_with ends numbers offset count =
    runs_from ends numbers offset count (first_visible ends offset count) (stop_visible ends offset count - first_visible ends offset count)

-- the visible runs of a window over these four
pub visible-four : (r : Runs) (offset count : ℕ) → AreFourRuns r → r.offset ≡ offset → r.count ≡ count
    → visible_runs r ≡ visible_with (3 ∷ 6 ∷ 8 ∷ 12 ∷ []) (Some (pos 4) ∷ None ∷ Some (pos 4) ∷ Some (pos 5) ∷ []) offset count
visible-four r offset count four at long =
    let four_ends : List ℕ = 3 ∷ 6 ∷ 8 ∷ 12 ∷ [] in
    let four_numbers : List (Option ℤ) = Some (pos 4) ∷ None ∷ Some (pos 4) ∷ Some (pos 5) ∷ [] in
    ap (λ (ends : List ℕ). visible_with ends (map number_in (column_rows r.values)) r.offset r.count) four.ends
    ∙ ap (λ (numbers : List (Option ℤ)). visible_with four_ends numbers r.offset r.count) four.numbers
    ∙ ap (λ (k : ℕ). visible_with four_ends four_numbers k r.count) at
    ∙ ap (λ (n : ℕ). visible_with four_ends four_numbers offset n) long

-- the answer for signed numbers, by the runs that show them
signed_told : (t : DType) (rows : List (Option Value)) (answer : SumAnswer) → IsSignedType t → IsSumAnswer t rows answer → answer ≡ answer_of SignedRange (map number_in rows)
signed_told (column.Primitive t n) rows answer signed told = told ∙ sym (ap (λ (range : SumRange). answer_of range (map number_in rows)) (sum_range-signed t signed))
signed_told (column.Bool n) rows answer signed told = absurd signed
signed_told (column.Decimal d n) rows answer signed told = absurd signed
signed_told (column.Utf8 n) rows answer signed told = absurd signed
signed_told (column.Binary n) rows answer signed told = absurd signed
signed_told (column.List e n) rows answer signed told = absurd signed

-- a sum that is not refused is the one of its runs, however these are written
pub answer_is : (t : DType) (rows : List (Option Value)) (runs shown : List (Option ℤ × ℕ)) (result : Result SumAnswer VortexError) → IsSignedType t → IsOk result
    → IfOk result (IsSumAnswer t rows) → rows_of_runs runs ≡ map number_in rows → runs ≡ shown → result ≡ Ok (answer_of SignedRange (rows_of_runs shown))
answer_is t rows runs shown (Ok answer) signed served told same written =
    ap Ok (signed_told t rows answer signed told ∙ sym (ap (answer_of SignedRange) same) ∙ ap (λ (rs : List (Option ℤ × ℕ)). answer_of SignedRange (rows_of_runs rs)) written)
answer_is t rows runs shown (Err error) signed served told same written = absurd (false≢true served)
