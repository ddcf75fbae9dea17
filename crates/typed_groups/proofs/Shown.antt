-- Numbers as rows, and how many answers there are.
use Rattle.std.proofs.Common.{◌≡◌, ◌∙◌, ℕ, ℤ, List, Option, length, map, subst, sym}
use Rattle.std.proofs.lemmas.List.{length-map}
use Rattle.column_core.specs.PrimitiveForm.{PrimitiveForm, optional_numbers}
use Rattle.column_core.specs.Value.{Value}
use Rattle.column_sums.specs.SumAnswer.{number_in}
use Rattle.column_sums.proofs.SingleRows.{numbers-of_rows}
use Rattle.runend_array.specs.Column.{OfLeaf, column_rows}
use Rattle.column_core.specs.Leaf.{OfNumbers}
use Rattle.runend_pairs.specs.Groups.{AreGroupAnswers}

pub numbers_shown : (numbers : PrimitiveForm) → map number_in (column_rows (OfLeaf (OfNumbers numbers))) ≡ optional_numbers numbers
numbers_shown numbers = numbers-of_rows (optional_numbers numbers)

-- answers as the rows that show them
pub answers_shown : (f : List (Option ℤ) → Option ℤ) (ends : List ℕ) (all : List (Option ℤ)) (answers : List (Option ℤ)) (rows : List (Option Value)) → AreGroupAnswers f ends all answers → map number_in rows ≡ answers → AreGroupAnswers f ends all (map number_in rows)
answers_shown f ends all answers rows made shown = subst (AreGroupAnswers f ends all) (sym shown) made

-- one for each group
pub answers_counted : (f : List (Option ℤ) → Option ℤ) (ends : List ℕ) (all : List (Option ℤ)) (answers : List (Option ℤ)) (rows : List (Option Value)) → AreGroupAnswers f ends all answers → map number_in rows ≡ answers → length rows ≡ length ends
answers_counted f ends all answers rows made shown = sym (length-map rows number_in) ∙ (answers_shown f ends all answers rows made shown).counted
