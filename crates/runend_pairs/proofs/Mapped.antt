-- Rows of one column, each given to an operation twice.
use Rattle.std.proofs.Common.{◌≡◌, List, [], ◌∷◌, Bool, true, false, Option, Some, None, length, map, refl, ◌∙◌, ap}
use Rattle.std.specs.Prelude.{◌&&◌, if◌then◌else◌}
use Rattle.std.proofs.lemmas.Bool.{false≢true}
use Rattle.column_base.specs.declared.dtype.Nullability.{Nullability}
use Rattle.column_base.specs.declared.dtype.Nullability.TheVariants.{NonNullable}
use Rattle.column_base.specs.declared.dtype.DType.{DType}
use Rattle.column_base.specs.declared.dtype.DType.TheVariants as column
use Rattle.column_base.specs.declared.error.VortexError.TheVariants.{Unsupported}
use Rattle.column_base.specs.Types.{nullability_of}
use Rattle.column_core.specs.Value.{Value}
use Rattle.runend_array.specs.Column.{Column, column_rows}
use Rattle.runend_pairs.specs.Faults.{is_truths, truth_fault}
use Rattle.runend_pairs.specs.Operations.{negated, null_test, valid_test, IsNeverNull}
use Rattle.runend_pairs.specs.Zipped.{is_constant, zip_rows, IsOneRow}
use Rattle.runend_pairs.proofs.AnswerColumns.{one_answer_row}

-- the answers are those of each row
pub zip_rows-self : (g : Option Value → Option Value) (rows : List (Option Value)) → zip_rows (λ left right. g left) rows rows ≡ map g rows
zip_rows-self g [] = refl
zip_rows-self g (row ∷ rows) = ap (λ (rest : List (Option Value)). g row ∷ rest) (zip_rows-self g rows)

-- answers of the rows that other lists are
pub same_answers : (f : Option Value → Option Value → Option Value) (lefts rights shown_lefts shown_rights : List (Option Value)) → shown_lefts ≡ lefts → shown_rights ≡ rights
    → zip_rows f shown_lefts shown_rights ≡ zip_rows f lefts rights
same_answers f lefts rights shown_lefts shown_rights left_is right_is = ap (λ (xs : List (Option Value)). zip_rows f xs shown_rights) left_is ∙ ap (zip_rows f lefts) right_is

both_are : (a : Bool) → a ≡ true → (a && a) ≡ true
both_are true is = refl
both_are false is = cc

-- those of a constant are all of one row
pub one_mapped_row : (f : Option Value → Option Value → Option Value) (column : Column) → is_constant column ≡ true → IsOneRow (length (column_rows column)) (zip_rows f (column_rows column) (column_rows column))
one_mapped_row f column is = one_answer_row f column column (both_are (is_constant column) is) refl

-- what is answered of no null has none
pub negated_never : (n : Nullability) → n ≡ NonNullable → IsNeverNull n n (λ left right. negated left)
negated_never n none None b left right = absurd (false≢true (left none))
negated_never n none (Some a) b left right = refl

pub null_never : (m n : Nullability) → IsNeverNull m n (λ left right. null_test left)
null_never m n a b left right = refl

pub valid_never : (m n : Nullability) → IsNeverNull m n (λ left right. valid_test left)
valid_never m n a b left right = refl

-- a column of booleans
truths_there : (truths : Bool) → (if truths then None else Some Unsupported) ≡ None → truths ≡ true
truths_there true none = refl
truths_there false none = cc

pub no_truth_fault : (dtype : DType) → truth_fault dtype ≡ None → is_truths dtype ≡ true
no_truth_fault dtype none = truths_there (is_truths dtype) none

pub truths_dtype : (dtype : DType) → is_truths dtype ≡ true → column.Bool (nullability_of dtype) ≡ dtype
truths_dtype (column.Bool n) is = refl
truths_dtype (column.Primitive t n) is = cc
truths_dtype (column.Decimal d n) is = cc
truths_dtype (column.Utf8 n) is = cc
truths_dtype (column.Binary n) is = cc
truths_dtype (column.List e n) is = cc
