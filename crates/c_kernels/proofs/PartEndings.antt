-- How the call ends that asks what a column adds to a sum, and what it writes.
use Rattle.std.proofs.Common.{◌≡◌, ◌≢◌, ◌∙◌, ◌+◌, ◌*◌, ◌/◌, ◌%◌, ◌^◌, ◌<◌, ℕ, ℤ, List, Option, pos, ap, arith, sym, subst, map}
use Rattle.std.specs.Prelude.{IfErr, IfOk, IsErrOf, IsSomeAnd, Some, None, Result, Ok, Err}
use Rattle.std.specs.Global.{Global}
use Rattle.std.specs.Int.{cast_signed, cast_unsigned, w64}
use Rattle.std.proofs.lemmas.Int.{of_z-to_z}
use Rattle.column_base.specs.declared.dtype.DType.{DType}
use Rattle.column_base.specs.declared.dtype.DType.TheVariants as column
use Rattle.column_base.specs.declared.error.VortexError.{VortexError}
use Rattle.column_core.specs.Refusal.{IsRefusedBy}
use Rattle.column_core.specs.Value.{Value}
use Rattle.column_sums.specs.SumAnswer.{number_in}
use Rattle.column_sums.specs.SumRange.{SumRange, SignedRange, UnsignedRange, sum_range}
use Rattle.runend_array.specs.Array.{dtype_of, rows}
use Rattle.runend_array.specs.declared.array_ref.ArrayRef.{ArrayRef}
use Rattle.runend_pairs.specs.GroupFaults.{numbers_fault}
use Rattle.runend_pairs.specs.SumParts.{ArePartsIn, ArePartsOf, AreSumParts}
use Rattle.runend_pairs.specs.declared.parts.SumParts.{SumParts}
use Rattle.runend_pairs.specs.declared.parts.SumParts.TheVariants.{Signed, Unsigned}
use Rattle.c_columns.specs.Ending.{IsRefusedAs}
use Rattle.c_columns.specs.declared.error_fields.ErrorFields.{ErrorFields}
use Rattle.c_columns.specs.declared.pairs.Pair.{Pair}
use Rattle.c_kernels.specs.SumParts.{number_by, AreShownAs, ArePairsOf, ArePartsShown, EndsOnParts}
use Rattle.c_kernels.specs.declared.part_calls.PartPairs.{PartPairs}
use Rattle.c_kernels.proofs.FloatEndings.{Held, ends_held, floats_empty}

-- ---- The words of the numbers ----

-- a number is that of its words
pub number_again : (number low high : ℕ) (signed : ℤ) → low ≡ number % 18446744073709551616 → high ≡ number / 18446744073709551616 → number < 2 ^ 128 → signed ≡ cast_signed w64 high
    → pos number ≡ pos (cast_unsigned w64 signed * 2 ^ 64 + low)
number_again number low high signed l h short is =
    let back : cast_unsigned w64 signed ≡ high = ap (cast_unsigned w64) is ∙ of_z-to_z w64 high (omega (arith, h, short)) in
    ap (λ (n : ℕ). pos n) (omega (arith, back, l, h))

-- three numbers are those of their words
three_words : (rows : List (Option ℤ)) (total least greatest total' least' greatest' : ℤ) → total ≡ total' → least ≡ least' → greatest ≡ greatest' → AreSumParts rows total least greatest
    → AreSumParts rows total' least' greatest'
three_words rows total least greatest total' least' greatest' first second third are = record {
  last = sym first ∙ are.last;
  low = sym second ∙ are.low;
  high = sym third ∙ are.high;
}

words_in : (range : SumRange) (rows : List (Option ℤ)) (parts : SumParts) (total least greatest : Pair) → ArePartsIn range rows parts → ArePairsOf parts total least greatest
    → AreSumParts rows (number_by range total) (number_by range least) (number_by range greatest)
words_in SignedRange rows (Signed parts) total least greatest are words =
    three_words rows parts.total parts.least parts.greatest (number_by SignedRange total) (number_by SignedRange least) (number_by SignedRange greatest) words.0 words.1 words.2 are
words_in SignedRange rows (Unsigned parts) total least greatest are words = absurd are
words_in UnsignedRange rows (Signed parts) total least greatest are words = absurd are
words_in UnsignedRange rows (Unsigned parts) total least greatest are words =
    three_words rows (pos parts.total) (pos 0) (pos parts.total) (number_by UnsignedRange total) (number_by UnsignedRange least) (number_by UnsignedRange greatest) words.0 words.1 words.2 are

shown_as : (dtype : DType) (a : ArrayRef Global) (parts : SumParts) (total least greatest : Pair) → ArePartsOf dtype (rows a) parts → ArePairsOf parts total least greatest → AreShownAs dtype a total least greatest
shown_as (column.Primitive t n) a parts total least greatest are words = words_in (sum_range t) (map number_in (rows a)) parts total least greatest are words
shown_as (column.Bool n) a parts total least greatest are words = absurd are
shown_as (column.Decimal d n) a parts total least greatest are words = absurd are
shown_as (column.Utf8 n) a parts total least greatest are words = absurd are
shown_as (column.Binary n) a parts total least greatest are words = absurd are
shown_as (column.List e n) a parts total least greatest are words = absurd are

pub words_shown : (a : ArrayRef Global) (parts : SumParts) (total least greatest : Pair) → ArePartsOf (dtype_of a) (rows a) parts → ArePairsOf parts total least greatest → ArePartsShown a total least greatest
words_shown a parts total least greatest are words = shown_as (dtype_of a) a parts total least greatest are words

-- ---- The end of the call ----

pub parts_empty : (c : Held) (code : ℤ) (fields : ErrorFields) → c ≡ None → code ≡ pos 22 → EndsOnParts c code fields
parts_empty c code fields none is = floats_empty numbers_fault c code fields none is

parts_ok : (outcome : Result PartPairs VortexError) (total least greatest : Pair) (code : ℤ) → IfOk outcome (λ parts. (code ≡ pos 0) × (total ≡ parts.total) × (least ≡ parts.least) × (greatest ≡ parts.greatest))
    → IfOk outcome (λ _. code ≡ pos 0)
parts_ok (Ok parts) total least greatest code ok = ok.0
parts_ok (Err why) total least greatest code ok = ok

parts_err : (outcome : Result PartPairs VortexError) (total least greatest old_total old_least old_greatest : Pair) (code : ℤ) (fields : ErrorFields)
    → IfErr outcome (λ why. (code ≢ pos 0) × IsRefusedAs why code fields × (total ≡ old_total) × (least ≡ old_least) × (greatest ≡ old_greatest)) → IfErr outcome (λ why. IsRefusedAs why code fields)
parts_err (Ok parts) total least greatest old_total old_least old_greatest code fields err = err
parts_err (Err why) total least greatest old_total old_least old_greatest code fields err = err.1

pub parts_ends : (c : Held) (a : ArrayRef Global) (outcome : Result PartPairs VortexError) (total least greatest old_total old_least old_greatest : Pair) (code : ℤ) (fields : ErrorFields) → c ≡ Some a
    → IsRefusedBy (numbers_fault (dtype_of a)) outcome → ((error : VortexError) → numbers_fault (dtype_of a) ≡ Some error → IsErrOf outcome error)
    → IfOk outcome (λ parts. (code ≡ pos 0) × (total ≡ parts.total) × (least ≡ parts.least) × (greatest ≡ parts.greatest))
    → IfErr outcome (λ why. (code ≢ pos 0) × IsRefusedAs why code fields × (total ≡ old_total) × (least ≡ old_least) × (greatest ≡ old_greatest)) → EndsOnParts c code fields
parts_ends c a outcome total least greatest old_total old_least old_greatest code fields some refused first ok err =
    ends_held numbers_fault c a outcome code fields some refused first (parts_ok outcome total least greatest code ok)
    (parts_err outcome total least greatest old_total old_least old_greatest code fields err)

pub parts_shown : (c : Held) (a : ArrayRef Global) (outcome : Result PartPairs VortexError) (total least greatest old_total old_least old_greatest : Pair) (code : ℤ) (fields : ErrorFields) → c ≡ Some a
    → IfOk outcome (λ parts. ArePartsShown a parts.total parts.least parts.greatest) → IfOk outcome (λ parts. (code ≡ pos 0) × (total ≡ parts.total) × (least ≡ parts.least) × (greatest ≡ parts.greatest))
    → IfErr outcome (λ why. (code ≢ pos 0) × IsRefusedAs why code fields × (total ≡ old_total) × (least ≡ old_least) × (greatest ≡ old_greatest)) → code ≡ pos 0
    → IsSomeAnd c (λ x. ArePartsShown x total least greatest)
parts_shown c a (Ok parts) total least greatest old_total old_least old_greatest code fields some are ok err zero =
    subst (λ (h : Held). IsSomeAnd h (λ x. ArePartsShown x total least greatest)) (sym some)
    (subst (λ (p : Pair). ArePartsShown a p least greatest) (sym ok.1)
    (subst (λ (p : Pair). ArePartsShown a parts.total p greatest) (sym ok.2) (subst (λ (p : Pair). ArePartsShown a parts.total parts.least p) (sym ok.3) are)))
parts_shown c a (Err why) total least greatest old_total old_least old_greatest code fields some are ok err zero = absurd (err.0 zero)
