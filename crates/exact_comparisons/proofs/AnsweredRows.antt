-- Answers of comparisons, row by row.
use Rattle.std.proofs.Common.{◌≡◌, ◌∙◌, ◌↔◌, ℤ, pos, List, [], ◌∷◌, Bool, true, false, IsTrue, Option, None, Some, refl, ap, subst, sym, map}
use Rattle.std.specs.List.{AllZip}
use Rattle.std.specs.Ordering.{int_cmp}
use Rattle.column_base.specs.declared.dtype.DType.{DType}
use Rattle.column_base.specs.declared.dtype.DType.TheVariants as columns
use Rattle.column_core.specs.Value.{Bytes, DecimalNumber, Items, Number, Single, Text, Truth, Value}
use Rattle.column_floats.specs.Comparisons.{HoldsOfNumbers, IsTruthOf}
use Rattle.column_ops.specs.Comparing.{compare_with, compared, holds_of}
use Rattle.column_ops.specs.declared.operator.CompareOperator.{CompareOperator}
use Rattle.column_sums.specs.SumAnswer.{number_in}
use Rattle.exact_comparisons.specs.ExactRows.{flat_number, scale_of, HasStored, IsExactTruth}
use Rattle.exact_numbers.specs.Exact.{exact_cmp, exact_decimal, exact_float, exact_of, holds_exactly, Exact}
use Rattle.exact_numbers.specs.FloatDecisions.{IsDecidedAmongFloats}
use Rattle.exact_numbers.specs.declared.float_decisions.FloatDecision.{FloatDecision}
use Rattle.exact_numbers.specs.declared.numbers.ExactNumber.{ExactNumber}
use Rattle.float_bits.specs.declared.formats.FloatFormat.{FloatFormat}
use Rattle.typed_kernels.specs.declared.meanings.Served.TheVariants.{Floats, Stored}

-- what holds of each item and of what it becomes
pub all_mapped : {A B : Type 0} (R : A → B → Type 0) (g : A → B) (xs : List A) → ((x : A) → R x (g x)) → AllZip R xs (map g xs)
all_mapped R g [] each = tt
all_mapped R g (x ∷ xs) each = (each x, all_mapped R g xs each)

-- what holds of what is seen of each item
pub all_seen : {A B C : Type 0} (S : B → C → Type 0) (R : A → C → Type 0) (h : A → B) → ((x : A) (y : C) → S (h x) y → R x y) → (xs : List A) (ys : List C) → AllZip S (map h xs) ys → AllZip R xs ys
all_seen S R h turn [] [] all = tt
all_seen S R h turn [] (y ∷ ys) all = absurd all
all_seen S R h turn (x ∷ xs) [] all = absurd all
all_seen S R h turn (x ∷ xs) (y ∷ ys) all = (turn x y all.0, all_seen S R h turn xs ys all.1)

-- a comparison with an integer that rows of a type may have answers for each of these
abbrev pub IsDecided : CompareOperator → ExactNumber → DType → CompareOperator → ℤ → Type 0
IsDecided operator number t decided n =
    (z : ℤ) → HasStored t z → holds_exactly operator (exact_cmp (exact_decimal (scale_of t) z) (exact_of number)) ≡ holds_of decided (int_cmp z n)

module _ (operator : CompareOperator) (number : ExactNumber) where
  -- of what a row is said
  told : (x y : Exact) (truth : Bool) → x ≡ y → holds_exactly operator (exact_cmp y (exact_of number)) ≡ truth → ◌≡◌ {A = Option Value} (Some (Single (Truth truth))) (Some (Single (Truth (holds_exactly operator (exact_cmp x (exact_of number))))))
  told x y truth e is = ap (λ (b : Bool). Some (Single (Truth b))) (sym is ∙ ap (λ (z : Exact). holds_exactly operator (exact_cmp z (exact_of number))) (sym e))

  -- integers and decimals
  pub stored_answer : (t : DType) (decided : CompareOperator) (n : ℤ) → IsDecided operator number t decided n → (row : Option Value) → IsExactTruth Stored t operator number row (compared decided row (Some (Single (flat_number t n))))
  stored_answer t decided n d None = refl
  stored_answer (columns.Primitive p m) decided n d (Some (Single (Number z))) = λ x has. told x (exact_decimal (pos 0) z) (holds_of decided (int_cmp z n)) has.1 (d z has.0)
  stored_answer (columns.Primitive p m) decided n d (Some (Single (Truth b))) = λ x has. absurd has
  stored_answer (columns.Primitive p m) decided n d (Some (Single (DecimalNumber z))) = λ x has. absurd has
  stored_answer (columns.Primitive p m) decided n d (Some (Single (Text bytes))) = λ x has. absurd has
  stored_answer (columns.Primitive p m) decided n d (Some (Single (Bytes bytes))) = λ x has. absurd has
  stored_answer (columns.Primitive p m) decided n d (Some (Items items)) = λ x has. absurd has
  stored_answer (columns.Decimal e m) decided n d (Some (Single (DecimalNumber z))) = λ x has. told x (exact_decimal e.scale z) (holds_of decided (int_cmp z n)) has.1 (d z has.0)
  stored_answer (columns.Decimal e m) decided n d (Some (Single (Truth b))) = λ x has. absurd has
  stored_answer (columns.Decimal e m) decided n d (Some (Single (Number z))) = λ x has. absurd has
  stored_answer (columns.Decimal e m) decided n d (Some (Single (Text bytes))) = λ x has. absurd has
  stored_answer (columns.Decimal e m) decided n d (Some (Single (Bytes bytes))) = λ x has. absurd has
  stored_answer (columns.Decimal e m) decided n d (Some (Items items)) = λ x has. absurd has
  stored_answer (columns.Bool m) decided n d (Some v) = λ x has. absurd has
  stored_answer (columns.Utf8 m) decided n d (Some v) = λ x has. absurd has
  stored_answer (columns.Binary m) decided n d (Some v) = λ x has. absurd has
  stored_answer (columns.List e m) decided n d (Some v) = λ x has. absurd has

  -- two tests of one fact
  same_test : (a b : Bool) {P : Type 0} → IsTrue a ↔ P → IsTrue b ↔ P → a ≡ b
  same_test true true p q = refl
  same_test true false p q = sym (q.1 (p.0 refl))
  same_test false true p q = p.1 (q.0 refl)
  same_test false false p q = refl

  -- floats
  pub float_answer : (f : FloatFormat) (t : DType) (decision : FloatDecision) → IsDecidedAmongFloats operator number f decision → (row answer : Option Value) →
      IsTruthOf f (λ bits. HoldsOfNumbers decision.operator f bits decision.bits) (number_in row) answer → IsExactTruth (Floats f) t operator number row answer
  float_answer f t decision d None answer h = h
  float_answer f t decision d (Some (Single (Number key))) answer h = λ x has.
      let same : h.0 ≡ holds_exactly operator (exact_cmp (exact_float f has.0) (exact_of number)) = same_test h.0 (holds_exactly operator (exact_cmp (exact_float f has.0) (exact_of number))) (h.2 has.0 has.1 has.2) (d has.0 has.1) in
      h.1 ∙ told x (exact_float f has.0) h.0 has.3 (sym same)
  float_answer f t decision d (Some (Single (Truth b))) answer h = λ x has. absurd has
  float_answer f t decision d (Some (Single (DecimalNumber z))) answer h = λ x has. absurd has
  float_answer f t decision d (Some (Single (Text bytes))) answer h = λ x has. absurd has
  float_answer f t decision d (Some (Single (Bytes bytes))) answer h = λ x has. absurd has
  float_answer f t decision d (Some (Items items)) answer h = λ x has. absurd has

-- the answers for all rows of a column of integers or decimals
pub stored_truths : (operator : CompareOperator) (number : ExactNumber) (t : DType) (decided : CompareOperator) (n : ℤ) → IsDecided operator number t decided n → (all truths : List (Option Value))
    → truths ≡ compare_with decided all (Some (Single (flat_number t n))) → AllZip (IsExactTruth Stored t operator number) all truths
stored_truths operator number t decided n d all truths is =
    subst (λ (answers : List (Option Value)). AllZip (IsExactTruth Stored t operator number) all answers) (sym is)
    (all_mapped (IsExactTruth Stored t operator number) (λ (row : Option Value). compared decided row (Some (Single (flat_number t n)))) all (stored_answer operator number t decided n d))
