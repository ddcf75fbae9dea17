-- What comparisons of floats answer, by the order of their numbers.
use Rattle.std.proofs.Common.{◌≡◌, ◌∙◌, ℕ, ◌<◌, ◌⊎◌, inl, inr, ℤ, ◌<ℤ◌, ◌≤ℤ◌, Bool, true, false, true≢false, if◌then◌else◌, IsTrue, Option, Some, None, refl, ap, sym, subst, arith}
use Rattle.std.specs.Prelude.{◌↔◌}
use Rattle.std.specs.Cmp.{int_ranks}
use Rattle.std.specs.Ordering.{int_cmp, MatchOrdering}
use Rattle.std.specs.declared.cmp.Ordering.{Ordering}
use Rattle.std.specs.declared.cmp.Ordering.TheVariants.{Less, Equal, Greater}
use Rattle.std.proofs.lemmas.Int.{by_lt_z, ints}
use Rattle.column_floats.specs.Comparisons.{HoldsOfNumbers}
use Rattle.column_ops.specs.Comparing.{holds_of}
use Rattle.column_ops.specs.declared.operator.CompareOperator.{CompareOperator}
use Rattle.column_ops.specs.declared.operator.CompareOperator.TheVariants.{Eq, NotEq, Gt, Gte, Lt, Lte}
use Rattle.float_bits.specs.Format.{quiet_nan, IsPattern}
use Rattle.float_bits.specs.Number.{number, IsNan}
use Rattle.float_bits.specs.declared.formats.FloatFormat.{FloatFormat}
use Rattle.float_bits.specs.declared.formats.FloatFormat.TheVariants.{F16, F32, F64}
use Rattle.float_bits.proofs.Magnitudes.{nan_or_not}
use Rattle.exact_numbers.specs.Exact.{exact_cmp, exact_float, holds_exactly, Exact, NotANumber}
use Rattle.exact_numbers.specs.FloatDecisions.{is_at_most, order_past, IsDecidedPast, IsGreatestFloat}
use Rattle.exact_numbers.specs.declared.float_decisions.FloatDecision.{FloatDecision}
use Rattle.exact_numbers.proofs.FloatLevels.{exact_of_nan}
use Rattle.exact_numbers.proofs.FloatOrder.{above_float, below_float, none_right, same_float, some_number}
use Rattle.exact_numbers.proofs.Levels.{IsProper}
use Rattle.exact_numbers.proofs.Products.{test_less, test_not_less}

never : {P : Type 0} → IsTrue false → P
never h = absurd (true≢false (sym h))

-- where either is a NaN, only "not equal" holds
pub nan_truth : (operator : CompareOperator) (f : FloatFormat) (row bits : ℕ) → (IsNan f row ⊎ IsNan f bits) → IsTrue (holds_exactly operator None) ↔ HoldsOfNumbers operator f row bits
nan_truth Eq f row bits nan = (never, (λ h. absurd (elim nan [ inl n ↦ h.left n | inr n ↦ h.right n ])))
nan_truth NotEq f row bits nan = ((λ h. λ e. absurd (elim nan [ inl n ↦ e.left n | inr n ↦ e.right n ])), (λ h. refl))
nan_truth Gt f row bits nan = (never, (λ h. absurd (elim nan [ inl n ↦ h.right n | inr n ↦ h.left n ])))
nan_truth Gte f row bits nan = (never, (λ h. absurd (elim nan [ inl n ↦ h.right n | inr n ↦ h.left n ])))
nan_truth Lt f row bits nan = (never, (λ h. absurd (elim nan [ inl n ↦ h.left n | inr n ↦ h.right n ])))
nan_truth Lte f row bits nan = (never, (λ h. absurd (elim nan [ inl n ↦ h.left n | inr n ↦ h.right n ])))

-- else it holds by the order of the two numbers
module _ (f : FloatFormat) (row bits : ℕ) (left : ¬ IsNan f row) (right : ¬ IsNan f bits) where
  abbrev IsRanked : Ordering → Type 0
  IsRanked o = MatchOrdering o (number f row <ℤ number f bits) (number f row ≡ number f bits) (number f bits <ℤ number f row)

  ranked_truth : (operator : CompareOperator) (o : Ordering) → IsRanked o → IsTrue (holds_of operator o) ↔ HoldsOfNumbers operator f row bits
  ranked_truth Eq Less r = (never, (λ h. let e = h.same in absurd (omega (arith, ints))))
  ranked_truth Eq Equal r = ((λ h. record { left = left; right = right; same = r }), (λ h. refl))
  ranked_truth Eq Greater r = (never, (λ h. let e = h.same in absurd (omega (arith, ints))))
  ranked_truth NotEq Less r = ((λ h. λ e. let e = e.same in absurd (omega (arith, ints))), (λ h. refl))
  ranked_truth NotEq Equal r = (never, (λ h. absurd (h (record { left = left; right = right; same = r }))))
  ranked_truth NotEq Greater r = ((λ h. λ e. let e = e.same in absurd (omega (arith, ints))), (λ h. refl))
  ranked_truth Gt Less r = (never, (λ h. let b = h.below in absurd (omega (arith, ints))))
  ranked_truth Gt Equal r = (never, (λ h. let b = h.below in absurd (omega (arith, ints))))
  ranked_truth Gt Greater r = ((λ h. record { left = right; right = left; below = r }), (λ h. refl))
  ranked_truth Gte Less r = (never, (λ h. let b = h.at_most in absurd (omega (arith, ints))))
  ranked_truth Gte Equal r = ((λ h. record { left = right; right = left; at_most = omega (arith, ints) }), (λ h. refl))
  ranked_truth Gte Greater r = ((λ h. record { left = right; right = left; at_most = omega (arith, ints) }), (λ h. refl))
  ranked_truth Lt Less r = ((λ h. record { left = left; right = right; below = r }), (λ h. refl))
  ranked_truth Lt Equal r = (never, (λ h. let b = h.below in absurd (omega (arith, ints))))
  ranked_truth Lt Greater r = (never, (λ h. let b = h.below in absurd (omega (arith, ints))))
  ranked_truth Lte Less r = ((λ h. record { left = left; right = right; at_most = omega (arith, ints) }), (λ h. refl))
  ranked_truth Lte Equal r = ((λ h. record { left = left; right = right; at_most = omega (arith, ints) }), (λ h. refl))
  ranked_truth Lte Greater r = (never, (λ h. let b = h.at_most in absurd (omega (arith, ints))))

  pub number_truth : (operator : CompareOperator) → IsTrue (holds_of operator (int_cmp (number f row) (number f bits))) ↔ HoldsOfNumbers operator f row bits
  number_truth operator = ranked_truth operator (int_cmp (number f row) (number f bits)) (int_ranks (number f row) (number f bits))

-- a comparison with a number that is the greatest float not above it
pub equal_order : (f : FloatFormat) (row bits : ℕ) (x : Exact) → IsProper x → IsPattern f row → ¬ IsNan f row → IsGreatestFloat f x bits → exact_cmp (exact_float f bits) x ≡ Some Equal →
    exact_cmp (exact_float f row) x ≡ Some (int_cmp (number f row) (number f bits))
equal_order f row bits x proper all known greatest equal = by_rank (int_cmp (number f row) (number f bits)) (int_ranks (number f row) (number f bits)) where
  by_rank : (o : Ordering) → MatchOrdering o (number f row <ℤ number f bits) (number f row ≡ number f bits) (number f bits <ℤ number f row) → exact_cmp (exact_float f row) x ≡ Some o
  by_rank Less less = below_float f row bits x proper known greatest.known less greatest.at_most
  by_rank Equal e = ap (λ (y : Exact). exact_cmp y x) (same_float f row bits known greatest.known e) ∙ equal
  by_rank Greater more = above_float f row x known (some_number (exact_float f bits) x greatest.at_most) (greatest.above row all known more)

-- a comparison with a number that is above it
pub past_order : (f : FloatFormat) (row bits : ℕ) (x : Exact) → IsProper x → IsPattern f row → ¬ IsNan f row → IsGreatestFloat f x bits → exact_cmp (exact_float f bits) x ≡ Some Less →
    exact_cmp (exact_float f row) x ≡ Some (order_past f bits row)
past_order f row bits x proper all known greatest less =
    by_lt_z (number f bits) (number f row)
    (λ more. above_float f row x known (some_number (exact_float f bits) x greatest.at_most) (greatest.above row all known more) ∙ ap (λ (b : Bool). Some (if b then Greater else Less)) (sym (test_less (number f bits) (number f row) more)))
    (λ most. not_above (int_cmp (number f row) (number f bits)) (int_ranks (number f row) (number f bits)) most ∙ ap (λ (b : Bool). Some (if b then Greater else Less)) (sym (test_not_less (number f bits) (number f row) most))) where
      not_above : (o : Ordering) → MatchOrdering o (number f row <ℤ number f bits) (number f row ≡ number f bits) (number f bits <ℤ number f row) → number f row ≤ℤ number f bits → exact_cmp (exact_float f row) x ≡ Some Less
      not_above Less before most = below_float f row bits x proper known greatest.known before greatest.at_most
      not_above Equal e most = ap (λ (y : Exact). exact_cmp y x) (same_float f row bits known greatest.known e) ∙ less
      not_above Greater more most = absurd (omega (arith, ints))

-- so the three decisions answer for each float
abbrev Answers : CompareOperator → FloatFormat → Exact → CompareOperator → ℕ → ℕ → Type 0
Answers operator f x decided bits row = IsTrue (holds_exactly operator (exact_cmp (exact_float f row) x)) ↔ HoldsOfNumbers decided f row bits

by_order : (operator : CompareOperator) (f : FloatFormat) (x : Exact) (decided : CompareOperator) (bits row : ℕ) (o : Option Ordering) → exact_cmp (exact_float f row) x ≡ o →
    IsTrue (holds_exactly operator o) ↔ HoldsOfNumbers decided f row bits → Answers operator f x decided bits row
by_order operator f x decided bits row o e h = subst (λ (o : Option Ordering). IsTrue (holds_exactly operator o) ↔ HoldsOfNumbers decided f row bits) (sym e) h

order_of_nan : (f : FloatFormat) (row : ℕ) (x : Exact) → IsNan f row → exact_cmp (exact_float f row) x ≡ None
order_of_nan f row x nan = ap (λ (y : Exact). exact_cmp y x) (exact_of_nan f row nan)

quiet_is_nan : (f : FloatFormat) → IsNan f (quiet_nan f)
quiet_is_nan F16 = (refl, omega arith)
quiet_is_nan F32 = (refl, omega arith)
quiet_is_nan F64 = (refl, omega arith)

pub answers_nowhere : (operator : CompareOperator) (f : FloatFormat) (x : Exact) (row : ℕ) → x ≡ NotANumber → Answers operator f x operator (quiet_nan f) row
answers_nowhere operator f x row e =
    by_order operator f x operator (quiet_nan f) row None (ap (λ (y : Exact). exact_cmp (exact_float f row) y) e ∙ none_right (exact_float f row)) (nan_truth operator f row (quiet_nan f) (inr (quiet_is_nan f)))

pub answers_equal : (operator : CompareOperator) (f : FloatFormat) (x : Exact) (bits row : ℕ) → IsProper x → IsGreatestFloat f x bits → exact_cmp (exact_float f bits) x ≡ Some Equal → IsPattern f row →
    Answers operator f x operator bits row
answers_equal operator f x bits row proper greatest equal all = elim (nan_or_not f row) [
  | inl nan ↦ by_order operator f x operator bits row None (order_of_nan f row x nan) (nan_truth operator f row bits (inl nan))
  | inr known ↦
      by_order operator f x operator bits row (Some (int_cmp (number f row) (number f bits))) (equal_order f row bits x proper all known greatest equal) (number_truth f row bits known greatest.known operator)
]

pub answers_past : (operator : CompareOperator) (f : FloatFormat) (x : Exact) (bits row : ℕ) (decision : FloatDecision) → IsProper x → IsGreatestFloat f x bits → exact_cmp (exact_float f bits) x ≡ Some Less →
    IsDecidedPast operator f bits decision → IsPattern f row → Answers operator f x decision.operator decision.bits row
answers_past operator f x bits row decision proper greatest less decided all = elim (nan_or_not f row) [
  | inl nan ↦ by_order operator f x decision.operator decision.bits row None (order_of_nan f row x nan) ((decided row all).0 nan)
  | inr known ↦ by_order operator f x decision.operator decision.bits row (Some (order_past f bits row)) (past_order f row bits x proper all known greatest less) ((decided row all).1 known)
]

-- an order that is at most, and not equal
pub less_of : (o : Option Ordering) → is_at_most o ≡ true → ¬ (o ≡ Some Equal) → o ≡ Some Less
less_of None is not = absurd (true≢false (sym is))
less_of (Some Less) is not = refl
less_of (Some Equal) is not = absurd (not refl)
less_of (Some Greater) is not = absurd (true≢false (sym is))
