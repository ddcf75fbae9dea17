-- The least and the greatest number among floats, one of the two that a kernel finds.
use Rattle.std.proofs.Common.{◌≡◌, ℕ, ℤ, List, None, Option, Some, refl, subst, sym}
use Rattle.std.specs.Prelude.{IfSome, MatchOption, option_map}
use Rattle.std.specs.declared.cmp.Ordering.TheVariants.{Less, Greater}
use Rattle.column_core.specs.Value.{Value}
use Rattle.column_floats.specs.Extremes.{AreExtremes, NoneCounts}
use Rattle.float_bits.specs.declared.formats.FloatFormat.{FloatFormat}
use Rattle.float_bits.specs.Format.{IsPattern}
use Rattle.float_bits.specs.Number.{IsNan}
use Rattle.typed_groups.specs.Questions.{IsFurthestNumber, IsNumberEnd, key_value}

-- what the kernel finds
abbrev pub AreFound : FloatFormat → List (Option ℤ) → Option (ℕ × ℕ) → Type 0
AreFound f keys found = MatchOption found (NoneCounts (λ bits. ¬ IsNan f bits) f keys) (λ ends. AreExtremes (λ bits. ¬ IsNan f bits) f keys ends.0 ends.1)

pub least_of_ends : (f : FloatFormat) (keys : List (Option ℤ)) (ends : ℕ × ℕ) → AreExtremes (λ bits. ¬ IsNan f bits) f keys ends.0 ends.1 → IsFurthestNumber Less f keys (key_value f ends.0)
least_of_ends f keys ends are = record {
  bits = ends.0;
  counted = are.least_is;
  bound = λ other counted. (are.bounds other counted).0;
  stored = refl;
}

pub greatest_of_ends : (f : FloatFormat) (keys : List (Option ℤ)) (ends : ℕ × ℕ) → AreExtremes (λ bits. ¬ IsNan f bits) f keys ends.0 ends.1 → IsFurthestNumber Greater f keys (key_value f ends.1)
greatest_of_ends f keys ends are = record {
  bits = ends.1;
  counted = are.greatest_is;
  bound = λ other counted. (are.bounds other counted).1;
  stored = refl;
}

-- their patterns
pub least_pattern : (f : FloatFormat) (keys : List (Option ℤ)) (found : Option (ℕ × ℕ)) → AreFound f keys found → IfSome (option_map (λ (ends : ℕ × ℕ). ends.0) found) (IsPattern f)
least_pattern f keys None are = tt
least_pattern f keys (Some ends) are = are.least_is.pattern

pub greatest_pattern : (f : FloatFormat) (keys : List (Option ℤ)) (found : Option (ℕ × ℕ)) → AreFound f keys found → IfSome (option_map (λ (ends : ℕ × ℕ). ends.1) found) (IsPattern f)
greatest_pattern f keys None are = tt
greatest_pattern f keys (Some ends) are = are.greatest_is.pattern

-- the key of one of them
pub least_key : (f : FloatFormat) (found : Option (ℕ × ℕ)) → option_map (key_value f) (option_map (λ (ends : ℕ × ℕ). ends.0) found) ≡ option_map (λ (ends : ℕ × ℕ). key_value f ends.0) found
least_key f None = refl
least_key f (Some ends) = refl

pub greatest_key : (f : FloatFormat) (found : Option (ℕ × ℕ)) → option_map (key_value f) (option_map (λ (ends : ℕ × ℕ). ends.1) found) ≡ option_map (λ (ends : ℕ × ℕ). key_value f ends.1) found
greatest_key f None = refl
greatest_key f (Some ends) = refl

-- the answer is that of the found ends
pub least_found : (f : FloatFormat) (keys : List (Option ℤ)) (found : Option (ℕ × ℕ)) (answer : Option Value) → AreFound f keys found → answer ≡ option_map (λ ends. key_value f ends.0) found → IsNumberEnd Less f keys answer
least_found f keys None answer none is = subst (IsNumberEnd Less f keys) (sym is) none
least_found f keys (Some ends) answer are is = subst (IsNumberEnd Less f keys) (sym is) (least_of_ends f keys ends are)

pub greatest_found : (f : FloatFormat) (keys : List (Option ℤ)) (found : Option (ℕ × ℕ)) (answer : Option Value) → AreFound f keys found → answer ≡ option_map (λ ends. key_value f ends.1) found → IsNumberEnd Greater f keys answer
greatest_found f keys None answer none is = subst (IsNumberEnd Greater f keys) (sym is) none
greatest_found f keys (Some ends) answer are is = subst (IsNumberEnd Greater f keys) (sym is) (greatest_of_ends f keys ends are)
