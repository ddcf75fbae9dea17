-- The words of decimals: at most one decimal is spelled, and what is written spells its decimal.
use Rattle.std.proofs.Common.{◌≡◌, ◌∙◌, ◌<◌, ◌≤◌, ◌+◌, ◌*◌, ◌^◌, ◌++◌, [], ◌∷◌, ℕ, ℤ, pos, negsuc, neg_ℤ, List, Bool, true, false, get_or, drop, zero, suc, refl, ap, ap₂, sym, inl, inr, arith}
use Rattle.std.specs.Prelude.{codes, if◌then◌else◌, ◌==◌, FitsSigned}
use Rattle.std.specs.Int.{w8}
use Rattle.std.specs.Fmt.{decimal, signed_decimal}
use Rattle.std.specs.Str.Parse.{AllDigits, IsNumeral, digits_value}
use Rattle.std.proofs.lemmas.Bool.{ne_eqb, eqb-true}
use Rattle.std.proofs.lemmas.Fmt.{decimal_is_IsNumeral}
use Rattle.std.proofs.lemmas.Int.{ints}
use Rattle.std.proofs.lemmas.List.{append-nil}
use Rattle.std.proofs.lemmas.Str.Parse.{digit_at}
use Rattle.column_base.specs.declared.dtype.DecimalDType.{DecimalDType}
use Rattle.logical_types.specs.declared.types.DecimalWidth.{DecimalWidth}
use Rattle.logical_types.specs.declared.types.DecimalWidth.TheVariants.{Bits32, Bits64, Bits128}
use Rattle.logical_types.specs.declared.types.LogicalType.TheVariants.{Decimal}
use Rattle.logical_types.specs.Formats.{IsEnding, SpellsDecimal, most_digits, written_ending}
use Rattle.logical_types.specs.Numbers.{IsNumberOf, IsWholeNumberOf, whole_number, without_minus}
use Rattle.logical_types.proofs.Cuts.{HasNone, after, after_at, before, before_at, before_none, has, has_at, has_none}

-- ---- Digits and a minus are not commas

pub digits_have_none : (word : List ℕ) → AllDigits 10 word → HasNone 44 word
digits_have_none word all i inside comma = let digit = digit_at word i all inside in absurd (omega (arith, digit))

after_minus : (x : ℕ) (xs : List ℕ) → x ≡ 45 → HasNone 44 xs → HasNone 44 (x ∷ xs)
after_minus x xs dash none zero inside comma = absurd (omega arith)
after_minus x xs dash none (suc i) inside comma = none i (omega arith) comma

signed_has_none : (x : ℕ) (xs : List ℕ) (minus : Bool) → (x == 45) ≡ minus → AllDigits 10 (drop (if minus then 1 else 0) (x ∷ xs)) → HasNone 44 (x ∷ xs)
signed_has_none x xs false is all = digits_have_none (x ∷ xs) all
signed_has_none x xs true is all = after_minus x xs (eqb-true x 45 is) (digits_have_none xs all)

nothing_has_none : HasNone 44 []
nothing_has_none i inside comma = absurd (omega arith)

pub whole_has_none : (word : List ℕ) → IsNumeral 10 (without_minus word) → HasNone 44 word
whole_has_none [] numeral = nothing_has_none
whole_has_none (x ∷ xs) numeral = signed_has_none x xs (x == 45) refl numeral.1

-- ---- The width by what follows the second comma

abbrev pub number : List ℕ → ℕ
number [] = 0
number (x ∷ xs) = x + 256 * number xs

abbrev pub width_at : Bool → List ℕ → DecimalWidth
width_at false word = Bits128
width_at true word = if number word == 12851 then Bits32 else (if number word == 13366 then Bits64 else Bits128)

module _ (scale : List ℕ) (none : HasNone 44 scale) where
  -- scale and width of a word that follows the precision
  pub places_at : (w : DecimalWidth) (ending : List ℕ) → IsEnding ending w → (before 44 (scale ++ ending) ≡ scale) × (width_at (has 44 (scale ++ ending)) (after 44 (scale ++ ending)) ≡ w)
  places_at Bits32 ending e = rw e (before_at 44 scale (codes "32") none, rw (has_at 44 scale (codes "32"), after_at 44 scale (codes "32") none) refl)
  places_at Bits64 ending e = rw e (before_at 44 scale (codes "64") none, rw (has_at 44 scale (codes "64"), after_at 44 scale (codes "64") none) refl)
  places_at Bits128 ending (inl e) = rw (e, append-nil scale) (before_none 44 scale none, rw (has_none 44 scale none) refl)
  places_at Bits128 ending (inr e) = rw e (before_at 44 scale (codes "128") none, rw (has_at 44 scale (codes "128"), after_at 44 scale (codes "128") none) refl)

-- ---- A word spells at most one decimal

module _ (word : List ℕ) (d : DecimalDType) (w : DecimalWidth) (s : SpellsDecimal word d w) where
  rest : List ℕ
  rest = after 44 word

  precision_none : HasNone 44 s.precision
  precision_none = digits_have_none s.precision s.digits.0.1

  pub scale_none : HasNone 44 s.scale
  scale_none = whole_has_none s.scale s.places.0

  pub front_is : before 44 word ≡ s.precision
  front_is = rw s.whole (before_at 44 s.precision (s.scale ++ s.ending) precision_none)

  pub rest_is : after 44 word ≡ s.scale ++ s.ending
  rest_is = rw s.whole (after_at 44 s.precision (s.scale ++ s.ending) precision_none)

  pub scale_is : before 44 (after 44 word) ≡ s.scale
  scale_is = rw rest_is (places_at s.scale scale_none w s.ending s.width).0

  pub width_is : width_at (has 44 (after 44 word)) (after 44 (after 44 word)) ≡ w
  width_is = rw rest_is (places_at s.scale scale_none w s.ending s.width).1

  pub digits_are : digits_value 10 (before 44 word) ≡ d.precision
  digits_are = rw front_is s.digits.1

  pub places_are : whole_number (before 44 (after 44 word)) ≡ d.scale
  places_are = rw scale_is s.places.1

type_same : (d e : DecimalDType) → d.precision ≡ e.precision → d.scale ≡ e.scale → d ≡ e
type_same d e p s = λ i. record { precision = p i; scale = s i }

pub one_decimal : (word : List ℕ) (d e : DecimalDType) (w v : DecimalWidth) → SpellsDecimal word d w → SpellsDecimal word e v → Decimal d w ≡ Decimal e v
one_decimal word d e w v s t =
    ap₂ (λ x y. Decimal x y)
    (type_same d e (sym (digits_are word d w s) ∙ digits_are word e v t) (sym (places_are word d w s) ∙ places_are word e v t))
    (sym (width_is word d w s) ∙ width_is word e v t)

-- ---- What is written

pub written_number : (n : ℕ) → n < 2 ^ 64 → IsNumberOf (decimal n) n
written_number n small = decimal_is_IsNumeral n small

no_minus : (word : List ℕ) → IsNumeral 10 word → (get_or word 0 0 == 45) ≡ false
no_minus word numeral = ne_eqb _ _ (λ dash. let digit = digit_at word 0 numeral.1 numeral.0 in absurd (omega (arith, digit)))

pub written_whole_number : (n : ℤ) → FitsSigned w8 n → IsWholeNumberOf (signed_decimal n) n
written_whole_number (pos n) fits =
    let small : n < 2 ^ 64 = omega (arith, ints) in
    let is = decimal_is_IsNumeral n small in
    rw (no_minus (decimal n) is.0) (is.0, ap pos is.1)
written_whole_number (negsuc n) fits =
    let small : suc n < 2 ^ 64 = omega (arith, ints) in
    let is = decimal_is_IsNumeral (suc n) small in
    (is.0, ap (λ m. neg_ℤ (pos m)) is.1)

written_ends : (w : DecimalWidth) → IsEnding (written_ending w) w
written_ends Bits32 = refl
written_ends Bits64 = refl
written_ends Bits128 = inl refl

pub most_small : (w : DecimalWidth) → most_digits w ≤ 38
most_small Bits32 = omega arith
most_small Bits64 = omega arith
most_small Bits128 = omega arith

pub written_decimal : (d : DecimalDType) (w : DecimalWidth) → 1 ≤ d.precision → d.precision ≤ most_digits w → FitsSigned w8 d.scale → SpellsDecimal (decimal d.precision ++ (codes "," ++ (signed_decimal d.scale ++ written_ending w))) d w
written_decimal d w some room fits = record {
  precision = decimal d.precision;
  scale = signed_decimal d.scale;
  ending = written_ending w;
  whole = refl;
  digits = written_number d.precision (omega (arith, most_small w));
  places = written_whole_number d.scale fits;
  width = written_ends w;
  some = some;
  room = room;
  fits = fits;
}
