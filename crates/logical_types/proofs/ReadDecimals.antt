-- Words that spell no decimal, by what is read of them.
use Rattle.std.proofs.Common.{◌≡◌, ◌≢◌, ◌∙◌, ◌<◌, ◌≤◌, ◌^◌, ◌++◌, ◌∷◌, ℕ, ℤ, List, true, ap, sym, subst, inl, inr, true≢false, arith}
use Rattle.std.specs.Prelude.{Option, None, Some, IfNone, codes, FitsSigned}
use Rattle.std.specs.Int.{w8}
use Rattle.std.specs.Str.Parse.{digits_value}
use Rattle.std.proofs.lemmas.List.{append-nil}
use Rattle.column_base.specs.declared.dtype.DecimalDType.{DecimalDType}
use Rattle.logical_types.specs.declared.types.DecimalWidth.{DecimalWidth}
use Rattle.logical_types.specs.declared.types.DecimalWidth.TheVariants.{Bits32, Bits64, Bits128}
use Rattle.logical_types.specs.Formats.{IsEnding, SpellsDecimal, most_digits, width_format}
use Rattle.logical_types.specs.Numbers.{IsNumberOf, IsWholeNumberOf}
use Rattle.logical_types.proofs.Cuts.{HasNone, after, after_at, before, before_at, has, has_at, has_none}
use Rattle.logical_types.proofs.Decimals.{front_is, most_small, places_at, rest_is, scale_none, width_at}

-- what holds of every answer holds where there is none
pub if_none : {T : Type 0} (o : Option T) (P : Type 0) → P → IfNone o P
if_none None P h = h
if_none (Some x) P h = tt

-- ---- After the precision

pub ending_is : (w : DecimalWidth) (bits : List ℕ) → bits ≡ width_format w → IsEnding (44 ∷ bits) w
ending_is Bits32 bits e = ap (λ word. 44 ∷ word) e
ending_is Bits64 bits e = ap (λ word. 44 ∷ word) e
ending_is Bits128 bits e = inr (ap (λ word. 44 ∷ word) e)

module _ (word front bits : List ℕ) (whole : word ≡ front ++ (44 ∷ bits)) (first : HasNone 44 front) where
  pub cut_front : before 44 word ≡ front
  cut_front = rw whole (before_at 44 front bits first)

  pub cut_rest : after 44 word ≡ bits
  cut_rest = rw whole (after_at 44 front bits first)

  bits_after : (places other : List ℕ) → HasNone 44 places → word ≡ places ++ (44 ∷ other) → bits ≡ other
  bits_after places other none same = sym cut_rest ∙ ap (after 44) same ∙ after_at 44 places other none

  has_comma : has 44 word ≡ true
  has_comma = rw whole (has_at 44 front bits)

  -- what follows a comma is not a width
  pub no_width : ((w : DecimalWidth) → bits ≢ width_format w) → (places ending : List ℕ) (w : DecimalWidth) → HasNone 44 places → IsEnding ending w → word ≢ places ++ ending
  no_width unknown places ending Bits32 none e same = unknown Bits32 (bits_after places (codes "32") none (same ∙ ap (λ tail. places ++ tail) e))
  no_width unknown places ending Bits64 none e same = unknown Bits64 (bits_after places (codes "64") none (same ∙ ap (λ tail. places ++ tail) e))
  no_width unknown places ending Bits128 none (inl e) same =
      let plain : word ≡ places = same ∙ ap (λ tail. places ++ tail) e ∙ append-nil places in
      true≢false (sym has_comma ∙ ap (has 44) plain ∙ has_none 44 places none)
  no_width unknown places ending Bits128 none (inr e) same = unknown Bits128 (bits_after places (codes "128") none (same ∙ ap (λ tail. places ++ tail) e))

-- ---- The whole word

pub no_comma : (word : List ℕ) → HasNone 44 word → (d : DecimalDType) (w : DecimalWidth) → SpellsDecimal word d w → ⊥
no_comma word none d w s = true≢false (sym (rw s.whole (has_at 44 s.precision (s.scale ++ s.ending))) ∙ has_none 44 word none)

module _ (word digits rest : List ℕ) (whole : word ≡ digits ++ (44 ∷ rest)) (first : HasNone 44 digits) (d : DecimalDType) (w : DecimalWidth) (s : SpellsDecimal word d w) where
  digits_same : digits ≡ s.precision
  digits_same = sym (cut_front word digits rest whole first) ∙ front_is word d w s

  rest_same : rest ≡ s.scale ++ s.ending
  rest_same = sym (cut_rest word digits rest whole first) ∙ rest_is word d w s

  pub no_places : ((places ending : List ℕ) (v : DecimalWidth) → HasNone 44 places → IsEnding ending v → rest ≢ places ++ ending) → ⊥
  no_places none = none s.scale s.ending w (scale_none word d w s) s.width rest_same

  pub no_precision : ((n : ℕ) → n < 2 ^ 8 → IsNumberOf digits n → ⊥) → ⊥
  no_precision none = none d.precision (omega (arith, s.room, most_small w)) (subst (λ text. IsNumberOf text d.precision) (sym digits_same) s.digits)

  pub precision_same : (n : ℕ) → IsNumberOf digits n → n ≡ d.precision
  precision_same n is = sym is.1 ∙ ap (digits_value 10) digits_same ∙ s.digits.1

  module _ (places ending : List ℕ) (v : DecimalWidth) (parts : rest ≡ places ++ ending) (before_ending : HasNone 44 places) (width : IsEnding ending v) where
    places_same : places ≡ s.scale
    places_same =
        sym (places_at places before_ending v ending width).0 ∙ ap (before 44) (sym parts ∙ rest_same) ∙ (places_at s.scale (scale_none word d w s) w s.ending s.width).0

    pub width_same : v ≡ w
    width_same =
        sym (places_at places before_ending v ending width).1 ∙ ap (λ text. width_at (has 44 text) (after 44 text)) (sym parts ∙ rest_same) ∙ (places_at s.scale (scale_none word d w s) w s.ending s.width).1

    pub no_scale : ((n : ℤ) → FitsSigned w8 n → IsWholeNumberOf places n → ⊥) → ⊥
    no_scale none = none d.scale s.fits (subst (λ text. IsWholeNumberOf text d.scale) (sym places_same) s.places)

    pub no_digits : IsNumberOf digits 0 → ⊥
    no_digits is = let none : 0 ≡ d.precision = precision_same 0 is in let some = s.some in absurd (omega arith)

    pub no_room : (n : ℕ) → IsNumberOf digits n → most_digits v < n → ⊥
    no_room n is past =
        let same : n ≡ d.precision = precision_same n is in
        let room : d.precision ≤ most_digits v = subst (λ u. d.precision ≤ most_digits u) (sym width_same) s.room in
        absurd (omega arith)
