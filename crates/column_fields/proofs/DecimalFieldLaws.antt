-- The fields of decimals are read as they are written, and in no other way.
use Rattle.std.proofs.Common.{◌≡◌, ℕ, ℤ, pos, negsuc, ◌+◌, ◌*◌, ◌^◌, ◌<◌, List, [], ◌++◌, length, refl, sym, ap, ◌∙◌, arith, append_assoc}
use Rattle.std.specs.Int.{w8}
use Rattle.std.specs.Int.RustNames.{FitsSigned}
use Rattle.std.proofs.lemmas.Int.{ints}
use Rattle.std.proofs.lemmas.List.{append-nil, nil_from_length}
use Rattle.column_base.specs.declared.dtype.DecimalDType.{DecimalDType}
use Rattle.column_base.specs.ValidityForm.{ValidityForm, HasLength}
use Rattle.column_fields.specs.Varint.{varint}
use Rattle.column_fields.specs.Field.{number_field, bytes_field, HasNoNumberField, HasNoBytesField}
use Rattle.column_fields.specs.Validity.{validity_field, HasNoValidity}
use Rattle.column_fields.specs.DecimalFields.{scale_number, HasNoScale, IsDecimalType, decimal_type, BeginsWithNoDecimalType, decimal_items, AreNoDecimalItems, decimal_fields, AreNoDecimalFields}
use Rattle.column_fields.proofs.FieldLaws.{number_field_same, bytes_field_same}
use Rattle.column_fields.proofs.ValidityLaws.{validity_same}

-- ---- scales

pub scale_small : (z : ℤ) → FitsSigned w8 z → scale_number z < 2 ^ 8
scale_small (pos n) h = omega (arith, ints)
scale_small (negsuc n) h = omega (arith, ints)

scale_same : (a b : ℤ) → scale_number a ≡ scale_number b → a ≡ b
scale_same (pos m) (pos n) e = let s : m ≡ n = omega arith in ap pos s
scale_same (pos m) (negsuc n) e = absurd (omega arith)
scale_same (negsuc m) (pos n) e = absurd (omega arith)
scale_same (negsuc m) (negsuc n) e = let s : m ≡ n = omega arith in ap negsuc s

type_same : (d e : DecimalDType) → d.precision ≡ e.precision → d.scale ≡ e.scale → d ≡ e
type_same d e p s = λ i. record { precision = p i; scale = s i }

-- ---- precision and scale

pub type_parts : (d : DecimalDType) (rest : List ℕ) → decimal_type d ++ rest ≡ number_field 14 d.precision ++ (number_field 15 (scale_number d.scale) ++ rest)
unfolding decimal_type
type_parts d rest = append_assoc (number_field 14 d.precision) (number_field 15 (scale_number d.scale)) rest

-- what is read has to do with each type at the front
module _ (d : DecimalDType) (rest bytes : List ℕ) (typed : IsDecimalType d) (e : bytes ≡ decimal_type d ++ rest) where
  after_precision : (p : ℕ) (first : List ℕ) → p < 2 ^ 64 → bytes ≡ number_field 14 p ++ first → (p ≡ d.precision) × (first ≡ number_field 15 (scale_number d.scale) ++ rest)
  after_precision p first lt b = number_field_same 14 p d.precision first _ (omega arith) lt (omega (arith, typed.precision)) (sym b ∙ e ∙ type_parts d rest)

  after_scale : (p s : ℕ) (first second : List ℕ) → p < 2 ^ 64 → s < 2 ^ 64 → bytes ≡ number_field 14 p ++ first → first ≡ number_field 15 s ++ second → (s ≡ scale_number d.scale) × (second ≡ rest)
  after_scale p s first second lt lt' b f = number_field_same 15 s (scale_number d.scale) second rest (omega arith) lt' (omega (arith, scale_small d.scale typed.scale)) (sym f ∙ (after_precision p first lt b).1)

pub no_precision : (bytes : List ℕ) → HasNoNumberField 14 bytes → BeginsWithNoDecimalType bytes
no_precision bytes h = record { none = λ d rest typed e. h.none d.precision _ (omega (arith, typed.precision)) (e ∙ type_parts d rest) }

pub too_precise : (bytes first : List ℕ) (p : ℕ) → p < 2 ^ 64 → bytes ≡ number_field 14 p ++ first → 255 < p → BeginsWithNoDecimalType bytes
too_precise bytes first p lt b more = record { none = λ d rest typed e. omega (arith, typed.precision, (after_precision d rest bytes typed e p first lt b).0) }

pub no_scale : (bytes first : List ℕ) (p : ℕ) → p < 2 ^ 64 → bytes ≡ number_field 14 p ++ first → HasNoNumberField 15 first → BeginsWithNoDecimalType bytes
no_scale bytes first p lt b h = record { none = λ d rest typed e. h.none (scale_number d.scale) _ (omega (arith, scale_small d.scale typed.scale)) (after_precision d rest bytes typed e p first lt b).1 }

pub other_scale : (bytes first second : List ℕ) (p s : ℕ) → p < 2 ^ 64 → s < 2 ^ 64 → bytes ≡ number_field 14 p ++ first → first ≡ number_field 15 s ++ second → HasNoScale s → BeginsWithNoDecimalType bytes
other_scale bytes first second p s lt lt' b f h = record { none = λ d rest typed e. h.none d.scale typed.scale (sym (after_scale d rest bytes typed e p s first second lt lt' b f).0) }

pub is_type : (d : DecimalDType) (bytes first rest : List ℕ) (p s : ℕ) → bytes ≡ number_field 14 p ++ first → d.precision ≡ p → first ≡ number_field 15 s ++ rest → scale_number d.scale ≡ s → bytes ≡ decimal_type d ++ rest
is_type d bytes first rest p s b p-is f s-is =
    let scale-is : first ≡ number_field 15 (scale_number d.scale) ++ rest = f ∙ ap (λ (n : ℕ). number_field 15 n ++ rest) (sym s-is) in
    b ∙ ap (λ (n : ℕ). number_field 14 n ++ first) (sym p-is) ∙ ap (λ (x : List ℕ). number_field 14 d.precision ++ x) scale-is ∙ sym (type_parts d rest)

pub puts_type : (d : DecimalDType) (p s : ℕ) (old a new : List ℕ) → p ≡ d.precision → s ≡ scale_number d.scale → a ≡ old ++ number_field 14 p → new ≡ a ++ number_field 15 s → new ≡ old ++ decimal_type d
unfolding decimal_type
puts_type d p s old a new p-is s-is x y = rw (y, x, p-is, s-is) (simp append_assoc)

-- two types at one front are one
pub decimal_type_same : (d e : DecimalDType) (a b : List ℕ) → IsDecimalType d → IsDecimalType e → decimal_type d ++ a ≡ decimal_type e ++ b → (d ≡ e) × (a ≡ b)
decimal_type_same d e a b p q h =
    let first : List ℕ = number_field 15 (scale_number d.scale) ++ a in
    let d-small : d.precision < 2 ^ 64 = omega (arith, p.precision) in
    let s-small : scale_number d.scale < 2 ^ 64 = omega (arith, scale_small d.scale p.scale) in
    let one = after_precision e b (decimal_type d ++ a) q h d.precision first d-small (type_parts d a) in
    let two = after_scale e b (decimal_type d ++ a) q h d.precision (scale_number d.scale) first a d-small s-small (type_parts d a) refl in
    (type_same d e one.0 (scale_same d.scale e.scale two.0), two.1)

-- ---- items before them

item_parts : (d : DecimalDType) (items : List ℕ) → decimal_items d items ≡ bytes_field 7 items ++ decimal_type d
unfolding decimal_items
item_parts d items = refl

-- what is read has to do with all fields that the bytes are
after_items : (d : DecimalDType) (items bytes a first : List ℕ) → length items < 2 ^ 64 → length a < 2 ^ 64 → bytes ≡ decimal_items d items → bytes ≡ bytes_field 7 a ++ first → (a ≡ items) × (first ≡ decimal_type d)
after_items d items bytes a first small lt e b = bytes_field_same 7 a items first (decimal_type d) (omega arith) lt small (sym b ∙ e ∙ item_parts d items)

pub no_items : (bytes : List ℕ) → HasNoBytesField 7 bytes → AreNoDecimalItems bytes
no_items bytes h = record { none = λ d items typed small e. h.none items _ small (e ∙ item_parts d items) }

pub no_type : (bytes first a : List ℕ) → length a < 2 ^ 64 → bytes ≡ bytes_field 7 a ++ first → BeginsWithNoDecimalType first → AreNoDecimalItems bytes
no_type bytes first a la b h = record { none = λ d items typed small e. h.none d [] typed ((after_items d items bytes a first small la e b).1 ∙ sym (append-nil (decimal_type d))) }

pub more_behind : (d : DecimalDType) (bytes first rest a : List ℕ) → IsDecimalType d → length a < 2 ^ 64 → bytes ≡ bytes_field 7 a ++ first → first ≡ decimal_type d ++ rest → (length rest ≡ 0 → ⊥) → AreNoDecimalItems bytes
more_behind d bytes first rest a native la b f ne = record {
  none = λ e items typed small h.
      let is = (after_items e items bytes a first small la h b).1 in
      ne (ap length (decimal_type_same d e rest [] native typed (sym f ∙ is ∙ sym (append-nil (decimal_type e)))).1);
}

pub are_items : (d : DecimalDType) (bytes first rest a : List ℕ) → bytes ≡ bytes_field 7 a ++ first → first ≡ decimal_type d ++ rest → length rest ≡ 0 → bytes ≡ decimal_items d a
are_items d bytes first rest a b f none =
    let is : first ≡ decimal_type d = f ∙ ap (λ (x : List ℕ). decimal_type d ++ x) (nil_from_length rest none) ∙ append-nil (decimal_type d) in
    b ∙ ap (λ (x : List ℕ). bytes_field 7 a ++ x) is ∙ sym (item_parts d a)

items_same : (d e : DecimalDType) (a b : List ℕ) → IsDecimalType d → IsDecimalType e → length a < 2 ^ 64 → length b < 2 ^ 64 → decimal_items d a ≡ decimal_items e b → (d ≡ e) × (a ≡ b)
items_same d e a b p q la lb h =
    let s = after_items e b (decimal_items d a) a (decimal_type d) lb la h (item_parts d a) in
    ((decimal_type_same d e [] [] p q (ap (λ (x : List ℕ). x ++ []) s.1)).0, s.0)

-- ---- with the validity before them

field_parts : (v : ValidityForm) (d : DecimalDType) (items : List ℕ) → decimal_fields v d items ≡ validity_field v ++ decimal_items d items
unfolding decimal_fields
field_parts v d items = refl

pub decimals_same : (v w : ValidityForm) (rows : ℕ) (d e : DecimalDType) (a b : List ℕ) → rows < 2 ^ 64 → HasLength v rows → HasLength w rows → IsDecimalType d → IsDecimalType e → length a < 2 ^ 64 → length b < 2 ^ 64 → decimal_fields v d a ≡ decimal_fields w e b → (v ≡ w) × (d ≡ e) × (a ≡ b)
decimals_same v w rows d e a b small p q dt et la lb h =
    let s = validity_same v w rows (decimal_items d a) (decimal_items e b) small p q (sym (field_parts v d a) ∙ h ∙ field_parts w e b) in
    let t = items_same d e a b dt et la lb s.1 in
    (s.0, t.0, t.1)

pub no_decimal_validity : (rows : ℕ) (bytes : List ℕ) → HasNoValidity rows bytes → AreNoDecimalFields rows bytes
no_decimal_validity rows bytes h = record { none = λ v d items p typed small e. h.none v (decimal_items d items) p (e ∙ field_parts v d items) }

pub no_decimal_items : (v : ValidityForm) (rows : ℕ) (bytes rest : List ℕ) → rows < 2 ^ 64 → HasLength v rows → bytes ≡ validity_field v ++ rest → AreNoDecimalItems rest → AreNoDecimalFields rows bytes
no_decimal_items v rows bytes rest small p b h = record {
  none = λ w d items q typed lt e. h.none d items typed lt (validity_same v w rows rest (decimal_items d items) small p q (sym b ∙ e ∙ field_parts w d items)).1;
}

pub are_decimals : (v : ValidityForm) (d : DecimalDType) (bytes rest items : List ℕ) → bytes ≡ validity_field v ++ rest → rest ≡ decimal_items d items → bytes ≡ decimal_fields v d items
are_decimals v d bytes rest items b r = b ∙ ap (λ (t : List ℕ). validity_field v ++ t) r ∙ sym (field_parts v d items)

pub puts_decimals : (v : ValidityForm) (d : DecimalDType) (items : List ℕ) (count : ℕ) (old a b c new : List ℕ) → count ≡ length items → a ≡ old ++ validity_field v → b ≡ a ++ (varint (7 * 8 + 2) ++ varint count) → c ≡ b ++ items → new ≡ c ++ decimal_type d → new ≡ old ++ decimal_fields v d items
unfolding decimal_fields decimal_items bytes_field
puts_decimals v d items count old a b c new k p q r s = rw (s, r, q, p, k) (simp append_assoc)
