-- Numbers are written and read one after another.
use Rattle.std.proofs.Common.{◌≡◌, ℕ, ◌+◌, ◌*◌, ◌<◌, ◌≤◌, ℤ, List, [], ◌∷◌, ◌++◌, take, drop, refl, sym, ap, ◌∙◌, arith, append_assoc}
use Rattle.std.specs.List.{flat_map}
use Rattle.std.proofs.lemmas.List.{append-nil}
use Rattle.std.proofs.lemmas.List.Concat.{flat_map-append}
use Rattle.std.proofs.lemmas.Nat.{row_fits}
use Rattle.std.proofs.Math.Nat.{add-mul}
use Rattle.column_base.specs.declared.dtype.PType.{PType}
use Rattle.column_fields.specs.NumberBytes.{number_bytes, numbers_bytes}
use Rattle.column_fields.proofs.FieldLaws.{cut}

pub numbers_more : (t : PType) (ns : List ℤ) (n : ℤ) → numbers_bytes t (ns ++ n ∷ []) ≡ numbers_bytes t ns ++ number_bytes t n
unfolding numbers_bytes
numbers_more t ns n = flat_map-append (number_bytes t) ns (n ∷ []) ∙ ap (λ (b : List ℕ). flat_map (number_bytes t) ns ++ b) (append-nil (number_bytes t n))

pub numbers_none : (t : PType) → numbers_bytes t [] ≡ []
unfolding numbers_bytes
numbers_none t = refl

pub put_step : (t : PType) (old out new : List ℕ) (front all : List ℤ) (n : ℤ) → out ≡ old ++ numbers_bytes t front → new ≡ out ++ number_bytes t n → all ≡ front ++ n ∷ [] → new ≡ old ++ numbers_bytes t all
put_step t old out new front all n o e a =
    e ∙ ap (λ (b : List ℕ). b ++ number_bytes t n) o ∙ append_assoc old (numbers_bytes t front) (number_bytes t n) ∙ ap (λ (b : List ℕ). old ++ b) (sym (numbers_more t front n) ∙ ap (numbers_bytes t) (sym a))

pub numbers_append : (t : PType) (ns ms : List ℤ) → numbers_bytes t (ns ++ ms) ≡ numbers_bytes t ns ++ numbers_bytes t ms
unfolding numbers_bytes
numbers_append t ns ms = flat_map-append (number_bytes t) ns ms

-- what is in front is written, and what comes after it is still to be written
pub put_front_step : (t : PType) (old out new : List ℕ) (all left front after : List ℤ) → out ++ numbers_bytes t left ≡ old ++ numbers_bytes t all → new ≡ out ++ numbers_bytes t front → left ≡ front ++ after → new ++ numbers_bytes t after ≡ old ++ numbers_bytes t all
put_front_step t old out new all left front after h e parts =
    ap (λ (b : List ℕ). b ++ numbers_bytes t after) e ∙ append_assoc out (numbers_bytes t front) (numbers_bytes t after)
    ∙ ap (λ (b : List ℕ). out ++ b) (sym (numbers_append t front after) ∙ ap (numbers_bytes t) (sym parts)) ∙ h

pub load_step : (t : PType) (bytes rest first back : List ℕ) (front all : List ℤ) (n : ℤ) (size : ℕ) → numbers_bytes t front ++ rest ≡ bytes → first ≡ take size rest → back ≡ drop size rest → number_bytes t n ≡ first → all ≡ front ++ n ∷ [] → numbers_bytes t all ++ back ≡ bytes
load_step t bytes rest first back front all n size b f k e a =
    ap (λ (ns : List ℤ). numbers_bytes t ns ++ back) a ∙ ap (λ (x : List ℕ). x ++ back) (numbers_more t front n) ∙ append_assoc (numbers_bytes t front) (number_bytes t n) back
    ∙ ap (λ (x : List ℕ). numbers_bytes t front ++ (x ++ back)) e ∙ ap (λ (x : List ℕ). numbers_bytes t front ++ x) (sym (cut size rest first back f k)) ∙ b

pub next_fits : (i count size len : ℕ) → i < count → len + i * size ≡ count * size → size ≤ len
next_fits i count size len lt e = omega (arith, row_fits i size count size lt (omega arith))

pub next_left : (i count size len after : ℕ) → len + i * size ≡ count * size → after + size ≡ len → after + (i + 1) * size ≡ count * size
next_left i count size len after e a = omega (arith, add-mul i 1 size)

pub none_left : (i count size len : ℕ) → i ≡ count → len + i * size ≡ count * size → len ≡ 0
none_left i count size len is e = omega (arith, ap (λ (k : ℕ). k * size) is)
