-- A header is read as it is written, and in no other way.
use Rattle.std.proofs.Common.{◌≡◌, ℕ, ◌^◌, ◌<◌, List, ◌++◌, refl, sym, ap, ◌∙◌, arith, append_assoc}
use Rattle.std.proofs.lemmas.List.{append_cancel_left}
use Rattle.column_fields.specs.Field.{number_field, HasNoNumberField, HasNoConstantField}
use Rattle.column_fields.specs.Header.{header_bytes, HasNoHeader}
use Rattle.column_fields.proofs.FieldLaws.{number_field_same}

header_parts : (kind form rows : ℕ) (rest : List ℕ) → header_bytes kind form rows ++ rest ≡ number_field 1 1 ++ (number_field 2 kind ++ (number_field 3 form ++ (number_field 4 rows ++ rest)))
unfolding header_bytes
header_parts kind form rows rest =
    append_assoc (number_field 1 1) (number_field 2 kind ++ (number_field 3 form ++ number_field 4 rows)) rest
    ∙ ap (λ (x : List ℕ). number_field 1 1 ++ x) (append_assoc (number_field 2 kind) (number_field 3 form ++ number_field 4 rows) rest ∙ ap (λ (x : List ℕ). number_field 2 kind ++ x) (append_assoc (number_field 3 form) (number_field 4 rows) rest))

-- what is read has to do with each header at the front
module _ (kind form rows : ℕ) (rest bytes : List ℕ) (k-small : kind < 2 ^ 64) (f-small : form < 2 ^ 64) (r-small : rows < 2 ^ 64) (e : bytes ≡ header_bytes kind form rows ++ rest) where
  after_version : (first : List ℕ) → bytes ≡ number_field 1 1 ++ first → first ≡ number_field 2 kind ++ (number_field 3 form ++ (number_field 4 rows ++ rest))
  after_version first b = append_cancel_left (number_field 1 1) _ _ (sym b ∙ e ∙ header_parts kind form rows rest)

  after_kind : (k : ℕ) (first second : List ℕ) → k < 2 ^ 64 → bytes ≡ number_field 1 1 ++ first → first ≡ number_field 2 k ++ second → (k ≡ kind) × (second ≡ number_field 3 form ++ (number_field 4 rows ++ rest))
  after_kind k first second lt b f = number_field_same 2 k kind second _ (omega arith) lt k-small (sym f ∙ after_version first b)

  after_form : (k m : ℕ) (first second third : List ℕ) → k < 2 ^ 64 → m < 2 ^ 64 → bytes ≡ number_field 1 1 ++ first → first ≡ number_field 2 k ++ second → second ≡ number_field 3 m ++ third → (m ≡ form) × (third ≡ number_field 4 rows ++ rest)
  after_form k m first second third lt lt' b f s = number_field_same 3 m form third _ (omega arith) lt' f-small (sym s ∙ (after_kind k first second lt b f).1)

pub no_version : (bytes : List ℕ) → HasNoConstantField 1 1 bytes → HasNoHeader bytes
no_version bytes h = record { none = λ kind form rows rest p q r e. h.none _ (e ∙ header_parts kind form rows rest) }

pub no_kind : (bytes first : List ℕ) → bytes ≡ number_field 1 1 ++ first → HasNoNumberField 2 first → HasNoHeader bytes
no_kind bytes first b h = record { none = λ kind form rows rest p q r e. h.none kind _ p (after_version kind form rows rest bytes p q r e first b) }

pub no_form : (k : ℕ) (bytes first second : List ℕ) → k < 2 ^ 64 → bytes ≡ number_field 1 1 ++ first → first ≡ number_field 2 k ++ second → HasNoNumberField 3 second → HasNoHeader bytes
no_form k bytes first second lt b f h = record { none = λ kind form rows rest p q r e. h.none form _ q (after_kind kind form rows rest bytes p q r e k first second lt b f).1 }

pub no_rows : (k m : ℕ) (bytes first second third : List ℕ) → k < 2 ^ 64 → m < 2 ^ 64 → bytes ≡ number_field 1 1 ++ first → first ≡ number_field 2 k ++ second → second ≡ number_field 3 m ++ third → HasNoNumberField 4 third → HasNoHeader bytes
no_rows k m bytes first second third lt lt' b f s h = record { none = λ kind form rows rest p q r e. h.none rows rest r (after_form kind form rows rest bytes p q r e k m first second third lt lt' b f s).1 }

pub is_header : (kind form rows : ℕ) (bytes first second third rest : List ℕ) → bytes ≡ number_field 1 1 ++ first → first ≡ number_field 2 kind ++ second → second ≡ number_field 3 form ++ third → third ≡ number_field 4 rows ++ rest → bytes ≡ header_bytes kind form rows ++ rest
is_header kind form rows bytes first second third rest b f s r =
    b ∙ ap (λ (x : List ℕ). number_field 1 1 ++ x) (f ∙ ap (λ (x : List ℕ). number_field 2 kind ++ x) (s ∙ ap (λ (x : List ℕ). number_field 3 form ++ x) r)) ∙ sym (header_parts kind form rows rest)

pub puts_header : (kind form rows : ℕ) (old a b c new : List ℕ) → a ≡ old ++ number_field 1 1 → b ≡ a ++ number_field 2 kind → c ≡ b ++ number_field 3 form → new ≡ c ++ number_field 4 rows → new ≡ old ++ header_bytes kind form rows
unfolding header_bytes
puts_header kind form rows old a b c new p q r s = rw (s, r, q, p) (simp append_assoc)

-- two headers at one front are one
pub header_same : (k f n kind form rows : ℕ) (a b : List ℕ) → k < 2 ^ 64 → f < 2 ^ 64 → n < 2 ^ 64 → kind < 2 ^ 64 → form < 2 ^ 64 → rows < 2 ^ 64 → header_bytes k f n ++ a ≡ header_bytes kind form rows ++ b → (k ≡ kind) × (f ≡ form) × (n ≡ rows) × (a ≡ b)
header_same k f n kind form rows a b p q r p' q' r' e =
    let first : List ℕ = number_field 2 k ++ (number_field 3 f ++ (number_field 4 n ++ a)) in
    let second : List ℕ = number_field 3 f ++ (number_field 4 n ++ a) in
    let one = after_kind kind form rows b (header_bytes k f n ++ a) p' q' r' e k first second p (header_parts k f n a) refl in
    let two = after_form kind form rows b (header_bytes k f n ++ a) p' q' r' e k f first second (number_field 4 n ++ a) p q (header_parts k f n a) refl refl in
    let three = number_field_same 4 n rows a b (omega arith) r r' two.1 in
    (one.0, two.0, three.0, three.1)
