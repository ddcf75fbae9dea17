-- The shortest varint as a function is the shortest one, and no other is.
use Rattle.std.proofs.Common.{◌≡◌, ℕ, zero, suc, ◌+◌, ◌/◌, ◌%◌, ◌^◌, ◌<◌, ◌≤◌, List, ◌++◌, length, refl, sym, ap, ◌∙◌, arith, inl, inr}
use Rattle.std.proofs.lemmas.Bool.{cases_lt, le-ltb, lt-ltb}
use Rattle.std.proofs.lemmas.List.{length-append}
use Rattle.column_fields.specs.Spelling.{Begins, BeginsWithNone, Appends, HasLength, FitsBehind}
use Rattle.column_fields.specs.Varint.{IsVarint, IsShortestVarint, varint_within, varint, BeginsWithNoShortest}
use Rattle.column_fields.proofs.Varints.{IsVarint-same, StandsFor-long, rest_same}
use Rattle.column_fields.proofs.ShortestVarints.{IsCompact, shortest, shortest_form}

compact_within : (k n : ℕ) → n < 128 ^ (suc k) → IsCompact (varint_within (suc k) n) n
unfolding varint_within
compact_within zero n lt = rw (lt-ltb n 128 (omega arith)) (inl (omega arith, refl, refl))
compact_within (suc k) n lt =
    elim (cases_lt n 128) [
      | inl below ↦ rw (lt-ltb n 128 below) (inl (below, refl, refl))
      | inr ge ↦ rw (le-ltb n 128 ge) (inr (n % 128, n / 128, omega arith, omega arith, omega arith, omega arith, compact_within k (n / 128) (omega arith)))
    ]

pub varint_compact : (n : ℕ) → n < 2 ^ 64 → IsCompact (varint n) n
unfolding varint
varint_compact n lt = compact_within 9 n (omega arith)

-- the varint is a varint of the Protocol Buffers encoding, and the shortest one
pub varint_shortest : (n : ℕ) → n < 2 ^ 64 → IsShortestVarint (varint n) n
varint_shortest n lt = shortest (varint n) n lt (varint_compact n lt)

pub varint_is : (bytes : List ℕ) (n : ℕ) → IsShortestVarint bytes n → bytes ≡ varint n
varint_is bytes n h = shortest_form bytes (varint n) n h (varint_shortest n h.varint.fits)

pub varint_same : (m n : ℕ) (a b : List ℕ) → m < 2 ^ 64 → n < 2 ^ 64 → varint m ++ a ≡ varint n ++ b → (m ≡ n) × (a ≡ b)
varint_same m n a b p q e =
    let same = IsVarint-same (varint m) (varint n) a b m n (varint_shortest m p).varint (varint_shortest n q).varint e in
    (same.1, rest_same (varint m) (varint n) a b same.0 e)

-- ---- the reader

pub is_read : (bytes rest : List ℕ) (n count : ℕ) → Begins IsVarint bytes n rest → HasLength IsShortestVarint n count → length rest + count ≡ length bytes → bytes ≡ varint n ++ rest
is_read bytes rest n count b h e =
    let fits = b.spelt.fits in
    let whole : length b.front ≡ length (varint n) = omega (arith, ap length b.parts, length-append b.front rest, h.long (varint n) (varint_shortest n fits)) in
    let front : IsShortestVarint b.front n = record { varint = b.spelt; shortest = λ other k. omega (arith, whole, (varint_shortest n fits).shortest other k) } in
    b.parts ∙ ap (λ (t : List ℕ). t ++ rest) (varint_is b.front n front)

begins : (bytes : List ℕ) (n : ℕ) (rest : List ℕ) → n < 2 ^ 64 → bytes ≡ varint n ++ rest → Begins IsVarint bytes n rest
begins bytes n rest lt e = record { front = varint n; spelt = (varint_shortest n lt).varint; parts = e }

pub nothing_read : (bytes : List ℕ) → BeginsWithNone IsVarint bytes → BeginsWithNoShortest bytes
nothing_read bytes h = record { none = λ n rest lt e. h.none n rest (begins bytes n rest lt e) }

pub not_shortest : (bytes rest : List ℕ) (n count : ℕ) → Begins IsVarint bytes n rest → HasLength IsShortestVarint n count → (length rest + count ≡ length bytes → ⊥) → BeginsWithNoShortest bytes
not_shortest bytes rest n count b h ne = record {
  none = λ m after lt e.
      let same = IsVarint-same b.front (varint m) rest after n m b.spelt (varint_shortest m lt).varint (sym b.parts ∙ e) in
      let tails : rest ≡ after = rest_same b.front (varint m) rest after same.0 (sym b.parts ∙ e) in
      ne (omega (arith, ap length e, length-append (varint m) after, ap length tails, h.long (varint n) (varint_shortest n b.spelt.fits), ap (λ (k : ℕ). length (varint k)) same.1));
}

-- ---- the writer

pub room : (used capacity n : ℕ) → used + 10 ≤ capacity → FitsBehind IsShortestVarint used capacity n
room used capacity n le = record { fits = λ bytes h. omega (arith, h.varint.short) }

pub is_written : (old new : List ℕ) (n : ℕ) → Appends IsShortestVarint old n new → new ≡ old ++ varint n
is_written old new n h = h.parts ∙ ap (λ (t : List ℕ). old ++ t) (varint_is h.added n h.spelt)

-- a varint has a byte
pub varint_some : (n : ℕ) → n < 2 ^ 64 → 0 < length (varint n)
varint_some n lt = StandsFor-long (varint n) n (varint_shortest n lt).varint.stands
