-- Where a part of the bytes has no room, the whole has none.
use Rattle.std.proofs.Common.{◌≡◌, ℕ, ◌+◌, ◌-◌, ◌*◌, ◌/◌, ◌%◌, ◌^◌, ◌<◌, ◌≤◌, ℤ, Bool, List, [], ◌∷◌, ◌++◌, length, map, drop, get_or, ap, sym, ◌∙◌, inr, arith}
use Rattle.std.specs.Prelude.{Result, Ok, Err, IsErr, IsErrAnd}
use Rattle.std.specs.List.{flat_map}
use Rattle.std.proofs.lemmas.List.{length-append, length-map}
use Rattle.std.proofs.lemmas.Result.{MatchResult-from_err}
use Rattle.column_fields.specs.Varint.{varint}
use Rattle.column_fields.proofs.VarintForms.{varint_compact, varint_is, varint_shortest}
use Rattle.column_fields.proofs.ShortestVarints.{IsCompact, shortest}
use Rattle.column_fields.proofs.Varints.{StandsFor-long}
use Rattle.column_base.specs.Words.{Packs}
use Rattle.column_base.specs.declared.dtype.PType.{PType}
use Rattle.column_base.specs.declared.error.VortexError.{VortexError}
use Rattle.column_base.specs.declared.error.VortexError.TheVariants.{OutOfMemory}
use Rattle.column_fields.specs.BitBytes.{bit_bytes, words_bytes}
use Rattle.column_fields.specs.Lengths.{lengths_bytes}
use Rattle.column_fields.specs.NumberBytes.{number_bytes, numbers_bytes, size_of}
use Rattle.column_fields.specs.Room.{LacksRoom, UsesCountedRoom, UsesRoom}
use Rattle.column_fields.proofs.BitReading.{length-bit_bytes}
use Rattle.column_fields.proofs.BitWords.{length-words_bytes}
use Rattle.column_fields.proofs.LengthLaws.{ahead}
use Rattle.column_fields.proofs.NumberLaws.{numbers_append}
use Rattle.column_fields.proofs.NumberSame.{length-numbers_bytes}
use Rattle.column_fields.proofs.OneByteLaws.{lengths_split}

-- what the exit of a `?` returns
pub refused : {T E : Type 0} (r : Result T E) (old new size : ℕ) → IsErr r → old < size → UsesRoom r old new size
refused r old new size e lt = MatchResult-from_err r _ _ e (λ _. lt)

-- the last of several writers returns what it was returned
pub last_part : {T E : Type 0} (r : Result T E) (old mid new part size : ℕ) → old + part ≤ mid + size → UsesRoom r mid new part → UsesRoom r old new size
last_part (Ok x) old mid new part size le h = omega (arith, le, h)
last_part (Err e) old mid new part size le h = omega (arith, le, h)

pub counted_refused : {T : Type 0} (r : Result T VortexError) (old new size : ℕ) → IsErr r → LacksRoom old size → UsesCountedRoom r old new size
counted_refused r old new size e lt = MatchResult-from_err r _ _ e (λ _ _. lt)

-- refused as one that it called
pub refused_as : {T : Type 0} (r : Result T VortexError) (error : VortexError) (old new size : ℕ) → IsErrAnd r (λ e. e ≡ error) → (error ≡ OutOfMemory → LacksRoom old size) → UsesCountedRoom r old new size
refused_as (Ok x) error old new size h why = absurd h
refused_as (Err e) error old new size h why = λ memory. why (sym h ∙ memory)

-- what a writer that does not count is refused for
pub last_uncounted : {T : Type 0} (r : Result T VortexError) (old mid new part size : ℕ) → old + part ≤ mid + size → UsesRoom r mid new part → UsesCountedRoom r old new size
last_uncounted (Ok x) old mid new part size le h = omega (arith, le, h)
last_uncounted (Err e) old mid new part size le h = λ _. omega (arith, le, h)

-- ---- varints

pub varint_some : (n : ℕ) → n < 2 ^ 64 → 0 < length (varint n)
varint_some n lt = StandsFor-long (varint n) n (varint_shortest n lt).varint.stands

-- one byte, and those of what is above its seven bits
pub varint_more : (n : ℕ) → n < 2 ^ 64 → 128 ≤ n → length (varint n) ≡ 1 + length (varint (n / 128))
varint_more n lt ge =
    let above : IsCompact (varint (n / 128)) (n / 128) = varint_compact (n / 128) (omega arith) in
    let compact : IsCompact ((n % 128 + 128) ∷ varint (n / 128)) n = inr (n % 128, n / 128, omega arith, omega arith, omega arith, omega arith, above) in
    omega (arith, ap length (varint_is ((n % 128 + 128) ∷ varint (n / 128)) n (shortest ((n % 128 + 128) ∷ varint (n / 128)) n lt compact)))

-- ---- eight numbers

pub flat_long : (flat b0 b1 b2 b3 b4 b5 b6 b7 : List ℕ) → flat ≡ flat_map (λ (b : List ℕ). b) (b0 ∷ b1 ∷ b2 ∷ b3 ∷ b4 ∷ b5 ∷ b6 ∷ b7 ∷ [])
    → length flat ≡ length b0 + length b1 + length b2 + length b3 + length b4 + length b5 + length b6 + length b7
flat_long flat b0 b1 b2 b3 b4 b5 b6 b7 e = omega (arith, simp length-append at (ap length e))

pub eight_long : {X : Type 0} (t : PType) (h : X → ℤ) (xs : List X) (flat b0 b1 b2 b3 b4 b5 b6 b7 : List ℕ) → length xs ≡ 8 → flat ≡ flat_map (λ (b : List ℕ). b) (b0 ∷ b1 ∷ b2 ∷ b3 ∷ b4 ∷ b5 ∷ b6 ∷ b7 ∷ [])
    → length b0 ≡ size_of t → length b1 ≡ size_of t → length b2 ≡ size_of t → length b3 ≡ size_of t → length b4 ≡ size_of t → length b5 ≡ size_of t → length b6 ≡ size_of t → length b7 ≡ size_of t
    → length flat ≡ length (numbers_bytes t (map h xs))
eight_long t h xs flat b0 b1 b2 b3 b4 b5 b6 b7 len e l0 l1 l2 l3 l4 l5 l6 l7 =
    let count : length (map h xs) ≡ 8 = omega (arith, length-map xs h, len) in
    let whole : length (numbers_bytes t (map h xs)) ≡ 8 * size_of t = omega (arith, length-numbers_bytes t (map h xs), ap (λ (n : ℕ). n * size_of t) count) in
    omega (arith, whole, flat_long flat b0 b1 b2 b3 b4 b5 b6 b7 e, l0, l1, l2, l3, l4, l5, l6, l7)

pub two_long : (flat b0 b1 : List ℕ) → flat ≡ flat_map (λ (b : List ℕ). b) (b0 ∷ b1 ∷ []) → length flat ≡ length b0 + length b1
two_long flat b0 b1 e = omega (arith, simp length-append at (ap length e))

-- ---- numbers one after another

pub numbers_cut : (t : PType) (all front back : List ℤ) → all ≡ front ++ back → length (numbers_bytes t all) ≡ length (numbers_bytes t front) + length (numbers_bytes t back)
numbers_cut t all front back e = ap length (ap (numbers_bytes t) e ∙ numbers_append t front back) ∙ length-append (numbers_bytes t front) (numbers_bytes t back)

numbers_first : (t : PType) (n : ℤ) (ns : List ℤ) → length (numbers_bytes t (n ∷ ns)) ≡ length (number_bytes t n) + length (numbers_bytes t ns)
unfolding numbers_bytes
numbers_first t n ns = length-append (number_bytes t n) (flat_map (number_bytes t) ns)

-- how many bytes are left
pub numbers_left : {X : Type 0} (t : PType) (f : X → ℤ) (xs : List X) (i : ℕ) (x : X) → i < length xs → x ≡ get_or xs i x
    → length (numbers_bytes t (map f (drop i xs))) ≡ length (number_bytes t (f x)) + length (numbers_bytes t (map f (drop (i + 1) xs)))
numbers_left t f xs i x lt is = ap (λ ys. length (numbers_bytes t (map f ys))) (ahead xs i x lt is) ∙ numbers_first t (f x) (map f (drop (i + 1) xs))

-- as many as the type's size says
pub all_numbers_long : (t : PType) (ns : List ℤ) (count size : ℕ) → size ≡ size_of t → count ≡ length ns → count * size ≡ length (numbers_bytes t ns)
all_numbers_long t ns count size s c = ap (λ (k : ℕ). k * size) c ∙ ap (λ (k : ℕ). length ns * k) s ∙ sym (length-numbers_bytes t ns)

-- ---- bits

-- the words but for the last, and what of the last has bits
pub words_long : (words whole : List ℕ) (last : ℕ) (bits : List Bool) → Packs words bits → words ≡ whole ++ last ∷ [] → length (bit_bytes bits) ≡ length (words_bytes whole) + ((length bits + 7) / 8 - length whole * 8)
words_long words whole last bits packs w = omega (arith, packs.least, ap length w, length-append whole (last ∷ []), length-words_bytes whole, length-bit_bytes bits)

-- ---- run lengths

-- the first of several runs have no more bytes than all
pub first_lengths : (start : ℕ) (all front back : List ℕ) → all ≡ front ++ back → length (lengths_bytes start front) ≤ length (lengths_bytes start all)
first_lengths start all front back e =
    let parts = ap (lengths_bytes start) e ∙ lengths_split start front back 0 in
    omega (arith, simp length-append at (ap length parts))
