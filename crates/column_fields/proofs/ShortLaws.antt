-- Eight bytes of a word at once, each of them a run length.
use Rattle.std.proofs.Common.{◌≡◌, ℕ, suc, ◌+◌, ◌-◌, ◌*◌, ◌%◌, ◌^◌, ◌<◌, ◌≤◌, pos, false, List, [], ◌∷◌, ◌++◌, length, get_or, map, take, drop, bit_and, refl, sym, ap, ◌∙◌, arith}
use Rattle.std.specs.List.{All}
use Rattle.std.specs.Int.{w64, from_le_bytes}
use Rattle.std.proofs.lemmas.Grind.{and_high_numeral}
use Rattle.std.proofs.lemmas.Int.{ints}
use Rattle.std.specs.List.{flat_map}
use Rattle.std.proofs.lemmas.List.{length-take-le}
use Rattle.std.proofs.lemmas.List.Elements.{All-cons, All-head, All-tail, All-get_or, All-from_recursion, All-nil, All-same}
use Rattle.std.proofs.lemmas.Nat.{and_block, and_le_r}
use Rattle.column_base.specs.declared.dtype.PType.{PType}
use Rattle.column_base.specs.declared.dtype.PType.TheVariants.{U8, U16, U32, U64, I8, I16, I32, I64}
use Rattle.column_base.specs.Types.{HasNumber}
use Rattle.column_fields.specs.Lengths.{lengths_bytes, lengths_from, Rises}
use Rattle.column_fields.specs.Varint.{varint}
use Rattle.column_fields.proofs.EightLaws.{cut_items, eight_of}
use Rattle.column_fields.proofs.EndReading.{rises_cons, rises_none}
use Rattle.column_fields.proofs.LengthBytes.{varint_one}

-- ---- bytes of a word, the lowest first

abbrev pub number_of : List ℕ → ℕ
number_of [] = 0
number_of (b ∷ bs) = number_of bs * 256 + b

-- the highest bit of each byte
abbrev high_bits : List ℕ → ℕ
high_bits [] = 0
high_bits (b ∷ bs) = high_bits bs * 256 + 128

-- all other bits
abbrev low_bits : List ℕ → ℕ
low_bits [] = 0
low_bits (b ∷ bs) = low_bits bs * 256 + 127

abbrev pub AreBytes : List ℕ → Type 0
AreBytes [] = Unit {0}
AreBytes (b ∷ bs) = (b < 256) × AreBytes bs

abbrev AreLow : List ℕ → Type 0
AreLow [] = Unit {0}
AreLow (b ∷ bs) = (b < 128) × AreLow bs

high_bit : (b : ℕ) → b < 256 → bit_and b 128 + b % 128 ≡ b
high_bit b lt = and_high_numeral b 127 refl lt

block : (n b m : ℕ) → b < 256 → bit_and (n * 256 + b) (m * 256 + 128) ≡ bit_and n m * 256 + bit_and b 128
block n b m lt = and_block 8 n m b 128 lt (omega arith)

-- without a high bit each byte is below 128
all_low : (bs : List ℕ) → AreBytes bs → bit_and (number_of bs) (high_bits bs) ≡ 0 → AreLow bs
all_low [] bytes e = tt
all_low (b ∷ bs) bytes e =
    let s = block (number_of bs) b (high_bits bs) bytes.0 in
    let first : b < 128 = omega (arith, s, e, high_bit b bytes.0) in
    let others : bit_and (number_of bs) (high_bits bs) ≡ 0 = omega (arith, s, e) in
    (first, all_low bs bytes.1 others)

-- with 127 on top each has its high bit, and so none is 0
all_some : (bs : List ℕ) → AreLow bs → bit_and (number_of bs + low_bits bs) (high_bits bs) ≡ high_bits bs → All (λ n. (0 < n) × (n < 128)) bs
all_some [] low e = All-nil (λ n. (0 < n) × (n < 128))
all_some (b ∷ bs) low e =
    let more = number_of bs + low_bits bs in
    let same : more * 256 + (b + 127) ≡ number_of (b ∷ bs) + low_bits (b ∷ bs) = omega arith in
    let s : bit_and (more * 256 + (b + 127)) (high_bits bs * 256 + 128) ≡ bit_and more (high_bits bs) * 256 + bit_and (b + 127) 128 = block more (b + 127) (high_bits bs) (omega (arith, low.0)) in
    let whole : bit_and more (high_bits bs) * 256 + bit_and (b + 127) 128 ≡ high_bits bs * 256 + 128 = sym s ∙ ap (λ (n : ℕ). bit_and n (high_bits bs * 256 + 128)) same ∙ e in
    let others : bit_and more (high_bits bs) ≡ high_bits bs = omega (arith, whole, and_le_r more (high_bits bs), and_le_r (b + 127) 128) in
    let first : 0 < b = omega (arith, whole, others, high_bit (b + 127) (omega (arith, low.0))) in
    All-cons (λ n. (0 < n) × (n < 128)) b bs (first, low.0) (all_some bs low.1 others)

low_number : (bs : List ℕ) → AreLow bs → number_of bs ≤ low_bits bs
low_number [] low = omega arith
low_number (b ∷ bs) low = omega (arith, low.0, low_number bs low.1)

abbrev pub eight : List ℕ → List ℕ
eight bs = get_or bs 0 0 ∷ get_or bs 1 0 ∷ get_or bs 2 0 ∷ get_or bs 3 0 ∷ get_or bs 4 0 ∷ get_or bs 5 0 ∷ get_or bs 6 0 ∷ get_or bs 7 0 ∷ []

pub word_number : (word : ℕ) (bs : List ℕ) → length bs ≡ 8 → word ≡ from_le_bytes w64 bs → word ≡ number_of (eight bs)
word_number word bs len is =
    let whole : word ≡ from_le_bytes w64 (eight bs) = is ∙ ap (from_le_bytes w64) (eight_of 0 bs len) in
    omega (arith, whole)

low_word : (word : ℕ) (bs : List ℕ) → length bs ≡ 8 → ((i : ℕ) → get_or bs i 0 < 256) → word ≡ from_le_bytes w64 bs → bit_and word 9259542123273814144 ≡ 0 → AreLow (eight bs)
low_word word bs len small is e =
    all_low (eight bs) (small 0, (small 1, (small 2, (small 3, (small 4, (small 5, (small 6, (small 7, tt)))))))) (ap (λ (n : ℕ). bit_and n 9259542123273814144) (sym (word_number word bs len is)) ∙ e)

-- a word without high bits leaves room for 127 in each byte
pub word_room : (word : ℕ) (bs : List ℕ) → length bs ≡ 8 → ((i : ℕ) → get_or bs i 0 < 256) → word ≡ from_le_bytes w64 bs → bit_and word 9259542123273814144 ≡ 0 → word ≤ 9187201950435737471
word_room word bs len small is e = omega (arith, word_number word bs len is, low_number (eight bs) (low_word word bs len small is e))

pub short_word : (word : ℕ) (bs : List ℕ) → length bs ≡ 8 → ((i : ℕ) → get_or bs i 0 < 256) → word ≡ from_le_bytes w64 bs → bit_and word 9259542123273814144 ≡ 0
    → bit_and (word + 9187201950435737471) 9259542123273814144 ≡ 9259542123273814144 → All (λ n. (0 < n) × (n < 128)) bs
short_word word bs len small is e high =
    All-same (λ n. (0 < n) × (n < 128)) _ _ (eight_of 0 bs len)
    (all_some (eight bs) (low_word word bs len small is e) (ap (λ (n : ℕ). bit_and (n + 9187201950435737471) 9259542123273814144) (sym (word_number word bs len is)) ∙ high))

-- ---- the ends of eight runs

-- running sums have these as their differences
pub sums_shown : (bs : List ℕ) (b0 b1 b2 b3 b4 b5 b6 b7 : ℕ) → length bs ≡ 8 → b0 ≡ get_or bs 0 0 → b1 ≡ get_or bs 1 0 → b2 ≡ get_or bs 2 0 → b3 ≡ get_or bs 3 0 → b4 ≡ get_or bs 4 0 → b5 ≡ get_or bs 5 0 → b6 ≡ get_or bs 6 0 → b7 ≡ get_or bs 7 0
    → lengths_from 0 (b0 ∷ (b0 + b1) ∷ (b0 + b1 + b2) ∷ (b0 + b1 + b2 + b3) ∷ (b0 + b1 + b2 + b3 + b4) ∷ (b0 + b1 + b2 + b3 + b4 + b5) ∷ (b0 + b1 + b2 + b3 + b4 + b5 + b6) ∷ (b0 + b1 + b2 + b3 + b4 + b5 + b6 + b7) ∷ []) ≡ bs
unfolding lengths_from
sums_shown bs b0 b1 b2 b3 b4 b5 b6 b7 len e0 e1 e2 e3 e4 e5 e6 e7 =
    let d0 : b0 - 0 ≡ get_or bs 0 0 = omega (arith, e0) in
    let d1 : b0 + b1 - b0 ≡ get_or bs 1 0 = omega (arith, e1) in
    let d2 : b0 + b1 + b2 - (b0 + b1) ≡ get_or bs 2 0 = omega (arith, e2) in
    let d3 : b0 + b1 + b2 + b3 - (b0 + b1 + b2) ≡ get_or bs 3 0 = omega (arith, e3) in
    let d4 : b0 + b1 + b2 + b3 + b4 - (b0 + b1 + b2 + b3) ≡ get_or bs 4 0 = omega (arith, e4) in
    let d5 : b0 + b1 + b2 + b3 + b4 + b5 - (b0 + b1 + b2 + b3 + b4) ≡ get_or bs 5 0 = omega (arith, e5) in
    let d6 : b0 + b1 + b2 + b3 + b4 + b5 + b6 - (b0 + b1 + b2 + b3 + b4 + b5) ≡ get_or bs 6 0 = omega (arith, e6) in
    let d7 : b0 + b1 + b2 + b3 + b4 + b5 + b6 + b7 - (b0 + b1 + b2 + b3 + b4 + b5 + b6) ≡ get_or bs 7 0 = omega (arith, e7) in
    (λ i. d0 i ∷ d1 i ∷ d2 i ∷ d3 i ∷ d4 i ∷ d5 i ∷ d6 i ∷ d7 i ∷ []) ∙ sym (eight_of 0 bs len)

length-lengths_from : (start : ℕ) (ends : List ℕ) → length (lengths_from start ends) ≡ length ends
unfolding lengths_from
length-lengths_from start [] = refl
length-lengths_from start (end ∷ ends) = ap suc (length-lengths_from end ends)

-- eight lengths of one byte, and the sums of these, of which the last is the greatest
pub record EightSums (front ss : List ℕ) : Type 0 where
  pub len : length front ≡ 8
  pub sums-len : length ss ≡ 8
  pub l0 : get_or ss 0 0 ≤ get_or ss 7 0
  pub l1 : get_or ss 1 0 ≤ get_or ss 7 0
  pub l2 : get_or ss 2 0 ≤ get_or ss 7 0
  pub l3 : get_or ss 3 0 ≤ get_or ss 7 0
  pub l4 : get_or ss 4 0 ≤ get_or ss 7 0
  pub l5 : get_or ss 5 0 ≤ get_or ss 7 0
  pub l6 : get_or ss 6 0 ≤ get_or ss 7 0

sums_rise : (ss bs : List ℕ) → length bs ≡ 8 → length ss ≡ 8 → lengths_from 0 ss ≡ bs → All (λ n. (0 < n) × (n < 128)) bs → EightSums bs ss
unfolding lengths_from
sums_rise ss bs len slen is short =
    let same : lengths_from 0 (eight ss) ≡ bs = ap (lengths_from 0) (sym (eight_of 0 ss slen)) ∙ is in
    let p1 : 0 < get_or bs 1 0 = (All-get_or (λ n. (0 < n) × (n < 128)) bs 1 0 (omega (arith, len)) short).0 in
    let d1 : get_or ss 1 0 - get_or ss 0 0 ≡ get_or bs 1 0 = ap (λ (xs : List ℕ). get_or xs 1 0) same in
    let r1 : get_or ss 0 0 ≤ get_or ss 1 0 = omega (arith, p1, d1) in
    let p2 : 0 < get_or bs 2 0 = (All-get_or (λ n. (0 < n) × (n < 128)) bs 2 0 (omega (arith, len)) short).0 in
    let d2 : get_or ss 2 0 - get_or ss 1 0 ≡ get_or bs 2 0 = ap (λ (xs : List ℕ). get_or xs 2 0) same in
    let r2 : get_or ss 1 0 ≤ get_or ss 2 0 = omega (arith, p2, d2) in
    let p3 : 0 < get_or bs 3 0 = (All-get_or (λ n. (0 < n) × (n < 128)) bs 3 0 (omega (arith, len)) short).0 in
    let d3 : get_or ss 3 0 - get_or ss 2 0 ≡ get_or bs 3 0 = ap (λ (xs : List ℕ). get_or xs 3 0) same in
    let r3 : get_or ss 2 0 ≤ get_or ss 3 0 = omega (arith, p3, d3) in
    let p4 : 0 < get_or bs 4 0 = (All-get_or (λ n. (0 < n) × (n < 128)) bs 4 0 (omega (arith, len)) short).0 in
    let d4 : get_or ss 4 0 - get_or ss 3 0 ≡ get_or bs 4 0 = ap (λ (xs : List ℕ). get_or xs 4 0) same in
    let r4 : get_or ss 3 0 ≤ get_or ss 4 0 = omega (arith, p4, d4) in
    let p5 : 0 < get_or bs 5 0 = (All-get_or (λ n. (0 < n) × (n < 128)) bs 5 0 (omega (arith, len)) short).0 in
    let d5 : get_or ss 5 0 - get_or ss 4 0 ≡ get_or bs 5 0 = ap (λ (xs : List ℕ). get_or xs 5 0) same in
    let r5 : get_or ss 4 0 ≤ get_or ss 5 0 = omega (arith, p5, d5) in
    let p6 : 0 < get_or bs 6 0 = (All-get_or (λ n. (0 < n) × (n < 128)) bs 6 0 (omega (arith, len)) short).0 in
    let d6 : get_or ss 6 0 - get_or ss 5 0 ≡ get_or bs 6 0 = ap (λ (xs : List ℕ). get_or xs 6 0) same in
    let r6 : get_or ss 5 0 ≤ get_or ss 6 0 = omega (arith, p6, d6) in
    let p7 : 0 < get_or bs 7 0 = (All-get_or (λ n. (0 < n) × (n < 128)) bs 7 0 (omega (arith, len)) short).0 in
    let d7 : get_or ss 7 0 - get_or ss 6 0 ≡ get_or bs 7 0 = ap (λ (xs : List ℕ). get_or xs 7 0) same in
    let r7 : get_or ss 6 0 ≤ get_or ss 7 0 = omega (arith, p7, d7) in
    record { len = len; sums-len = slen; l0 = omega (arith, r1, r2, r3, r4, r5, r6, r7); l1 = omega (arith, r2, r3, r4, r5, r6, r7); l2 = omega (arith, r3, r4, r5, r6, r7); l3 = omega (arith, r4, r5, r6, r7); l4 = omega (arith, r5, r6, r7); l5 = omega (arith, r6, r7); l6 = omega (arith, r7) }

pub eight_told : (bytes front ss : List ℕ) → 8 ≤ length bytes → front ≡ take 8 bytes → All (λ n. (0 < n) × (n < 128)) front → lengths_from 0 ss ≡ front → EightSums front ss
eight_told bytes front ss enough f short is =
    let len : length front ≡ 8 = ap length f ∙ length-take-le 8 bytes enough in
    sums_rise ss front len (omega (arith, len, length-lengths_from 0 ss, ap length is)) is short

shifted : (start k from : ℕ) (ss : List ℕ) → from ≡ start + k → lengths_from from (map (λ (s : ℕ). start + s) ss) ≡ lengths_from k ss
unfolding lengths_from
shifted start k from [] e = refl
shifted start k from (s ∷ ss) e =
    let first : start + s - from ≡ s - k = omega (arith, e) in
    (λ i. first i ∷ shifted start s (start + s) ss refl i)

-- ends are the sums after the start
pub ends_behind : (start : ℕ) (front ss es : List ℕ) → EightSums front ss → lengths_from 0 ss ≡ front → es ≡ map (λ (s : ℕ). start + s) (eight ss) → lengths_from start es ≡ front
ends_behind start front ss es h is e =
    ap (lengths_from start) (e ∙ ap (map (λ (s : ℕ). start + s)) (sym (eight_of 0 ss h.sums-len))) ∙ shifted start 0 start ss (omega arith) ∙ is

short_spelt : (bs : List ℕ) → All (λ n. (0 < n) × (n < 128)) bs → flat_map varint bs ≡ bs
short_spelt [] short = refl
short_spelt (b ∷ bs) short =
    ap (λ (t : List ℕ). t ++ flat_map varint bs) (varint_one b (All-head (λ n. (0 < n) × (n < 128)) b bs short).1) ∙ ap (λ (t : List ℕ). b ∷ t) (short_spelt bs (All-tail (λ n. (0 < n) × (n < 128)) b bs short))

pub ends_found : (start : ℕ) (bytes front es : List ℕ) → front ≡ take 8 bytes → lengths_from start es ≡ front → All (λ n. (0 < n) × (n < 128)) front → bytes ≡ lengths_bytes start es ++ drop 8 bytes
unfolding lengths_bytes
ends_found start bytes front es f is short =
    cut_items 8 bytes front (drop 8 bytes) f refl ∙ ap (λ (t : List ℕ). t ++ drop 8 bytes) (sym (ap (flat_map varint) is ∙ short_spelt front short))

pub ends_rise : (start : ℕ) (bs es : List ℕ) → lengths_from start es ≡ bs → All (λ n. (0 < n) × (n < 128)) bs → All (λ e. e < 2 ^ 64) es → Rises false start es
unfolding lengths_from
ends_rise start bs [] is short small = rises_none false start
ends_rise start [] (e ∷ es) is short small = absurd (omega (arith, ap length is))
ends_rise start (b ∷ bs) (e ∷ es) is short small =
    let first : e - start ≡ b = ap (λ (xs : List ℕ). get_or xs 0 0) is in
    let some : 0 < b = (All-head (λ n. (0 < n) × (n < 128)) b bs short).0 in
    let lt : start < e = omega (arith, first, some) in
    let fits : e < 2 ^ 64 = All-head (λ e. e < 2 ^ 64) e es small in
    rises_cons false start e es (omega (arith, lt)) fits (λ _. lt) (ends_rise e bs es (ap (drop 1) is) (All-tail (λ n. (0 < n) × (n < 128)) b bs short) (All-tail (λ e. e < 2 ^ 64) e es small))

-- what holds of all numbers up to one of which it holds, holds of eight ends
pub ends_all : (P : ℕ → Type 0) (start last : ℕ) (front ss es : List ℕ) → EightSums front ss → es ≡ map (λ (s : ℕ). start + s) (eight ss) → last ≡ start + get_or ss 7 0 → ((a : ℕ) → a ≤ last → P a) → All P es
ends_all P start last front ss es h e is each =
    All-same P _ _ e (All-from_recursion P (map (λ (s : ℕ). start + s) (eight ss)) (each (start + get_or ss 0 0) (omega (arith, is, h.l0)), (each (start + get_or ss 1 0) (omega (arith, is, h.l1)), (each (start + get_or ss 2 0) (omega (arith, is, h.l2)), (each (start + get_or ss 3 0) (omega (arith, is, h.l3)), (each (start + get_or ss 4 0) (omega (arith, is, h.l4)), (each (start + get_or ss 5 0) (omega (arith, is, h.l5)), (each (start + get_or ss 6 0) (omega (arith, is, h.l6)), (each (start + get_or ss 7 0) (omega (arith, is)), tt)))))))))

pub has_less : (t : PType) (a b : ℕ) → a ≤ b → HasNumber t (pos b) → HasNumber t (pos a)
has_less U8 a b le h = (omega (arith, ints), omega (arith, ints, le, h.1))
has_less U16 a b le h = (omega (arith, ints), omega (arith, ints, le, h.1))
has_less U32 a b le h = (omega (arith, ints), omega (arith, ints, le, h.1))
has_less U64 a b le h = (omega (arith, ints), omega (arith, ints, le, h.1))
has_less I8 a b le h = record { sfits = omega (arith, le, h.sfits) }
has_less I16 a b le h = record { sfits = omega (arith, le, h.sfits) }
has_less I32 a b le h = record { sfits = omega (arith, le, h.sfits) }
has_less I64 a b le h = record { sfits = omega (arith, le, h.sfits) }
