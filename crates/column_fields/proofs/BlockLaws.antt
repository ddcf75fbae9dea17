-- Run lengths by blocks: the longest of them, how many are long, and which are one byte each.
use Rattle.std.proofs.Common.{◌≡◌, ℕ, ◌+◌, ◌-◌, ◌*◌, ◌%◌, ◌^◌, ◌<◌, ◌≤◌, w8, Bool, true, false, List, [], ◌∷◌, ◌++◌, cond, length, get_or, map, max, min, take, drop, set, refl, sym, ap, ◌∙◌, arith, append_assoc, inl, inr}
use Rattle.std.specs.Prelude.{◌↔◌, IsTrue, leb, nat_eq, nat_le, replicate}
use Rattle.std.specs.Int.{from_bool}
use Rattle.std.specs.List.{All, count_by, flat_map}
use Rattle.std.proofs.lemmas.Bool.{cases_lt, eqb-true, le-leb, lt-leb}
use Rattle.std.proofs.lemmas.List.{append-nil, drop_all, length-append, length-map, take_all, take_more_set}
use Rattle.std.proofs.lemmas.List.Elements.{All-cons, All-head, All-nil, All-tail}
use Rattle.std.proofs.lemmas.List.Sums.{sum_by-cons}
use Rattle.std.proofs.lemmas.Simd.{mask_l-mod, tops_compared, zip2_splat_left}
use lib.Lanes.{mask_l, top, zip2}
use Rattle.column_fields.specs.Varint.{varint}
use Rattle.column_fields.specs.Lengths.{greatest, lengths_bytes, lengths_from}
use Rattle.column_fields.proofs.LengthBytes.{varint_one, varint_two}
use Rattle.column_fields.proofs.LengthLaws.{ahead}

-- a run, and those after it
pub runs_left : {X : Type 0} (f : X → ℕ) (xs : List X) (i start : ℕ) (x : X) → i < length xs → x ≡ get_or xs i x
    → lengths_from start (map f (drop i xs)) ≡ (f x - start) ∷ lengths_from (f x) (map f (drop (i + 1) xs))
unfolding lengths_from
runs_left f xs i start x lt is = ap (λ ys. lengths_from start (map f ys)) (ahead xs i x lt is)

pub no_runs_left : {X : Type 0} (f : X → ℕ) (xs : List X) (i start : ℕ) → length xs ≤ i → lengths_from start (map f (drop i xs)) ≡ []
unfolding lengths_from
no_runs_left f xs i start le = ap (λ ys. lengths_from start (map f ys)) (drop_all i xs le)

-- the longest of the runs so far and of those after them
pub greatest_left : {X : Type 0} (f : X → ℕ) (xs : List X) (i start : ℕ) (x : X) → i < length xs → x ≡ get_or xs i x
    → greatest (lengths_from start (map f (drop i xs))) ≡ max (f x - start) (greatest (lengths_from (f x) (map f (drop (i + 1) xs))))
unfolding greatest
greatest_left f xs i start x lt is = ap greatest (runs_left f xs i start x lt is)

pub none_greatest : {X : Type 0} (f : X → ℕ) (xs : List X) (i start : ℕ) → length xs ≤ i → greatest (lengths_from start (map f (drop i xs))) ≡ 0
unfolding greatest
none_greatest f xs i start le = ap greatest (no_runs_left f xs i start le)

-- how many of the runs so far and of those after them are long
is_long : (n : ℕ) → from_bool (nat_le 128 n) ≡ cond (nat_le 128 n) 1 0
is_long n = elim (cases_lt n 128) [
  | inl below ↦ rw (lt-leb 128 n below) refl
  | inr above ↦ rw (le-leb 128 n above) refl
]

pub one_at_most : (b : Bool) → from_bool b ≤ 1
one_at_most true = omega arith
one_at_most false = omega arith

pub long_left : {X : Type 0} (f : X → ℕ) (xs : List X) (i start : ℕ) (x : X) → i < length xs → x ≡ get_or xs i x
    → count_by (nat_le 128) (lengths_from start (map f (drop i xs))) ≡ from_bool (nat_le 128 (f x - start)) + count_by (nat_le 128) (lengths_from (f x) (map f (drop (i + 1) xs)))
long_left f xs i start x lt is =
    let rest = lengths_from (f x) (map f (drop (i + 1) xs)) in
    ap (count_by (nat_le 128)) (runs_left f xs i start x lt is) ∙ sum_by-cons (λ n. cond (nat_le 128 n) 1 0) (f x - start) rest
    ∙ ap (λ (k : ℕ). k + count_by (nat_le 128) rest) (sym (is_long (f x - start)))

pub none_long : {X : Type 0} (f : X → ℕ) (xs : List X) (i start : ℕ) → length xs ≤ i → count_by (nat_le 128) (lengths_from start (map f (drop i xs))) ≡ 0
none_long f xs i start le = ap (count_by (nat_le 128)) (no_runs_left f xs i start le)

-- lengths of which none has more than one byte
short_bytes : (ns : List ℕ) → greatest ns < 128 → length (flat_map varint ns) ≡ length ns
unfolding greatest
short_bytes [] lt = refl
short_bytes (n ∷ ns) lt = omega (arith, length-append (varint n) (flat_map varint ns), ap length (varint_one n (omega (arith, lt))), short_bytes ns (omega (arith, lt)))

-- lengths of which none has more than two
two_bytes : (ns : List ℕ) → greatest ns < 16384 → length (flat_map varint ns) ≡ length ns + count_by (nat_le 128) ns
unfolding greatest
two_bytes [] lt = refl
two_bytes (n ∷ ns) lt =
    let rest = two_bytes ns (omega (arith, lt)) in
    let parts = length-append (varint n) (flat_map varint ns) in
    let counted = sum_by-cons (λ n. cond (nat_le 128 n) 1 0) n ns in
    let one : ℕ = 1 in
    let none : ℕ = 0 in
    elim (cases_lt n 128) [
      | inl below ↦ omega (arith, parts, counted, rest, ap length (varint_one n below), ap (λ (b : Bool). cond b one none) (lt-leb 128 n below))
      | inr above ↦ omega (arith, parts, counted, rest, ap length (varint_two n above (omega (arith, lt))), ap (λ (b : Bool). cond b one none) (le-leb 128 n above))
    ]

length-lengths_from : (start : ℕ) (ends : List ℕ) → length (lengths_from start ends) ≡ length ends
unfolding lengths_from
length-lengths_from start [] = refl
length-lengths_from start (end ∷ ends) = omega (arith, length-lengths_from end ends)

pub block_of_short : {X : Type 0} (f : X → ℕ) (start : ℕ) (xs : List X) → greatest (lengths_from start (map f xs)) < 128 → length (lengths_bytes start (map f xs)) ≡ length xs
unfolding lengths_bytes
block_of_short f start xs lt = short_bytes (lengths_from start (map f xs)) lt ∙ length-lengths_from start (map f xs) ∙ length-map xs f

pub block_of_two : {X : Type 0} (f : X → ℕ) (start : ℕ) (xs : List X) → greatest (lengths_from start (map f xs)) < 16384
    → length (lengths_bytes start (map f xs)) ≡ length xs + count_by (nat_le 128) (lengths_from start (map f xs))
unfolding lengths_bytes
block_of_two f start xs lt = omega (arith, two_bytes (lengths_from start (map f xs)) lt, length-lengths_from start (map f xs), length-map xs f)

-- a length of more than 255 rows is cut there
abbrev pub cut : List ℕ → List ℕ
cut ns = map (λ rows. min rows 255) ns

-- bytes that are cut lengths, each below 128, are their varints
cut_spelt : (ns : List ℕ) → All (λ byte. byte < 128) (cut ns) → cut ns ≡ flat_map varint ns
cut_spelt [] short = refl
cut_spelt (n ∷ ns) short =
    let head : min n 255 < 128 = All-head (λ byte. byte < 128) (min n 255) (cut ns) short in
    let whole : min n 255 ≡ n = omega (arith, head) in
    ap (λ (b : ℕ). b ∷ cut ns) whole ∙ ap (λ (t : List ℕ). n ∷ t) (cut_spelt ns (All-tail (λ byte. byte < 128) (min n 255) (cut ns) short))
    ∙ ap (λ (t : List ℕ). t ++ flat_map varint ns) (sym (varint_one n (omega (arith, head))))

pub block_spelt : (start : ℕ) (ends bytes : List ℕ) → bytes ≡ cut (lengths_from start ends) → All (λ byte. byte < 128) bytes → bytes ≡ lengths_bytes start ends
unfolding lengths_bytes
block_spelt start ends bytes is short = is ∙ cut_spelt (lengths_from start ends) (rw is at short)

-- one byte more
pub cut_more : {X : Type 0} (f : X → ℕ) (xs : List X) (i start : ℕ) (x : X) (bytes : List ℕ) (byte : ℕ) (whole : List ℕ) → i < length xs → x ≡ get_or xs i x → i < length bytes → byte ≡ min (f x - start) 255
    → take i bytes ++ cut (lengths_from start (map f (drop i xs))) ≡ whole → take (i + 1) (set bytes i byte) ++ cut (lengths_from (f x) (map f (drop (i + 1) xs))) ≡ whole
cut_more f xs i start x bytes byte whole lt is room value inv =
    let rest = cut (lengths_from (f x) (map f (drop (i + 1) xs))) in
    ap (λ (t : List ℕ). t ++ rest) (take_more_set bytes i byte room) ∙ append_assoc (take i bytes) (byte ∷ []) rest
    ∙ ap (λ (b : ℕ). take i bytes ++ b ∷ rest) value
    ∙ ap (λ (t : List ℕ). take i bytes ++ cut t) (sym (runs_left f xs i start x lt is)) ∙ inv

pub cut_done : {X : Type 0} (f : X → ℕ) (xs : List X) (i start : ℕ) (bytes whole : List ℕ) → length xs ≤ i → length bytes ≤ i
    → take i bytes ++ cut (lengths_from start (map f (drop i xs))) ≡ whole → bytes ≡ whole
cut_done f xs i start bytes whole le all inv =
    sym (take_all i bytes all) ∙ sym (append-nil (take i bytes)) ∙ ap (λ (t : List ℕ). take i bytes ++ cut t) (sym (no_runs_left f xs i start le)) ∙ inv

-- no byte has its highest bit, by one comparison of all
high_bits : (bytes : List ℕ) → ((mask_l (map (leb 128) bytes) ≡ 0) ↔ All (λ byte. byte < 128) bytes)
high_bits [] = ((λ _. All-nil (λ (byte : ℕ). byte < 128)), (λ _. refl))
high_bits (byte ∷ bytes) =
    let rest = high_bits bytes in
    elim (cases_lt byte 128) [
      | inl below ↦ rw (lt-leb 128 byte below) (
        (λ none. All-cons (λ (b : ℕ). b < 128) byte bytes below (rest.0 (omega (arith, none)))),
        (λ all. omega (arith, rest.1 (All-tail (λ (b : ℕ). b < 128) byte bytes all))),
      )
      | inr above ↦ rw (le-leb 128 byte above) (
        (λ none. absurd (omega (arith, none))),
        (λ all. absurd (omega (arith, above, All-head (λ (b : ℕ). b < 128) byte bytes all))),
      )
    ]

pub none_high : (bytes : List ℕ) → length bytes ≡ 64
    → (IsTrue (nat_eq (mask_l (map (top 7) (zip2 (λ a b. cond (leb a b) 255 0) (replicate 64 128) (take 64 bytes))) % 2 ^ 64) 0) ↔ All (λ byte. byte < 128) bytes)
none_high bytes long =
    let whole : take 64 bytes ≡ bytes = take_all 64 bytes (omega (arith, long)) in
    let compared : map (top 7) (zip2 (λ a b. cond (leb a b) 255 0) (replicate 64 128) bytes) ≡ map (leb 128) bytes = tops_compared w8 leb (replicate 64 128) bytes ∙ zip2_splat_left leb 128 64 bytes long in
    let fits : mask_l (map (leb 128) bytes) % 2 ^ 64 ≡ mask_l (map (leb 128) bytes) = mask_l-mod (map (leb 128) bytes) 64 (omega (arith, long, length-map bytes (leb 128))) in
    rw (whole, compared, fits) (
      (λ empty. (high_bits bytes).0 (eqb-true (mask_l (map (leb 128) bytes)) 0 empty)),
      (λ all. ap (λ (mask : ℕ). nat_eq mask 0) ((high_bits bytes).1 all)),
    )
