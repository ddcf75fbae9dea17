-- Eight run lengths at once, mostly of one byte each.
use Rattle.std.proofs.Common.{◌≡◌, ℕ, zero, suc, ◌+◌, ◌-◌, ◌<◌, List, [], ◌∷◌, ◌++◌, length, get_or, map, take, drop, bit_or, refl, sym, ap, ◌∙◌, arith, append_assoc}
use Rattle.std.specs.List.{flat_map}
use Rattle.std.proofs.lemmas.Nat.{le_or_l, le_or_r}
use Rattle.std.proofs.lemmas.List.{get_or-map, length-append, length-map, map-append}
use Rattle.column_fields.specs.Varint.{varint}
use Rattle.column_fields.specs.Lengths.{lengths_from, lengths_bytes}
use Rattle.column_fields.proofs.LengthBytes.{varint_one}
use Rattle.column_fields.proofs.EightLaws.{cut_items, eight_of}

-- runs, and those after them
pub lengths_split : (start : ℕ) (front back : List ℕ) (d : ℕ) → lengths_bytes start (front ++ back) ≡ lengths_bytes start front ++ lengths_bytes (get_or (start ∷ front) (length front) d) back
unfolding lengths_bytes lengths_from
lengths_split start [] back d = refl
lengths_split start (end ∷ front) back d =
    ap (λ (t : List ℕ). varint (end - start) ++ t) (lengths_split end front back d) ∙ sym (append_assoc (varint (end - start)) (lengths_bytes end front) (lengths_bytes (get_or (end ∷ front) (length front) d) back))

-- eight numbers, each below a limit
pub record AreBelow (limit a b c d e f g h : ℕ) : Type 0 where
  pub a-lt : a < limit
  pub b-lt : b < limit
  pub c-lt : c < limit
  pub d-lt : d < limit
  pub e-lt : e < limit
  pub f-lt : f < limit
  pub g-lt : g < limit
  pub h-lt : h < limit

four_below : (limit a b c d : ℕ) → bit_or (bit_or (bit_or a b) c) d < limit → (a < limit) × (b < limit) × (c < limit) × (d < limit)
four_below limit a b c d lt =
    let all = le_or_l (bit_or (bit_or a b) c) d in
    let three = le_or_l (bit_or a b) c in
    (omega (arith, all, three, le_or_l a b), omega (arith, all, three, le_or_r a b), omega (arith, all, le_or_r (bit_or a b) c), omega (arith, le_or_r (bit_or (bit_or a b) c) d))

eight_below : (limit a b c d e f g h : ℕ) → bit_or (bit_or (bit_or (bit_or a b) c) d) (bit_or (bit_or (bit_or e f) g) h) < limit → AreBelow limit a b c d e f g h
eight_below limit a b c d e f g h lt =
    let low = bit_or (bit_or (bit_or a b) c) d in
    let high = bit_or (bit_or (bit_or e f) g) h in
    let l = four_below limit a b c d (omega (arith, le_or_l low high)) in
    let r = four_below limit e f g h (omega (arith, le_or_r low high)) in
    record { a-lt = l.0; b-lt = l.1; c-lt = l.2; d-lt = l.3; e-lt = r.0; f-lt = r.1; g-lt = r.2; h-lt = r.3 }

one : (n : ℕ) (ns bytes : List ℕ) → n < 128 → bytes ≡ flat_map varint ns → n ∷ bytes ≡ flat_map varint (n ∷ ns)
one n ns bytes lt e = ap (λ (t : List ℕ). n ∷ t) e ∙ ap (λ (t : List ℕ). t ++ flat_map varint ns) (sym (varint_one n lt))

-- small numbers are their varints
pub small_bytes : (a b c d e f g h : ℕ) → AreBelow 128 a b c d e f g h → a ∷ b ∷ c ∷ d ∷ e ∷ f ∷ g ∷ h ∷ [] ≡ flat_map varint (a ∷ b ∷ c ∷ d ∷ e ∷ f ∷ g ∷ h ∷ [])
small_bytes a b c d e f g h s =
    one a (b ∷ c ∷ d ∷ e ∷ f ∷ g ∷ h ∷ []) _ s.a-lt (one b (c ∷ d ∷ e ∷ f ∷ g ∷ h ∷ []) _ s.b-lt (one c (d ∷ e ∷ f ∷ g ∷ h ∷ []) _ s.c-lt (one d (e ∷ f ∷ g ∷ h ∷ []) _ s.d-lt (one e (f ∷ g ∷ h ∷ []) _ s.e-lt (one f (g ∷ h ∷ []) _ s.f-lt (one g (h ∷ []) _ s.g-lt (one h ([]) _ s.h-lt (refl))))))))

mapped_last : {X : Type 0} (f : X → ℕ) (d : X) (start k : ℕ) (xs : List X) → length xs ≡ suc k → get_or (start ∷ map f xs) (length (map f xs)) (f d) ≡ f (get_or xs k d)
mapped_last f d start k xs len = ap (λ (n : ℕ). get_or (start ∷ map f xs) n (f d)) (length-map xs f ∙ len) ∙ get_or-map f xs k d (f d) (omega (arith, len))

-- some runs, and those after them, which begin where the last of these ends
pub runs_ahead : {X : Type 0} (f : X → ℕ) (d : X) (start end k : ℕ) (all front back : List X) → front ≡ take (suc k) all → back ≡ drop (suc k) all → length front ≡ suc k → end ≡ f (get_or front k d)
    → lengths_bytes start (map f all) ≡ lengths_bytes start (map f front) ++ lengths_bytes end (map f back)
runs_ahead f d start end k all front back p q len is =
    let parts : map f all ≡ map f front ++ map f back = ap (map f) (cut_items (suc k) all front back p q) ∙ map-append f front back in
    let last : get_or (start ∷ map f front) (length (map f front)) (f d) ≡ end = mapped_last f d start k front len ∙ sym is in
    ap (lengths_bytes start) parts ∙ lengths_split start (map f front) (map f back) (f d) ∙ ap (λ (n : ℕ). lengths_bytes start (map f front) ++ lengths_bytes n (map f back)) last

pub put_ahead : (out new front back all whole : List ℕ) → out ++ all ≡ whole → new ≡ out ++ front → all ≡ front ++ back → new ++ back ≡ whole
put_ahead out new front back all whole inv put parts = ap (λ (t : List ℕ). t ++ back) put ∙ append_assoc out front back ∙ ap (λ (t : List ℕ). out ++ t) (sym parts) ∙ inv

pub long_ahead : (all front back : List ℕ) → all ≡ front ++ back → length all ≡ length front + length back
long_ahead all front back parts = ap length parts ∙ length-append front back

pub eight_spelt : (start : ℕ) (ends lengths : List ℕ) → lengths ≡ lengths_from start ends → flat_map varint lengths ≡ lengths_bytes start ends
unfolding lengths_bytes
eight_spelt start ends lengths e = ap (flat_map varint) e

-- the lengths of eight runs, each by two ends
pub eight_are : {X : Type 0} (f : X → ℕ) (d : X) (start : ℕ) (xs : List X) (e0 e1 e2 e3 e4 e5 e6 e7 l0 l1 l2 l3 l4 l5 l6 l7 : ℕ) → length xs ≡ 8
    → e0 ≡ f (get_or xs 0 d) → e1 ≡ f (get_or xs 1 d) → e2 ≡ f (get_or xs 2 d) → e3 ≡ f (get_or xs 3 d) → e4 ≡ f (get_or xs 4 d) → e5 ≡ f (get_or xs 5 d) → e6 ≡ f (get_or xs 6 d) → e7 ≡ f (get_or xs 7 d)
    → l0 ≡ e0 - start → l1 ≡ e1 - e0 → l2 ≡ e2 - e1 → l3 ≡ e3 - e2 → l4 ≡ e4 - e3 → l5 ≡ e5 - e4 → l6 ≡ e6 - e5 → l7 ≡ e7 - e6
    → l0 ∷ l1 ∷ l2 ∷ l3 ∷ l4 ∷ l5 ∷ l6 ∷ l7 ∷ [] ≡ lengths_from start (map f xs)
unfolding lengths_from
eight_are f d start xs e0 e1 e2 e3 e4 e5 e6 e7 l0 l1 l2 l3 l4 l5 l6 l7 len p0 p1 p2 p3 p4 p5 p6 p7 q0 q1 q2 q3 q4 q5 q6 q7 =
    (λ i. q0 i ∷ q1 i ∷ q2 i ∷ q3 i ∷ q4 i ∷ q5 i ∷ q6 i ∷ q7 i ∷ []) ∙ (λ i. (p0 i - start) ∷ (p1 i - p0 i) ∷ (p2 i - p1 i) ∷ (p3 i - p2 i) ∷ (p4 i - p3 i) ∷ (p5 i - p4 i) ∷ (p6 i - p5 i) ∷ (p7 i - p6 i) ∷ []) ∙ ap (λ ys. lengths_from start (map f ys)) (sym (eight_of d xs len))

any_default : {X : Type 0} (xs : List X) (i : ℕ) (x y : X) → i < length xs → get_or xs i x ≡ get_or xs i y
any_default [] i x y lt = absurd (omega (arith, lt))
any_default (z ∷ xs) zero x y lt = refl
any_default (z ∷ xs) (suc i) x y lt = any_default xs i x y (omega (arith, lt))

pub end_at : {X : Type 0} (f : X → ℕ) (xs : List X) (i : ℕ) (x d : X) (end : ℕ) → length xs ≡ 8 → i < 8 → end ≡ f x → x ≡ get_or xs i x → end ≡ f (get_or xs i d)
end_at f xs i x d end len lt value is = value ∙ ap f (is ∙ any_default xs i x d (omega (arith, len, lt)))

-- no number has more bits than the or of all
pub numbers_below : (limit : ℕ) (xs : List ℕ) → bit_or (bit_or (bit_or (bit_or (get_or xs 0 0) (get_or xs 1 0)) (get_or xs 2 0)) (get_or xs 3 0)) (bit_or (bit_or (bit_or (get_or xs 4 0) (get_or xs 5 0)) (get_or xs 6 0)) (get_or xs 7 0)) < limit
    → AreBelow limit (get_or xs 0 0) (get_or xs 1 0) (get_or xs 2 0) (get_or xs 3 0) (get_or xs 4 0) (get_or xs 5 0) (get_or xs 6 0) (get_or xs 7 0)
numbers_below limit xs lt = eight_below limit (get_or xs 0 0) (get_or xs 1 0) (get_or xs 2 0) (get_or xs 3 0) (get_or xs 4 0) (get_or xs 5 0) (get_or xs 6 0) (get_or xs 7 0) lt

-- eight numbers below 128 are their varints
pub numbers_spelt : (xs : List ℕ) → length xs ≡ 8 → AreBelow 128 (get_or xs 0 0) (get_or xs 1 0) (get_or xs 2 0) (get_or xs 3 0) (get_or xs 4 0) (get_or xs 5 0) (get_or xs 6 0) (get_or xs 7 0)
    → get_or xs 0 0 ∷ get_or xs 1 0 ∷ get_or xs 2 0 ∷ get_or xs 3 0 ∷ get_or xs 4 0 ∷ get_or xs 5 0 ∷ get_or xs 6 0 ∷ get_or xs 7 0 ∷ [] ≡ flat_map varint xs
numbers_spelt xs len s = small_bytes _ _ _ _ _ _ _ _ s ∙ ap (flat_map varint) (sym (eight_of 0 xs len))
