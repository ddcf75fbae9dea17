-- What is nearest to a number between two neighbours.
use Rattle.std.proofs.Common.{◌≡◌, ◌≢◌, ℕ, ◌+◌, ◌*◌, ◌%◌, ◌<◌, ◌≤◌, ◌⊎◌, inl, inr, arith, ap, ◌∙◌, sym, subst, le_refl}
use Rattle.std.proofs.lemmas.Bool.{cases_eq, cases_order}
use Rattle.float_bits.specs.Nearest.{IsNearestOf, distance}

-- sizes of patterns, each more than those before it
pub record Ascends (s : ℕ → ℕ) (last : ℕ) : Type 0 where
  pub up : (a b : ℕ) → a < b → b ≤ last → s a < s b

-- a number from the size of a finite pattern on, and before that of the next one
pub record IsBetween (s : ℕ → ℕ) (last n bits : ℕ) : Type 0 where
  pub finite : bits < last
  pub low : s bits ≤ n
  pub high : n < s (bits + 1)

-- where any pattern lies, relative to the two neighbours
data Place (s : ℕ → ℕ) (b q : ℕ) : Type 0 where
  lower : q ≡ b → Place s b q
  upper : q ≡ b + 1 → Place s b q
  under : s q < s b → Place s b q
  over : s (b + 1) < s q → Place s b q

place : (s : ℕ → ℕ) (last : ℕ) (up : Ascends s last) (n b q : ℕ) → IsBetween s last n b → q ≤ last → Place s b q
place s last up n b q w h =
    let l = w.finite in
    elim (cases_order q b) [
      | inl e ↦ lower e
      | inr (inl t) ↦ under (up.up q b t (omega arith))
      | inr (inr t) ↦ elim (cases_order q (b + 1)) [
        | inl e ↦ upper e
        | inr (inl u) ↦ absurd (omega arith)
        | inr (inr u) ↦ over (up.up (b + 1) q u h)
      ]
    ]

-- distances, by the side of the middle
nearer_below : (n x y z : ℕ) → x ≤ n → n < y → 2 * n < x + y → (z < x) ⊎ (y ≤ z) → distance n x < distance n z
nearer_below n x y z a b c (inl h) = omega arith
nearer_below n x y z a b c (inr h) = omega arith

nearer_above : (n x y z : ℕ) → x ≤ n → n < y → x + y < 2 * n → (z ≤ x) ⊎ (y < z) → distance n y < distance n z
nearer_above n x y z a b c (inl h) = omega arith
nearer_above n x y z a b c (inr h) = omega arith

nearer_both : (n x y z : ℕ) → x ≤ n → n < y → 2 * n ≡ x + y → (z < x) ⊎ (y < z) → distance n x < distance n z
nearer_both n x y z a b c (inl h) = omega arith
nearer_both n x y z a b c (inr h) = omega arith

equally_near : (n x y : ℕ) → x ≤ n → n < y → 2 * n ≡ x + y → distance n x ≡ distance n y
equally_near n x y a b c = omega arith

at_most : {a b : ℕ} → a < b → a ≤ b
at_most h = omega arith

not_equal : (a b : ℕ) → a < b → a ≡ b → ⊥
not_equal a b h e = omega arith

-- a pattern that is nearer than each other one
pub nearest_only : (s : ℕ → ℕ) (last : ℕ) (n b : ℕ) → b ≤ last → ((q : ℕ) → q ≤ last → q ≢ b → distance n (s b) < distance n (s q)) → IsNearestOf s last n b
nearest_only s last n b l h = record {
  pattern = l;
  nearest = λ q m. elim (cases_eq q b) [
    | inl e ↦ subst (λ x. distance n (s b) ≤ distance n (s x)) (sym e) (le_refl _)
    | inr d ↦ at_most (h q m d)
  ];
  even = λ q m d e. absurd (not_equal _ _ (h q m d) e);
}

pub nearest_lower : (s : ℕ → ℕ) (last : ℕ) (up : Ascends s last) (n b : ℕ) → IsBetween s last n b → 2 * n < s b + s (b + 1) → IsNearestOf s last n b
nearest_lower s last up n b w h =
    let l = w.finite in
    nearest_only s last n b (omega arith) (λ q m d. elim (place s last up n b q w m) [
      | lower e ↦ absurd (d e)
      | upper e ↦ nearer_below n (s b) (s (b + 1)) (s q) w.low w.high h (inr (subst (λ x. s (b + 1) ≤ s x) (sym e) (le_refl _)))
      | under t ↦ nearer_below n (s b) (s (b + 1)) (s q) w.low w.high h (inl t)
      | over t ↦ nearer_below n (s b) (s (b + 1)) (s q) w.low w.high h (inr (at_most t))
    ])

pub nearest_upper : (s : ℕ → ℕ) (last : ℕ) (up : Ascends s last) (n b : ℕ) → IsBetween s last n b → s b + s (b + 1) < 2 * n → IsNearestOf s last n (b + 1)
nearest_upper s last up n b w h =
    let l = w.finite in
    nearest_only s last n (b + 1) (omega arith) (λ q m d. elim (place s last up n b q w m) [
      | lower e ↦ nearer_above n (s b) (s (b + 1)) (s q) w.low w.high h (inl (subst (λ x. s x ≤ s b) (sym e) (le_refl _)))
      | upper e ↦ absurd (d e)
      | under t ↦ nearer_above n (s b) (s (b + 1)) (s q) w.low w.high h (inl (at_most t))
      | over t ↦ nearer_above n (s b) (s (b + 1)) (s q) w.low w.high h (inr t)
    ])

-- in the middle, the even one of the two
tied : (s : ℕ → ℕ) (last : ℕ) (up : Ascends s last) (n b r : ℕ) → IsBetween s last n b → 2 * n ≡ s b + s (b + 1) → (r ≡ b) ⊎ (r ≡ b + 1) → r % 2 ≡ 0 → IsNearestOf s last n r
tied s last up n b r w h c even =
    let l = w.finite in
    let as_near = equally_near n (s b) (s (b + 1)) w.low w.high h in
    let same : distance n (s r) ≡ distance n (s b) = elim c [
      | inl e ↦ ap (λ x. distance n (s x)) e
      | inr e ↦ ap (λ x. distance n (s x)) e ∙ sym as_near
    ] in
    record {
      pattern = elim c [ inl e ↦ omega arith | inr e ↦ omega arith ];
      nearest = λ q m. subst (λ x. x ≤ distance n (s q)) (sym same) (elim (place s last up n b q w m) [
        | lower e ↦ subst (λ x. distance n (s b) ≤ distance n (s x)) (sym e) (le_refl _)
        | upper e ↦ subst (λ x. distance n (s b) ≤ distance n (s x)) (sym e) (subst (λ x. distance n (s b) ≤ x) as_near (le_refl _))
        | under t ↦ at_most (nearer_both n (s b) (s (b + 1)) (s q) w.low w.high h (inl t))
        | over t ↦ at_most (nearer_both n (s b) (s (b + 1)) (s q) w.low w.high h (inr t))
      ]);
      even = λ q m d e. even;
    }

even_one : (b : ℕ) → ((b + b % 2 ≡ b) ⊎ (b + b % 2 ≡ b + 1)) × ((b + b % 2) % 2 ≡ 0)
even_one b = elim (cases_eq (b % 2) 0) [
  | inl e ↦ (inl (omega arith), omega arith)
  | inr d ↦ (inr (omega arith), omega arith)
]

pub nearest_even : (s : ℕ → ℕ) (last : ℕ) (up : Ascends s last) (n b : ℕ) → IsBetween s last n b → 2 * n ≡ s b + s (b + 1) → IsNearestOf s last n (b + b % 2)
nearest_even s last up n b w h = tied s last up n b (b + b % 2) w h (even_one b).0 (even_one b).1

-- past the finite patterns
farther_below : (n i z : ℕ) → i ≤ n → z < i → distance n i < distance n z
farther_below n i z h l = omega arith

pub nearest_infinity : (s : ℕ → ℕ) (last : ℕ) (up : Ascends s last) (n : ℕ) → s last ≤ n → IsNearestOf s last n last
nearest_infinity s last up n h = nearest_only s last n last (le_refl _) (λ q m d.
    farther_below n (s last) (s q) h (up.up q last (omega arith) (le_refl _)))

-- a size is nearest to itself
apart_below : (n z : ℕ) → z < n → distance n n < distance n z
apart_below n z h = omega arith

apart_above : (n z : ℕ) → n < z → distance n n < distance n z
apart_above n z h = omega arith

pub nearest_itself : (s : ℕ → ℕ) (last : ℕ) (up : Ascends s last) (b : ℕ) → b ≤ last → IsNearestOf s last (s b) b
nearest_itself s last up b l = nearest_only s last (s b) b l (λ q m d. elim (cases_order q b) [
  | inl e ↦ absurd (d e)
  | inr (inl t) ↦ apart_below (s b) (s q) (up.up q b t l)
  | inr (inr t) ↦ apart_above (s b) (s q) (up.up b q t m)
])

-- a number between two neighbours, and more than the lower one, is the size of none
pub no_size : (s : ℕ → ℕ) (last : ℕ) (up : Ascends s last) (n b : ℕ) → IsBetween s last n b → s b < n → (q : ℕ) → q ≤ last → ¬ (s q ≡ n)
no_size s last up n b w h q m e = elim (place s last up n b q w m) [
  | lower i ↦ let same : s q ≡ s b = ap s i in absurd (omega arith)
  | upper i ↦ let same : s q ≡ s (b + 1) = ap s i in let high = w.high in absurd (omega arith)
  | under t ↦ absurd (omega arith)
  | over t ↦ let high = w.high in absurd (omega arith)
]

-- a number past the finite patterns is the size of none of them
pub no_finite_size : (s : ℕ → ℕ) (last : ℕ) (up : Ascends s last) (n : ℕ) → s last ≤ n → (q : ℕ) → q < last → ¬ (s q ≡ n)
no_finite_size s last up n h q m e = let less = up.up q last m (le_refl _) in omega arith
