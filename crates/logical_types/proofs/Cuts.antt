-- Words cut at their first byte of a value: what comes before it and after it, and whether there is one.
use Rattle.std.proofs.Common.{◌≡◌, ◌≢◌, ◌<◌, ◌++◌, [], ◌∷◌, ℕ, List, Bool, true, false, length, get_or, suc, refl, ap, arith}
use Rattle.std.specs.Prelude.{if◌then◌else◌, ◌==◌}
use Rattle.std.proofs.lemmas.Bool.{eq-eqb, ne_eqb}

abbrev pub before : ℕ → List ℕ → List ℕ
before c [] = []
before c (x ∷ xs) = if x == c then [] else (x ∷ before c xs)

abbrev pub after : ℕ → List ℕ → List ℕ
after c [] = []
after c (x ∷ xs) = if x == c then xs else after c xs

abbrev pub has : ℕ → List ℕ → Bool
has c [] = false
has c (x ∷ xs) = if x == c then true else has c xs

-- no byte is c
abbrev pub HasNone : ℕ → List ℕ → Type 0
HasNone c word = (i : ℕ) → i < length word → get_or word i 0 ≢ c

first_differs : (c x : ℕ) (xs : List ℕ) → HasNone c (x ∷ xs) → x ≢ c
first_differs c x xs none = none 0 (omega arith)

rest_has_none : (c x : ℕ) (xs : List ℕ) → HasNone c (x ∷ xs) → HasNone c xs
rest_has_none c x xs none i inside = none (suc i) (omega arith)

pub has_none : (c : ℕ) (word : List ℕ) → HasNone c word → has c word ≡ false
has_none c [] none = refl
has_none c (x ∷ xs) none = rw (ne_eqb x c (first_differs c x xs none)) (has_none c xs (rest_has_none c x xs none))

pub before_at : (c : ℕ) (word rest : List ℕ) → HasNone c word → before c (word ++ (c ∷ rest)) ≡ word
before_at c [] rest none = rw (eq-eqb c c refl) refl
before_at c (x ∷ xs) rest none =
    rw (ne_eqb x c (first_differs c x xs none)) (ap (λ ys. x ∷ ys) (before_at c xs rest (rest_has_none c x xs none)))

pub after_at : (c : ℕ) (word rest : List ℕ) → HasNone c word → after c (word ++ (c ∷ rest)) ≡ rest
after_at c [] rest none = rw (eq-eqb c c refl) refl
after_at c (x ∷ xs) rest none =
    rw (ne_eqb x c (first_differs c x xs none)) (after_at c xs rest (rest_has_none c x xs none))

either_way : (b b' : Bool) → b' ≡ true → (if b then true else b') ≡ true
either_way true b' e = refl
either_way false b' e = e

pub has_at : (c : ℕ) (word rest : List ℕ) → has c (word ++ (c ∷ rest)) ≡ true
has_at c [] rest = rw (eq-eqb c c refl) refl
has_at c (x ∷ xs) rest = either_way (x == c) (has c (xs ++ (c ∷ rest))) (has_at c xs rest)

pub before_none : (c : ℕ) (word : List ℕ) → HasNone c word → before c word ≡ word
before_none c [] none = refl
before_none c (x ∷ xs) none =
    rw (ne_eqb x c (first_differs c x xs none)) (ap (λ ys. x ∷ ys) (before_none c xs (rest_has_none c x xs none)))
