-- Whether valid indices are sorted, found in one walk.
use Rattle.std.proofs.Common.{◌≡◌, ◌+◌, ◌<◌, ◌≤◌, ◌⊎◌, ℕ, ℤ, pos, List, Option, Some, None, length, inl, inr, refl, arith}
use Rattle.std.specs.Prelude.{◌≤ℤ◌, slice_get}
use Rattle.std.proofs.lemmas.Bool.{cases_lt}
use Rattle.std.proofs.lemmas.Int.{ints}
use Rattle.std.proofs.lemmas.Option.{slice_get_within}
use Rattle.runend_select.specs.Indices.{AreSorted}

-- the valid indices before a place are sorted, and the last of them is `last`, which is 0 where there is none
pub record AreSortedBefore (indices : List (Option ℤ)) (place last : ℕ) : Type 0 where
  pub sorted : (i j : ℕ) (m n : ℤ) → i < j → j < place → slice_get indices i ≡ Some (Some m) → slice_get indices j ≡ Some (Some n) → m ≤ℤ n
  pub below : (i : ℕ) (m : ℤ) → i < place → slice_get indices i ≡ Some (Some m) → m ≤ℤ pos last
  pub reached : (last ≡ 0) ⊎ ((i : ℕ) × (i < place) × (slice_get indices i ≡ Some (Some (pos last))))

pub AreSortedBefore-none : (indices : List (Option ℤ)) → AreSortedBefore indices 0 0
AreSortedBefore-none indices = record {
  sorted = λ i j m n before within at at'. absurd (omega arith);
  below = λ i m within at. absurd (omega arith);
  reached = inl refl;
}

-- past a null index
pub AreSortedBefore-null : (indices : List (Option ℤ)) (place last : ℕ) → slice_get indices place ≡ Some None → AreSortedBefore indices place last → AreSortedBefore indices (place + 1) last
AreSortedBefore-null indices place last null so_far = record {
  sorted = λ i j m n before within at at'. elim (cases_lt j place) [
    | inl earlier ↦ so_far.sorted i j m n before earlier at at'
    | inr from ↦ let here : j ≡ place = omega arith in (cc)
  ];
  below = λ i m within at. elim (cases_lt i place) [
    | inl earlier ↦ so_far.below i m earlier at
    | inr from ↦ let here : i ≡ place = omega arith in (cc)
  ];
  reached = elim so_far.reached [
    | inl none ↦ inl none
    | inr found ↦ let earlier = found.1 in inr (found.0, omega arith, found.2)
  ];
}

-- two optional items that are one
same_item : (indices : List (Option ℤ)) (i place : ℕ) (m n : ℤ) → i ≡ place → slice_get indices i ≡ Some (Some m) → slice_get indices place ≡ Some (Some n) → m ≡ n
same_item indices i place m n here at at' = cc

-- past a valid index that is not below the last
pub AreSortedBefore-valid : (indices : List (Option ℤ)) (place last row : ℕ) → slice_get indices place ≡ Some (Some (pos row)) → last ≤ row
    → AreSortedBefore indices place last → AreSortedBefore indices (place + 1) row
AreSortedBefore-valid indices place last row valid order so_far = record {
  sorted = λ i j m n before within at at'. elim (cases_lt j place) [
    | inl earlier ↦ so_far.sorted i j m n before earlier at at'
    | inr from ↦
        let here : n ≡ pos row = same_item indices j place n (pos row) (omega arith) at' valid in
        let least = so_far.below i m (omega arith) at in
        omega (arith, ints)
  ];
  below = λ i m within at. elim (cases_lt i place) [
    | inl earlier ↦ let least = so_far.below i m earlier at in omega (arith, ints)
    | inr from ↦ let here : m ≡ pos row = same_item indices i place m (pos row) (omega arith) at valid in omega (arith, ints)
  ];
  reached = inr (place, omega arith, valid);
}

-- a valid index below the last is out of order
pub AreSorted-not : (indices : List (Option ℤ)) (place last row : ℕ) → slice_get indices place ≡ Some (Some (pos row)) → row < last → AreSortedBefore indices place last → ¬ AreSorted indices
AreSorted-not indices place last row valid falls so_far sorted = elim so_far.reached [
  | inl none ↦ absurd (omega arith)
  | inr found ↦ let order = sorted found.0 place (pos last) (pos row) found.1 found.2 valid in absurd (omega (arith, ints))
]

-- all indices were seen
pub AreSorted-all : (indices : List (Option ℤ)) (place last : ℕ) → length indices ≤ place → AreSortedBefore indices place last → AreSorted indices
AreSorted-all indices place last all so_far i j m n before at at' =
    let within = slice_get_within indices j (Some n) at' in
    so_far.sorted i j m n before (omega arith) at at'
