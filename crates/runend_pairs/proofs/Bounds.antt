-- The least and the greatest number of rows that grow by a run.
use Rattle.std.proofs.Common.{◌≡◌, ◌∙◌, ◌++◌, ◌+◌, ◌<◌, ◌&&◌, ℕ, zero, suc, ℤ, Bool, true, false, cond, List, [], ◌∷◌, Option, Some, None, length, replicate, refl, sym, ap, subst, arith, inl, inr}
use Rattle.std.specs.Prelude.{◌⊎◌, Contains, MatchOption, option_map, slice_index_or}
use Rattle.std.specs.List.{find, list_all}
use Rattle.std.specs.Ordering.{int_cmp, is_lt, ord_max, ord_min}
use Rattle.std.specs.declared.cmp.Ordering.{Ordering}
use Rattle.std.proofs.lemmas.Bool.{cases_Bool}
use Rattle.std.proofs.lemmas.Int.{ints}
use Rattle.std.proofs.lemmas.List.Elements.{Contains-append_left, Contains-append_right}
use Rattle.std.proofs.lemmas.List.Folds.{list_all-append}
use Rattle.runend_pairs.specs.GroupAnswers.{bound_of, is_at_least, is_at_most, numbers_of, IsBound}
use Rattle.runend_pairs.proofs.GroupPicked.{numbers_with_copies, numbers_with_nulls}

and_left : (a b : Bool) → (a && b) ≡ true → a ≡ true
and_left true b e = refl
and_left false b e = e

and_right : (a b : Bool) → (a && b) ≡ true → b ≡ true
and_right true b e = e
and_right false b e = absurd (cc e)

both : (a b : Bool) → a ≡ true → b ≡ true → (a && b) ≡ true
both true b e f = f
both false b e f = e

-- what all items pass
all-at : {X : Type 0} (p : X → Bool) (xs : List X) (k : ℕ) (x : X) → k < length xs → slice_index_or xs k x ≡ x → list_all p xs ≡ true → p x ≡ true
all-at p [] k x within is all = absurd (omega arith)
all-at p (y ∷ xs) zero x within is all = ap p (sym is) ∙ and_left (p y) (list_all p xs) all
all-at p (y ∷ xs) (suc k) x within is all = all-at p xs k x (omega arith) is (and_right (p y) (list_all p xs) all)

all-weaker : {X : Type 0} (p q : X → Bool) → ((x : X) → p x ≡ true → q x ≡ true) → (xs : List X) → list_all p xs ≡ true → list_all q xs ≡ true
all-weaker p q weaker [] all = refl
all-weaker p q weaker (x ∷ xs) all = both (q x) (list_all q xs) (weaker x (and_left (p x) (list_all p xs) all)) (all-weaker p q weaker xs (and_right (p x) (list_all p xs) all))

all-copies : {X : Type 0} (p : X → Bool) (x : X) (count : ℕ) → p x ≡ true → list_all p (replicate count x) ≡ true
all-copies p x zero pass = refl
all-copies p x (suc count) pass = both (p x) (list_all p (replicate count x)) pass (all-copies p x count pass)

copy_there : {X : Type 0} (x : X) (count : ℕ) → 0 < count → Contains (replicate count x) x
copy_there x zero some = absurd (omega arith)
copy_there x (suc count) some = (0, omega arith, refl)

-- the only item that passes is found
find-only : {X : Type 0} (p : X → Bool) (xs : List X) (k : ℕ) (x : X) → k < length xs → slice_index_or xs k x ≡ x → p x ≡ true → ((y : X) → Contains xs y → p y ≡ true → y ≡ x) → find p xs ≡ Some x
find-only p [] k x within is pass only = absurd (omega arith)
find-only p (y ∷ xs) zero x within is pass only = ap (λ (b : Bool). cond b (Some y) (find p xs)) (ap p is ∙ pass) ∙ ap Some is
find-only p (y ∷ xs) (suc k) x within is pass only =
    let rest = find-only p xs k x (omega arith) is pass (λ z has. only z (suc has.0, omega (arith, has.1), has.2)) in
    elim (cases_Bool (p y)) [
      | inl t ↦ ap (λ (b : Bool). cond b (Some y) (find p xs)) t ∙ ap Some (only y (0, omega arith, refl) t)
      | inr f ↦ ap (λ (b : Bool). cond b (Some y) (find p xs)) f ∙ rest
    ]

-- a bound of the rows so far, and of more rows
pub IsBound-nulls : (bounds : ℤ → ℤ → Bool) (rows : List (Option ℤ)) (found : Option ℤ) (count : ℕ) → IsBound bounds rows found → IsBound bounds (rows ++ replicate count None) found
IsBound-nulls bounds rows None count before = numbers_with_nulls rows count ∙ before
IsBound-nulls bounds rows (Some n) count before = rw (numbers_with_nulls rows count) before

-- an order of numbers
pub record IsOrder (bounds : ℤ → ℤ → Bool) : Type 0 where
  pub own : (n : ℤ) → bounds n n ≡ true
  pub chain : (a b c : ℤ) → bounds a b ≡ true → bounds b c ≡ true → bounds a c ≡ true
  pub one : (a b : ℤ) → bounds a b ≡ true → bounds b a ≡ true → a ≡ b

pub IsBound-first : (bounds : ℤ → ℤ → Bool) → IsOrder bounds → (rows : List (Option ℤ)) (n : ℤ) (count : ℕ) → 0 < count → IsBound bounds rows None → IsBound bounds (rows ++ replicate count (Some n)) (Some n)
IsBound-first bounds order rows n count some before =
    let listed : numbers_of (rows ++ replicate count (Some n)) ≡ replicate count n = numbers_with_copies rows n count ∙ ap (λ (ns : List ℤ). ns ++ replicate count n) before in
    rw listed (copy_there n count some, all-copies (bounds n) n count (order.own n))

-- the one of two that bounds both
pub IsBound-next : (bounds : ℤ → ℤ → Bool) → IsOrder bounds → (rows : List (Option ℤ)) (m n next : ℤ) (count : ℕ) → 0 < count → (next ≡ m) ⊎ (next ≡ n) → bounds next m ≡ true → bounds next n ≡ true
    → IsBound bounds rows (Some m) → IsBound bounds (rows ++ replicate count (Some n)) (Some next)
IsBound-next bounds order rows m n next count some one least most before =
    let numbers = numbers_of rows in
    let copies = replicate count n in
    let among : Contains (numbers ++ copies) next = elim one [
      | inl e ↦ subst (Contains (numbers ++ copies)) (sym e) (Contains-append_left numbers copies m before.0)
      | inr e ↦ subst (Contains (numbers ++ copies)) (sym e) (Contains-append_right numbers copies n (copy_there n count some))
    ] in
    let all : list_all (bounds next) (numbers ++ copies) ≡ true =
    list_all-append (bounds next) numbers copies
    ∙ both (list_all (bounds next) numbers) (list_all (bounds next) copies) (all-weaker (bounds m) (bounds next) (λ x. order.chain next m x least) numbers before.1) (all-copies (bounds next) n count most) in
    rw (numbers_with_copies rows n count) (among, all)

-- which is the answer
pub bound_of-found : (bounds : ℤ → ℤ → Bool) → IsOrder bounds → (rows : List (Option ℤ)) (found : Option ℤ) → IsBound bounds rows found → bound_of bounds rows ≡ found
bound_of-found bounds order rows None bound = ap (λ (ns : List ℤ). find (λ n. list_all (bounds n) ns) ns) bound
bound_of-found bounds order rows (Some n) bound =
    let ns = numbers_of rows in
    find-only (λ m. list_all (bounds m) ns) ns bound.0.0 n bound.0.1 bound.0.2 bound.1
    (λ m has all. order.one m n (all-at (bounds m) ns bound.0.0 n bound.0.1 bound.0.2 all) (all-at (bounds n) ns has.0 m has.1 has.2 bound.1))

-- the two orders
pub at_most-order : IsOrder is_at_most
at_most-order = record {
  own = λ n. grind (arith, ints);
  chain = λ a b c ab bc. grind (arith, ints);
  one = λ a b ab ba. grind (arith, ints);
}

pub at_least-order : IsOrder is_at_least
at_least-order = record {
  own = λ n. grind (arith, ints);
  chain = λ a b c ab bc. grind (arith, ints);
  one = λ a b ab ba. grind (arith, ints);
}

lt-at_most : (a b : ℤ) → is_lt (int_cmp a b) ≡ true → is_at_most a b ≡ true
lt-at_most a b below = grind (arith, ints)

not_lt-at_most : (a b : ℤ) → is_lt (int_cmp a b) ≡ false → is_at_most b a ≡ true
not_lt-at_most a b below = grind (arith, ints)

lt-at_least : (a b : ℤ) → is_lt (int_cmp a b) ≡ true → is_at_least b a ≡ true
lt-at_least a b below = grind (arith, ints)

not_lt-at_least : (a b : ℤ) → is_lt (int_cmp a b) ≡ false → is_at_least a b ≡ true
not_lt-at_least a b below = grind (arith, ints)

-- values that are ordered as their numbers
module _ {S : Type 0} (number : S → ℤ) (cmp : S → S → Ordering) (ordered : (a b : S) → cmp a b ≡ int_cmp (number a) (number b)) (rows : List (Option ℤ)) (count : ℕ) (some : 0 < count) where
  -- the lesser of the least number and the next one
  pub least-next : (found : Option S) (x next : S) → MatchOption found (next ≡ x) (λ least. next ≡ ord_min cmp least x) → IsBound is_at_most rows (option_map number found)
      → IsBound is_at_most (rows ++ replicate count (Some (number x))) (Some (number next))
  least-next None x next is before = rw is (IsBound-first is_at_most at_most-order rows (number x) count some before)
  least-next (Some least) x next is before = elim (cases_Bool (is_lt (cmp x least))) [
    | inl t ↦
        let same : next ≡ x = is ∙ ap (λ (b : Bool). cond b x least) t in
        let below : is_lt (int_cmp (number x) (number least)) ≡ true = ap is_lt (sym (ordered x least)) ∙ t in
        rw same (IsBound-next is_at_most at_most-order rows (number least) (number x) (number x) count some (inr refl) (lt-at_most (number x) (number least) below) (at_most-order.own (number x)) before)
    | inr f ↦
        let same : next ≡ least = is ∙ ap (λ (b : Bool). cond b x least) f in
        let above : is_lt (int_cmp (number x) (number least)) ≡ false = ap is_lt (sym (ordered x least)) ∙ f in
        rw same (IsBound-next is_at_most at_most-order rows (number least) (number x) (number least) count some (inl refl) (at_most-order.own (number least)) (not_lt-at_most (number x) (number least) above) before)
  ]

  -- the greater of the greatest number and the next one
  pub greatest-next : (found : Option S) (x next : S) → MatchOption found (next ≡ x) (λ greatest. next ≡ ord_max cmp greatest x) → IsBound is_at_least rows (option_map number found)
      → IsBound is_at_least (rows ++ replicate count (Some (number x))) (Some (number next))
  greatest-next None x next is before = rw is (IsBound-first is_at_least at_least-order rows (number x) count some before)
  greatest-next (Some greatest) x next is before = elim (cases_Bool (is_lt (cmp x greatest))) [
    | inl t ↦
        let same : next ≡ greatest = is ∙ ap (λ (b : Bool). cond b greatest x) t in
        let below : is_lt (int_cmp (number x) (number greatest)) ≡ true = ap is_lt (sym (ordered x greatest)) ∙ t in
        rw same
        (IsBound-next is_at_least at_least-order rows (number greatest) (number x) (number greatest) count some (inl refl) (at_least-order.own (number greatest)) (lt-at_least (number x) (number greatest) below) before)
    | inr f ↦
        let same : next ≡ x = is ∙ ap (λ (b : Bool). cond b greatest x) f in
        let above : is_lt (int_cmp (number x) (number greatest)) ≡ false = ap is_lt (sym (ordered x greatest)) ∙ f in
        rw same (IsBound-next is_at_least at_least-order rows (number greatest) (number x) (number x) count some (inr refl) (not_lt-at_least (number x) (number greatest) above) (at_least-order.own (number x)) before)
  ]
