-- Run lengths are those of ends.
use Rattle.std.proofs.Common.{◌≡◌, ℕ, suc, ◌+◌, ◌-◌, ◌*◌, ◌<◌, ◌≤◌, ℤ, pos, List, [], ◌∷◌, ◌++◌, length, get_or, map, drop, refl, sym, ap, ◌∙◌, append_assoc, add-one, arith}
use Rattle.std.specs.Prelude.{unsigned_abs}
use Rattle.std.proofs.lemmas.List.{append-nil, drop_all, length-append}
use Rattle.std.proofs.Math.Seq.{drop-cons}
use Rattle.column_fields.specs.Varint.{varint}
use Rattle.column_fields.specs.Field.{bytes_field}
use Rattle.column_fields.specs.Lengths.{lengths_from, lengths_bytes}

-- the ends of unsigned numbers are these numbers
pub ends_stored : (ns : List ℕ) → map unsigned_abs (map (λ (n : ℕ). pos n) ns) ≡ map (λ n. n) ns
ends_stored [] = refl
ends_stored (n ∷ ns) = ap (λ xs. n ∷ xs) (ends_stored ns)

natural_numbers : {X : Type 0} (number : X → ℤ) (natural : X → ℕ) (xs : List X) → ((x : X) → number x ≡ pos (natural x)) → map unsigned_abs (map number xs) ≡ map natural xs
natural_numbers number natural [] law = refl
natural_numbers number natural (x ∷ xs) law = ap (λ (z : ℤ). unsigned_abs z ∷ map unsigned_abs (map number xs)) (law x) ∙ ap (λ (t : List ℕ). natural x ∷ t) (natural_numbers number natural xs law)

-- the numbers of ends, as natural ones
pub ends_natural : {X : Type 0} (number : X → ℤ) (natural : X → ℕ) (xs : List X) (ns : List ℤ) → ((x : X) → number x ≡ pos (natural x)) → ns ≡ map number xs → map unsigned_abs ns ≡ map natural xs
ends_natural number natural xs ns law shows = ap (map unsigned_abs) shows ∙ natural_numbers number natural xs law

pub lengths_cons : (start end : ℕ) (ends : List ℕ) → lengths_bytes start (end ∷ ends) ≡ varint (end - start) ++ lengths_bytes end ends
unfolding lengths_bytes lengths_from
lengths_cons start end ends = refl

-- the first run, and those after it
pub first_run : {X : Type 0} (f : X → ℕ) (xs : List X) (first : X) (others : List X) (end : ℕ) → xs ≡ first ∷ others → end ≡ f first → lengths_bytes 0 (map f xs) ≡ varint end ++ lengths_bytes (f first) (map f others)
first_run f xs first others end parts is =
    ap (λ ys. lengths_bytes 0 (map f ys)) parts ∙ lengths_cons 0 (f first) (map f others) ∙ ap (λ (n : ℕ). varint n ++ lengths_bytes (f first) (map f others)) (omega (arith, is))

pub lengths_none : (start : ℕ) → lengths_bytes start [] ≡ []
unfolding lengths_bytes lengths_from
lengths_none start = refl

pub ahead : {X : Type 0} (xs : List X) (i : ℕ) (x : X) → i < length xs → x ≡ get_or xs i x → drop i xs ≡ x ∷ drop (i + 1) xs
ahead xs i x lt is = drop-cons xs i x lt ∙ ap (λ y. y ∷ drop (suc i) xs) (sym is) ∙ ap (λ (k : ℕ). x ∷ drop k xs) (sym (add-one i))

pub lengths_ahead : {X : Type 0} (f : X → ℕ) (xs : List X) (i start : ℕ) (x : X) → i < length xs → x ≡ get_or xs i x → lengths_bytes start (map f (drop i xs)) ≡ varint (f x - start) ++ lengths_bytes (f x) (map f (drop (i + 1) xs))
lengths_ahead f xs i start x lt is = ap (λ ys. lengths_bytes start (map f ys)) (ahead xs i x lt is) ∙ lengths_cons start (f x) (map f (drop (i + 1) xs))

pub lengths_step : {X : Type 0} (f : X → ℕ) (xs : List X) (i start : ℕ) (x : X) (out new whole : List ℕ) → i < length xs → x ≡ get_or xs i x → out ++ lengths_bytes start (map f (drop i xs)) ≡ whole → new ≡ out ++ varint (f x - start) → new ++ lengths_bytes (f x) (map f (drop (i + 1) xs)) ≡ whole
lengths_step f xs i start x out new whole lt is inv n =
    ap (λ (t : List ℕ). t ++ lengths_bytes (f x) (map f (drop (i + 1) xs))) n ∙ append_assoc out (varint (f x - start)) (lengths_bytes (f x) (map f (drop (i + 1) xs))) ∙ ap (λ (t : List ℕ). out ++ t) (sym (lengths_ahead f xs i start x lt is)) ∙ inv

-- how many bytes are left
pub lengths_left : {X : Type 0} (f : X → ℕ) (xs : List X) (i start : ℕ) (x : X) → i < length xs → x ≡ get_or xs i x → length (lengths_bytes start (map f (drop i xs))) ≡ length (varint (f x - start)) + length (lengths_bytes (f x) (map f (drop (i + 1) xs)))
lengths_left f xs i start x lt is = ap length (lengths_ahead f xs i start x lt is) ∙ length-append (varint (f x - start)) (lengths_bytes (f x) (map f (drop (i + 1) xs)))

pub none_left : {X : Type 0} (f : X → ℕ) (xs : List X) (i start : ℕ) → length xs ≤ i → length (lengths_bytes start (map f (drop i xs))) ≡ 0
none_left f xs i start le = ap length (ap (λ ys. lengths_bytes start (map f ys)) (drop_all i xs le) ∙ lengths_none start)

pub lengths_done : {X : Type 0} (f : X → ℕ) (xs : List X) (i start : ℕ) (out whole : List ℕ) → length xs ≤ i → out ++ lengths_bytes start (map f (drop i xs)) ≡ whole → out ≡ whole
lengths_done f xs i start out whole le inv =
    let none : lengths_bytes start (map f (drop i xs)) ≡ [] = ap (λ ys. lengths_bytes start (map f ys)) (drop_all i xs le) ∙ lengths_none start in
    sym (append-nil out) ∙ ap (λ (t : List ℕ). out ++ t) (sym none) ∙ inv

pub puts_bytes : (field count : ℕ) (content old mid new : List ℕ) → count ≡ length content → mid ≡ old ++ (varint (field * 8 + 2) ++ varint count) → new ≡ mid ++ content → new ≡ old ++ bytes_field field content
unfolding bytes_field
puts_bytes field count content old mid new c m n = rw (n, m, c) (simp append_assoc)
