-- The form that the writer gives is the shortest varint, and how many bytes it has.
use Rattle.std.proofs.Common.{◌≡◌, ℕ, zero, suc, ◌+◌, ◌*◌, ◌/◌, ◌%◌, ◌^◌, ◌<◌, ◌≤◌, ◌⊎◌, List, [], ◌∷◌, ◌++◌, length, refl, subst, sym, ◌∙◌, ap, append_assoc, arith, inl, inr, ⊎_elim}
use Rattle.std.proofs.lemmas.Bool.{cases_lt}
use Rattle.std.proofs.lemmas.List.{length-append}
use Rattle.column_fields.specs.Spelling.{Appends, FitsBehind, HasLength}
use Rattle.column_fields.specs.Varint.{StandsFor, IsShortestVarint}
use Rattle.column_fields.proofs.Varints.{StandsFor-long}

-- as bytes mean a number, but never with a high part of 0
abbrev pub IsCompact : List ℕ → ℕ → Type 0
IsCompact [] n = ⊥
IsCompact (byte ∷ bytes) n = ((byte < 128) × (bytes ≡ []) × (n ≡ byte)) ⊎ ((low : ℕ) × (high : ℕ) × (low < 128) × (byte ≡ 128 + low) × (n ≡ low + 128 * high) × (0 < high) × IsCompact bytes high)

-- ---- compact bytes are the shortest varint

pub stands : (bytes : List ℕ) (n : ℕ) → IsCompact bytes n → StandsFor bytes n
stands [] n h = h
stands (b ∷ bytes) n (inl p) = inl p
stands (b ∷ bytes) n (inr (low, high, lt, is, sum, some, h)) = inr (low, high, lt, is, sum, stands bytes high h)

least : (bytes other : List ℕ) (n : ℕ) → IsCompact bytes n → StandsFor other n → length bytes ≤ length other
least [] other n h k = absurd h
least (b ∷ bytes) [] n h k = absurd k
least (b ∷ bytes) (c ∷ other) n (inl (lt, nil, is)) k = rw nil (omega arith)
least (b ∷ bytes) (c ∷ other) n (inr (low, high, lt, is, sum, some, h)) (inl p) = absurd (omega arith)
least (b ∷ bytes) (c ∷ other) n (inr (low, high, lt, is, sum, some, h)) (inr (low', high', lt', is', sum', h')) =
    let e : high ≡ high' = omega arith in
    omega (arith, least bytes other high h (rw e h'))

short_within : (k : ℕ) (bytes : List ℕ) (n : ℕ) → IsCompact bytes n → n < 128 ^ (suc k) → length bytes ≤ suc k
short_within k [] n h lt = absurd h
short_within k (b ∷ bytes) n (inl (below, nil, is)) lt = rw nil (omega arith)
short_within zero (b ∷ bytes) n (inr (low, high, below, is, sum, some, h)) lt = absurd (omega arith)
short_within (suc k) (b ∷ bytes) n (inr (low, high, below, is, sum, some, h)) lt =
    omega (arith, short_within k bytes high h (omega arith))

pub short : (bytes : List ℕ) (n : ℕ) → n < 2 ^ 64 → IsCompact bytes n → length bytes ≤ 10
short bytes n fits h = short_within 9 bytes n h (omega arith)

pub shortest : (bytes : List ℕ) (n : ℕ) → n < 2 ^ 64 → IsCompact bytes n → IsShortestVarint bytes n
shortest bytes n fits h = record {
  varint = record { stands = stands bytes n h; short = short bytes n fits h; fits = fits };
  shortest = λ other k. least bytes other n h k.stands;
}

-- ---- each number has compact bytes, and they are its only shortest varint

pub record Compact (n : ℕ) : Type 0 where
  pub bytes : List ℕ
  pub compact : IsCompact bytes n

compact_more : (n : ℕ) → 128 ≤ n → Compact (n / 128) → Compact n
compact_more n ge h = record {
  bytes = (n % 128 + 128) ∷ h.bytes;
  compact = inr (n % 128, n / 128, omega arith, omega arith, omega arith, omega arith, h.compact);
}

compact_one : (n : ℕ) → n < 128 → Compact n
compact_one n lt = record { bytes = n ∷ []; compact = inl (lt, refl, refl) }

compact_within : (k n : ℕ) → n < 128 ^ (suc k) → Compact n
compact_within zero n lt = compact_one n (omega arith)
compact_within (suc k) n lt = ⊎_elim (compact_one n) (λ ge. compact_more n ge (compact_within k (n / 128) (omega arith))) (cases_lt n 128)

pub compact_of : (n : ℕ) → n < 2 ^ 64 → Compact n
compact_of n fits = compact_within 9 n (omega arith)

pub StandsFor-form : (a b : List ℕ) (n : ℕ) → StandsFor a n → StandsFor b n → length a ≡ length b → a ≡ b
StandsFor-form [] b n h k len = absurd h
StandsFor-form (c ∷ a) [] n h k len = absurd k
StandsFor-form (c ∷ a) (d ∷ b) n (inl p) (inl q) len = cc (p.1, p.2, q.1, q.2)
StandsFor-form (c ∷ a) (d ∷ b) n (inl p) (inr (low, high, lt, is, sum, k)) len = absurd (omega (arith, ap length p.1, StandsFor-long b high k))
StandsFor-form (c ∷ a) (d ∷ b) n (inr (low, high, lt, is, sum, h)) (inl q) len = absurd (omega (arith, ap length q.1, StandsFor-long a high h))
StandsFor-form (c ∷ a) (d ∷ b) n (inr (low, high, lt, is, sum, h)) (inr (low', high', lt', is', sum', k)) len =
    let highs : high ≡ high' = omega arith in
    let heads : c ≡ d = omega arith in
    let tails : a ≡ b = StandsFor-form a b high h (subst (λ (x : ℕ). StandsFor b x) (sym highs) k) (omega arith) in
    cc

pub shortest_form : (a b : List ℕ) (n : ℕ) → IsShortestVarint a n → IsShortestVarint b n → a ≡ b
shortest_form a b n h k = StandsFor-form a b n h.varint.stands k.varint.stands (omega (arith, h.shortest b k.varint, k.shortest a h.varint))

pub compact_form : (bytes : List ℕ) (n : ℕ) → IsShortestVarint bytes n → IsCompact bytes n
compact_form bytes n h =
    let c = compact_of n h.varint.fits in
    subst (λ (t : List ℕ). IsCompact t n) (shortest_form c.bytes bytes n (shortest c.bytes n h.varint.fits c.compact) h) c.compact

-- ---- how many bytes: the loop has counted all but those that mean the rest

pub record Counted (n count rest : ℕ) (bytes : List ℕ) : Type 0 where
  pub tail : List ℕ
  pub compact : IsCompact tail rest
  pub total : length bytes + 1 ≡ count + length tail

count_more_at : (n count rest : ℕ) (bytes tail : List ℕ) → 128 ≤ rest → IsCompact tail rest → length bytes + 1 ≡ count + length tail → Counted n (count + 1) (rest / 128) bytes
count_more_at n count rest bytes [] ge h total = absurd h
count_more_at n count rest bytes (b ∷ tail) ge (inl p) total = absurd (omega (arith, p.2))
count_more_at n count rest bytes (b ∷ tail) ge (inr (low, high, lt, is, sum, some, h)) total =
    let e : high ≡ rest / 128 = omega arith in
    record { tail = tail; compact = subst (λ (k : ℕ). IsCompact tail k) e h; total = omega arith }

pub count_more : (n count rest : ℕ) (bytes : List ℕ) → 128 ≤ rest → Counted n count rest bytes → Counted n (count + 1) (rest / 128) bytes
count_more n count rest bytes ge h = count_more_at n count rest bytes h.tail ge h.compact h.total

count_last_at : (n count rest : ℕ) (bytes tail : List ℕ) → rest < 128 → IsCompact tail rest → length bytes + 1 ≡ count + length tail → length bytes ≡ count
count_last_at n count rest bytes [] lt h total = absurd h
count_last_at n count rest bytes (b ∷ tail) lt (inl (below, nil, is)) total = omega (arith, ap length nil)
count_last_at n count rest bytes (b ∷ tail) lt (inr (low, high, below, is, sum, some, h)) total = absurd (omega arith)

pub count_last : (n count rest : ℕ) (bytes : List ℕ) → rest < 128 → Counted n count rest bytes → length bytes ≡ count
count_last n count rest bytes lt h = count_last_at n count rest bytes h.tail lt h.compact h.total

pub all_counted : (n count rest : ℕ) → rest < 128 → ((bytes : List ℕ) → IsCompact bytes n → Counted n count rest bytes) → HasLength IsShortestVarint n count
all_counted n count rest lt h = record { long = λ bytes s. count_last n count rest bytes lt (h bytes (compact_form bytes n s)) }

pub count_at_most : (n count rest : ℕ) → n < 2 ^ 64 → rest < 128 → ((bytes : List ℕ) → IsCompact bytes n → Counted n count rest bytes) → count ≤ 10
count_at_most n count rest fits lt h =
    let c = compact_of n fits in
    omega (arith, count_last n count rest c.bytes lt (h c.bytes c.compact), short c.bytes n fits c.compact)

-- ---- the loop that writes

-- whatever completes the rest completes the number, after the old bytes
pub record Completes (old : List ℕ) (n : ℕ) (new : List ℕ) : Type 0 where
  pub bytes : List ℕ
  pub compact : IsCompact bytes n
  pub parts : new ≡ old ++ bytes

pub one_more : (old out after : List ℕ) (n rest : ℕ) → 128 ≤ rest → after ≡ out ++ (rest % 128 + 128) ∷ [] → ((t : List ℕ) → IsCompact t rest → Completes old n (out ++ t)) → (t : List ℕ) → IsCompact t (rest / 128) → Completes old n (after ++ t)
one_more old out after n rest ge e h t compact =
    let whole = h ((rest % 128 + 128) ∷ t) (inr (rest % 128, rest / 128, omega arith, omega arith, omega arith, omega arith, compact)) in
    rw (e, append_assoc out ((rest % 128 + 128) ∷ []) t) whole

-- there is room for one more byte
pub room_ahead : (old out : List ℕ) (n rest used capacity : ℕ) → n < 2 ^ 64 → rest < 2 ^ 64 → FitsBehind IsShortestVarint used capacity n → used ≡ length old → ((t : List ℕ) → IsCompact t rest → Completes old n (out ++ t)) → length out < capacity
room_ahead old out n rest used capacity fits below room len h =
    let t = compact_of rest below in
    let whole = h t.bytes t.compact in
    omega (arith, room.fits whole.bytes (shortest whole.bytes n fits whole.compact), ap length whole.parts, length-append out t.bytes, length-append old whole.bytes, StandsFor-long t.bytes rest (stands t.bytes rest t.compact))

pub appended : (old out after : List ℕ) (n rest : ℕ) → n < 2 ^ 64 → rest < 128 → after ≡ out ++ rest ∷ [] → ((t : List ℕ) → IsCompact t rest → Completes old n (out ++ t)) → Appends IsShortestVarint old n after
appended old out after n rest fits lt e h =
    let whole = h (rest ∷ []) (inl (lt, refl, refl)) in
    record { added = whole.bytes; spelt = shortest whole.bytes n fits whole.compact; parts = e ∙ whole.parts }
