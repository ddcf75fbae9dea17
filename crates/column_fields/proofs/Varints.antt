-- Bytes begin with at most one varint.
use Rattle.std.specs.Prelude.{IfNone}
use Rattle.std.proofs.Common.{Option, None, Some, ◌≡◌, ℕ, ◌<◌, List, [], ◌∷◌, ◌++◌, length, sym, ap, ◌∙◌, arith, inl, inr}
use Rattle.std.proofs.lemmas.List.{append_cancel_left}
use Rattle.column_fields.specs.Spelling.{Begins}
use Rattle.column_fields.specs.Varint.{StandsFor, IsVarint}

-- after equal fronts come equal rests
pub rest_same : (a b x y : List ℕ) → a ≡ b → a ++ x ≡ b ++ y → x ≡ y
rest_same a b x y e all = append_cancel_left a x y (all ∙ ap (λ (t : List ℕ). t ++ y) (sym e))

pub StandsFor-same : (a b x y : List ℕ) (m n : ℕ) → StandsFor a m → StandsFor b n → a ++ x ≡ b ++ y → (a ≡ b) × (m ≡ n)
StandsFor-same [] b x y m n p q e = absurd p
StandsFor-same (c ∷ a) [] x y m n p q e = absurd q
StandsFor-same (c ∷ a) (d ∷ b) x y m n (inl p) (inl q) e =
    let heads : c ≡ d = cc in
    let tails : a ≡ b = cc (p.1, q.1) in
    (cc, cc (p.2, q.2))
StandsFor-same (c ∷ a) (d ∷ b) x y m n (inl p) (inr (low, high, lt, is, sum, stands)) e =
    let heads : c ≡ d = cc in absurd (omega arith)
StandsFor-same (c ∷ a) (d ∷ b) x y m n (inr (low, high, lt, is, sum, stands)) (inl q) e =
    let heads : c ≡ d = cc in absurd (omega arith)
StandsFor-same (c ∷ a) (d ∷ b) x y m n (inr (low, high, lt, is, sum, stands)) (inr (low', high', lt', is', sum', stands')) e =
    let heads : c ≡ d = cc in
    let tails : a ++ x ≡ b ++ y = cc in
    let same = StandsFor-same a b x y high high' stands stands' tails in
    let high-same : high ≡ high' = same.1 in
    let front-same : a ≡ b = same.0 in
    (cc, omega arith)

-- a number has at least one byte
pub StandsFor-long : (bytes : List ℕ) (n : ℕ) → StandsFor bytes n → 0 < length bytes
StandsFor-long [] n h = absurd h
StandsFor-long (b ∷ bytes) n h = omega arith

pub IsVarint-same : (a b x y : List ℕ) (m n : ℕ) → IsVarint a m → IsVarint b n → a ++ x ≡ b ++ y → (a ≡ b) × (m ≡ n)
IsVarint-same a b x y m n p q e = StandsFor-same a b x y m n p.stands q.stands e

pub Begins-same : (bytes : List ℕ) (m n : ℕ) (x y : List ℕ) → Begins IsVarint bytes m x → Begins IsVarint bytes n y → (m ≡ n) × (x ≡ y)
Begins-same bytes m n x y p q =
    let e : p.front ++ x ≡ q.front ++ y = cc (p.parts, q.parts) in
    let same = IsVarint-same p.front q.front x y m n p.spelt q.spelt e in
    (same.1, rest_same p.front q.front x y same.0 e)

pub if_none : {T : Type 0} (o : Option T) (P : Type 0) → P → IfNone o P
if_none None P h = h
if_none (Some x) P h = tt
