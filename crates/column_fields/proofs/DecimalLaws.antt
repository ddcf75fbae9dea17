-- Decimals are read as they are written, and in no other way.
use Rattle.std.proofs.Common.{◌≡◌, ℕ, ◌+◌, ◌*◌, ◌/◌, ◌%◌, ◌^◌, ◌<◌, List, [], ◌∷◌, ◌++◌, length, take, drop, get_or, ℤ, pos, refl, sym, ap, ◌∙◌, arith, append_assoc}
use Rattle.std.specs.List.{flat_map, All, AllByRecursion}
use Rattle.std.specs.Int.{w64, w128, cast_unsigned, cast_signed, to_le_bytes, from_le_bytes}
use Rattle.std.specs.Int.RustNames.{FitsSigned}
use Rattle.std.proofs.lemmas.Int.{ints, to_z-of_z, of_z-to_z}
use Rattle.std.proofs.lemmas.List.{append-nil, length-append}
use Rattle.std.proofs.lemmas.List.Elements.{All-same, All-from_recursion}
use Rattle.std.proofs.lemmas.List.Concat.{flat_map-append}
use Rattle.std.proofs.lemmas.Nat.{from_le_bytes-to_le_bytes_8}
use Rattle.std.proofs.Math.Nat.{div-div-eq-div-mul}
use Rattle.column_fields.specs.DecimalBytes.{decimal_bytes, decimals_bytes}
use Rattle.column_fields.proofs.FieldLaws.{cut, content_same}

-- the lower half of 16 bytes, and the upper half
halves : (n : ℕ) → to_le_bytes w128 n ≡ to_le_bytes w64 (n % 2 ^ 64) ++ to_le_bytes w64 (n / 2 ^ 64)
halves n =
    let a : n % 256 ≡ n % 18446744073709551616 % 256 = omega arith in
    let b : n / 256 % 256 ≡ n % 18446744073709551616 / 256 % 256 = omega arith in
    let c : n / 65536 % 256 ≡ n % 18446744073709551616 / 65536 % 256 = omega arith in
    let d : n / 16777216 % 256 ≡ n % 18446744073709551616 / 16777216 % 256 = omega arith in
    let e : n / 4294967296 % 256 ≡ n % 18446744073709551616 / 4294967296 % 256 = omega arith in
    let f : n / 1099511627776 % 256 ≡ n % 18446744073709551616 / 1099511627776 % 256 = omega arith in
    let g : n / 281474976710656 % 256 ≡ n % 18446744073709551616 / 281474976710656 % 256 = omega arith in
    let h : n / 72057594037927936 % 256 ≡ n % 18446744073709551616 / 72057594037927936 % 256 = omega arith in
    let q : n / 4722366482869645213696 % 256 ≡ n / 18446744073709551616 / 256 % 256 = omega (arith, div-div-eq-div-mul n 18446744073709551616 256) in
    let r : n / 1208925819614629174706176 % 256 ≡ n / 18446744073709551616 / 65536 % 256 = omega (arith, div-div-eq-div-mul n 18446744073709551616 65536) in
    let s : n / 309485009821345068724781056 % 256 ≡ n / 18446744073709551616 / 16777216 % 256 = omega (arith, div-div-eq-div-mul n 18446744073709551616 16777216) in
    let t : n / 79228162514264337593543950336 % 256 ≡ n / 18446744073709551616 / 4294967296 % 256 = omega (arith, div-div-eq-div-mul n 18446744073709551616 4294967296) in
    let u : n / 20282409603651670423947251286016 % 256 ≡ n / 18446744073709551616 / 1099511627776 % 256 = omega (arith, div-div-eq-div-mul n 18446744073709551616 1099511627776) in
    let v : n / 5192296858534827628530496329220096 % 256 ≡ n / 18446744073709551616 / 281474976710656 % 256 = omega (arith, div-div-eq-div-mul n 18446744073709551616 281474976710656) in
    let w : n / 1329227995784915872903807060280344576 % 256 ≡ n / 18446744073709551616 / 72057594037927936 % 256 = omega (arith, div-div-eq-div-mul n 18446744073709551616 72057594037927936) in
    λ i. a i ∷ b i ∷ c i ∷ d i ∷ e i ∷ f i ∷ g i ∷ h i ∷ n / 18446744073709551616 % 256 ∷ q i ∷ r i ∷ s i ∷ t i ∷ u i ∷ v i ∷ w i ∷ []

words_same : (m n : ℕ) → m < 2 ^ 64 → n < 2 ^ 64 → to_le_bytes w64 m ≡ to_le_bytes w64 n → m ≡ n
words_same m n p q e = sym (from_le_bytes-to_le_bytes_8 m p) ∙ ap (from_le_bytes w64) e ∙ from_le_bytes-to_le_bytes_8 n q

bytes_same : (m n : ℕ) → m < 2 ^ 128 → n < 2 ^ 128 → to_le_bytes w128 m ≡ to_le_bytes w128 n → m ≡ n
bytes_same m n p q e =
    let s = content_same (to_le_bytes w64 (m % 2 ^ 64)) (to_le_bytes w64 (n % 2 ^ 64)) (to_le_bytes w64 (m / 2 ^ 64)) (to_le_bytes w64 (n / 2 ^ 64)) refl (sym (halves m) ∙ e ∙ halves n) in
    let low : m % 2 ^ 64 ≡ n % 2 ^ 64 = words_same (m % 2 ^ 64) (n % 2 ^ 64) (omega arith) (omega arith) s.0 in
    let high : m / 2 ^ 64 ≡ n / 2 ^ 64 = words_same (m / 2 ^ 64) (n / 2 ^ 64) (omega arith) (omega arith) s.1 in
    omega (arith, low, high)

below : (z : ℤ) → FitsSigned w128 z → cast_unsigned w128 z < 2 ^ 128
below z h = omega (arith, ints)

pub decimal_same : (n m : ℤ) → FitsSigned w128 n → FitsSigned w128 m → decimal_bytes n ≡ decimal_bytes m → n ≡ m
unfolding decimal_bytes
decimal_same n m p q e =
    sym (to_z-of_z w128 n p) ∙ ap (cast_signed w128) (bytes_same (cast_unsigned w128 n) (cast_unsigned w128 m) (below n p) (below m q) e) ∙ to_z-of_z w128 m q

pub length-decimal_bytes : (n : ℤ) → length (decimal_bytes n) ≡ 16
unfolding decimal_bytes
length-decimal_bytes n = refl

pub length-decimals_bytes : (ns : List ℤ) → length (decimals_bytes ns) ≡ length ns * 16
unfolding decimals_bytes
length-decimals_bytes [] = refl
length-decimals_bytes (n ∷ ns) = omega (arith, length-append (decimal_bytes n) (flat_map decimal_bytes ns), length-decimal_bytes n, length-decimals_bytes ns)

pub decimal_numbers_same : (ns ms : List ℤ) → AllByRecursion (λ n. FitsSigned w128 n) ns → AllByRecursion (λ n. FitsSigned w128 n) ms → length ns ≡ length ms → decimals_bytes ns ≡ decimals_bytes ms → ns ≡ ms
unfolding decimals_bytes
decimal_numbers_same [] [] p q len e = refl
decimal_numbers_same [] (m ∷ ms) p q len e = absurd (omega arith)
decimal_numbers_same (n ∷ ns) [] p q len e = absurd (omega arith)
decimal_numbers_same (n ∷ ns) (m ∷ ms) p q len e =
    let s = content_same (decimal_bytes n) (decimal_bytes m) (flat_map decimal_bytes ns) (flat_map decimal_bytes ms) (length-decimal_bytes n ∙ sym (length-decimal_bytes m)) e in
    ap (λ (x : ℤ). x ∷ ns) (decimal_same n m p.0 q.0 s.0) ∙ ap (λ (xs : List ℤ). m ∷ xs) (decimal_numbers_same ns ms p.1 q.1 (omega arith) s.1)

-- ---- one decimal

pub of_words : (low high u : ℕ) (z : ℤ) (first second bytes : List ℕ) → low < 2 ^ 64 → high < 2 ^ 64 → u ≡ high * 2 ^ 64 + low → z ≡ cast_signed w128 u → to_le_bytes w64 low ≡ first → to_le_bytes w64 high ≡ second → first ≡ take 8 bytes → second ≡ drop 8 bytes → decimal_bytes z ≡ bytes
unfolding decimal_bytes
of_words low high u z first second bytes l h is z-is a b f s =
    let back : cast_unsigned w128 z ≡ u = ap (cast_unsigned w128) z-is ∙ of_z-to_z w128 u (omega (arith, is)) in
    let lower : u % 2 ^ 64 ≡ low = omega (arith, is) in
    let upper : u / 2 ^ 64 ≡ high = omega (arith, is) in
    ap (to_le_bytes w128) back ∙ halves u ∙ ap (λ (n : ℕ). to_le_bytes w64 n ++ to_le_bytes w64 (u / 2 ^ 64)) lower ∙ ap (λ (n : ℕ). to_le_bytes w64 low ++ to_le_bytes w64 n) upper ∙ ap (λ (x : List ℕ). x ++ to_le_bytes w64 high) a ∙ ap (λ (x : List ℕ). first ++ x) b ∙ sym (cut 8 bytes first second f s)

-- a number that is given by its bits
pub signed_again : (low high u : ℕ) (z : ℤ) → low < 2 ^ 64 → high < 2 ^ 64 → u ≡ high * 2 ^ 64 + low → z ≡ cast_signed w128 u → cast_signed w128 (cast_unsigned w128 z) ≡ cast_signed w128 u
signed_again low high u z l h is e = ap (λ (x : ℤ). cast_signed w128 (cast_unsigned w128 x)) e ∙ ap (cast_signed w128) (of_z-to_z w128 u (omega (arith, is)))

-- ---- one after another

pub decimals_none : decimals_bytes [] ≡ []
unfolding decimals_bytes
decimals_none = refl

decimals_more : (ns : List ℤ) (n : ℤ) → decimals_bytes (ns ++ n ∷ []) ≡ decimals_bytes ns ++ decimal_bytes n
unfolding decimals_bytes
decimals_more ns n = flat_map-append decimal_bytes ns (n ∷ []) ∙ ap (λ (b : List ℕ). flat_map decimal_bytes ns ++ b) (append-nil (decimal_bytes n))

pub put_step : (old out new : List ℕ) (front all : List ℤ) (n : ℤ) → out ≡ old ++ decimals_bytes front → new ≡ out ++ decimal_bytes n → all ≡ front ++ n ∷ [] → new ≡ old ++ decimals_bytes all
put_step old out new front all n o e a =
    e ∙ ap (λ (b : List ℕ). b ++ decimal_bytes n) o ∙ append_assoc old (decimals_bytes front) (decimal_bytes n) ∙ ap (λ (b : List ℕ). old ++ b) (sym (decimals_more front n) ∙ ap decimals_bytes (sym a))

decimals_append : (ns ms : List ℤ) → decimals_bytes (ns ++ ms) ≡ decimals_bytes ns ++ decimals_bytes ms
unfolding decimals_bytes
decimals_append ns ms = flat_map-append decimal_bytes ns ms

-- what is in front is written, and what comes after it is still to be written
pub put_front_step : (old out new : List ℕ) (all left front after : List ℤ) → out ++ decimals_bytes left ≡ old ++ decimals_bytes all → new ≡ out ++ decimals_bytes front → left ≡ front ++ after → new ++ decimals_bytes after ≡ old ++ decimals_bytes all
put_front_step old out new all left front after h e parts =
    ap (λ (b : List ℕ). b ++ decimals_bytes after) e ∙ append_assoc out (decimals_bytes front) (decimals_bytes after)
    ∙ ap (λ (b : List ℕ). out ++ b) (sym (decimals_append front after) ∙ ap decimals_bytes (sym parts)) ∙ h

four_of : (ns : List ℤ) → length ns ≡ 4 → ns ≡ get_or ns 0 (pos 0) ∷ get_or ns 1 (pos 0) ∷ get_or ns 2 (pos 0) ∷ get_or ns 3 (pos 0) ∷ []
four_of [] e = absurd (omega (arith, e))
four_of (a ∷ []) e = absurd (omega (arith, e))
four_of (a ∷ b ∷ []) e = absurd (omega (arith, e))
four_of (a ∷ b ∷ c ∷ []) e = absurd (omega (arith, e))
four_of (a ∷ b ∷ c ∷ d ∷ []) e = refl
four_of (a ∷ b ∷ c ∷ d ∷ n ∷ ns) e = absurd (omega (arith, e))

pub four_all : (P : ℤ → Type 0) (ns : List ℤ) → length ns ≡ 4 → P (get_or ns 0 (pos 0)) → P (get_or ns 1 (pos 0)) → P (get_or ns 2 (pos 0)) → P (get_or ns 3 (pos 0)) → All P ns
four_all P ns len p0 p1 p2 p3 = All-same P _ _ (four_of ns len) (All-from_recursion P (get_or ns 0 (pos 0) ∷ get_or ns 1 (pos 0) ∷ get_or ns 2 (pos 0) ∷ get_or ns 3 (pos 0) ∷ []) (p0, (p1, (p2, (p3, tt)))))

pair_bytes : (b c t u d : List ℕ) → b ++ c ≡ d → t ≡ u → b ++ (c ++ t) ≡ d ++ u
pair_bytes b c t u d p q = sym (append_assoc b c t) ∙ ap (λ (x : List ℕ). x ++ t) p ∙ ap (λ (x : List ℕ). d ++ x) q

pub pairs_shown : (low high : ℕ) (b c d : List ℕ) → b ≡ to_le_bytes w64 low → c ≡ to_le_bytes w64 high → to_le_bytes w64 low ++ to_le_bytes w64 high ≡ d → b ++ c ≡ d
pairs_shown low high b c d p q e = ap (λ (x : List ℕ). x ++ c) p ∙ ap (λ (x : List ℕ). to_le_bytes w64 low ++ x) q ∙ e

pub two_put : (n : ℤ) (out new flat b0 b1 : List ℕ) → b0 ++ b1 ≡ decimal_bytes n → flat ≡ flat_map (λ (b : List ℕ). b) (b0 ∷ b1 ∷ []) → new ≡ out ++ flat → new ≡ out ++ decimal_bytes n
two_put n out new flat b0 b1 p joined put = put ∙ ap (λ (b : List ℕ). out ++ b) (joined ∙ pair_bytes b0 b1 [] [] (decimal_bytes n) p refl ∙ append-nil (decimal_bytes n))

pub four_put : (ns : List ℤ) (out new flat b0 b1 b2 b3 b4 b5 b6 b7 : List ℕ) → length ns ≡ 4
    → b0 ++ b1 ≡ decimal_bytes (get_or ns 0 (pos 0)) → b2 ++ b3 ≡ decimal_bytes (get_or ns 1 (pos 0)) → b4 ++ b5 ≡ decimal_bytes (get_or ns 2 (pos 0)) → b6 ++ b7 ≡ decimal_bytes (get_or ns 3 (pos 0))
    → flat ≡ flat_map (λ (b : List ℕ). b) (b0 ∷ b1 ∷ b2 ∷ b3 ∷ b4 ∷ b5 ∷ b6 ∷ b7 ∷ []) → new ≡ out ++ flat → new ≡ out ++ decimals_bytes ns
unfolding decimals_bytes
four_put ns out new flat b0 b1 b2 b3 b4 b5 b6 b7 len p0 p1 p2 p3 joined put =
    put ∙ ap (λ (b : List ℕ). out ++ b) (joined ∙ pair_bytes b0 b1 _ _ _ p0 (pair_bytes b2 b3 _ _ _ p1 (pair_bytes b4 b5 _ _ _ p2 (pair_bytes b6 b7 [] [] _ p3 refl))) ∙ ap (flat_map decimal_bytes) (sym (four_of ns len)))

pub words_shown : (n : ℤ) (u low high : ℕ) → u ≡ cast_unsigned w128 n → low ≡ u % 18446744073709551616 → high ≡ u / 18446744073709551616 → to_le_bytes w64 low ++ to_le_bytes w64 high ≡ decimal_bytes n
unfolding decimal_bytes
words_shown n u low high is l h =
    ap (λ (x : ℕ). to_le_bytes w64 x ++ to_le_bytes w64 high) l ∙ ap (λ (x : ℕ). to_le_bytes w64 (u % 18446744073709551616) ++ to_le_bytes w64 x) h ∙ sym (halves u) ∙ ap (to_le_bytes w128) is

pub load_step : (bytes rest first back : List ℕ) (front all : List ℤ) (n : ℤ) → decimals_bytes front ++ rest ≡ bytes → first ≡ take 16 rest → back ≡ drop 16 rest → decimal_bytes n ≡ first → all ≡ front ++ n ∷ [] → decimals_bytes all ++ back ≡ bytes
load_step bytes rest first back front all n b f k e a =
    ap (λ (ns : List ℤ). decimals_bytes ns ++ back) a ∙ ap (λ (x : List ℕ). x ++ back) (decimals_more front n) ∙ append_assoc (decimals_bytes front) (decimal_bytes n) back
    ∙ ap (λ (x : List ℕ). decimals_bytes front ++ (x ++ back)) e ∙ ap (λ (x : List ℕ). decimals_bytes front ++ x) (sym (cut 16 rest first back f k)) ∙ b
