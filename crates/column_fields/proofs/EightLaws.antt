-- Eight numbers at once have the bytes of each, one after another.
use Rattle.std.proofs.Common.{◌≡◌, ℕ, suc, ◌%◌, ◌<◌, ℤ, pos, List, [], ◌∷◌, ◌++◌, length, map, get_or, take, drop, refl, sym, ap, ◌∙◌, arith}
use Rattle.std.specs.List.{flat_map, All}
use Rattle.std.specs.Int.{w8, w64, cast_unsigned, to_le_bytes}
use Rattle.std.specs.Int.RustNames.{FitsSigned}
use Rattle.std.proofs.lemmas.Int.{ints}
use Rattle.std.proofs.lemmas.List.{take-append-drop}
use Rattle.std.proofs.lemmas.List.Elements.{All-nil, All-cons, All-same, All-from_recursion}
use Rattle.column_base.specs.declared.dtype.PType.{PType}
use Rattle.column_base.specs.declared.dtype.PType.TheVariants.{U8, U64, I8}
use Rattle.column_fields.specs.BitBytes.{words_bytes}
use Rattle.column_fields.specs.NumberBytes.{number_bytes, numbers_bytes}

pub eight_of : {X : Type 0} (d : X) (xs : List X) → length xs ≡ 8
    → xs ≡ get_or xs 0 d ∷ get_or xs 1 d ∷ get_or xs 2 d ∷ get_or xs 3 d ∷ get_or xs 4 d ∷ get_or xs 5 d ∷ get_or xs 6 d ∷ get_or xs 7 d ∷ []
eight_of d [] e = absurd (omega (arith, e))
eight_of d (a ∷ []) e = absurd (omega (arith, e))
eight_of d (a ∷ b ∷ []) e = absurd (omega (arith, e))
eight_of d (a ∷ b ∷ c ∷ []) e = absurd (omega (arith, e))
eight_of d (a ∷ b ∷ c ∷ f ∷ []) e = absurd (omega (arith, e))
eight_of d (a ∷ b ∷ c ∷ f ∷ g ∷ []) e = absurd (omega (arith, e))
eight_of d (a ∷ b ∷ c ∷ f ∷ g ∷ h ∷ []) e = absurd (omega (arith, e))
eight_of d (a ∷ b ∷ c ∷ f ∷ g ∷ h ∷ k ∷ []) e = absurd (omega (arith, e))
eight_of d (a ∷ b ∷ c ∷ f ∷ g ∷ h ∷ k ∷ m ∷ []) e = refl
eight_of d (a ∷ b ∷ c ∷ f ∷ g ∷ h ∷ k ∷ m ∷ n ∷ xs) e = absurd (omega (arith, e))

pub eight_bytes : {X : Type 0} (f : X → List ℕ) (d : X) (xs : List X) (b0 b1 b2 b3 b4 b5 b6 b7 : List ℕ) → length xs ≡ 8
    → b0 ≡ f (get_or xs 0 d) → b1 ≡ f (get_or xs 1 d) → b2 ≡ f (get_or xs 2 d) → b3 ≡ f (get_or xs 3 d) → b4 ≡ f (get_or xs 4 d) → b5 ≡ f (get_or xs 5 d) → b6 ≡ f (get_or xs 6 d) → b7 ≡ f (get_or xs 7 d)
    → flat_map (λ (b : List ℕ). b) (b0 ∷ b1 ∷ b2 ∷ b3 ∷ b4 ∷ b5 ∷ b6 ∷ b7 ∷ []) ≡ flat_map f xs
eight_bytes f d xs b0 b1 b2 b3 b4 b5 b6 b7 len e0 e1 e2 e3 e4 e5 e6 e7 =
    (λ i. flat_map (λ (b : List ℕ). b) (e0 i ∷ e1 i ∷ e2 i ∷ e3 i ∷ e4 i ∷ e5 i ∷ e6 i ∷ e7 i ∷ [])) ∙ ap (flat_map f) (sym (eight_of d xs len))

mapped_bytes : {X : Type 0} (t : PType) (h : X → ℤ) (f : X → List ℕ) → ((x : X) → f x ≡ number_bytes t (h x)) → (xs : List X) → flat_map f xs ≡ numbers_bytes t (map h xs)
unfolding numbers_bytes
mapped_bytes t h f same [] = refl
mapped_bytes t h f same (x ∷ xs) = ap (λ (b : List ℕ). b ++ flat_map f xs) (same x) ∙ ap (λ (b : List ℕ). number_bytes t (h x) ++ b) (mapped_bytes t h f same xs)

pub eight_put : {X : Type 0} (t : PType) (h : X → ℤ) (f : X → List ℕ) (d : X) (xs : List X) (out new flat b0 b1 b2 b3 b4 b5 b6 b7 : List ℕ) → ((x : X) → f x ≡ number_bytes t (h x)) → length xs ≡ 8
    → b0 ≡ f (get_or xs 0 d) → b1 ≡ f (get_or xs 1 d) → b2 ≡ f (get_or xs 2 d) → b3 ≡ f (get_or xs 3 d) → b4 ≡ f (get_or xs 4 d) → b5 ≡ f (get_or xs 5 d) → b6 ≡ f (get_or xs 6 d) → b7 ≡ f (get_or xs 7 d)
    → flat ≡ flat_map (λ (b : List ℕ). b) (b0 ∷ b1 ∷ b2 ∷ b3 ∷ b4 ∷ b5 ∷ b6 ∷ b7 ∷ []) → new ≡ out ++ flat → new ≡ out ++ numbers_bytes t (map h xs)
eight_put t h f d xs out new flat b0 b1 b2 b3 b4 b5 b6 b7 same len e0 e1 e2 e3 e4 e5 e6 e7 joined put =
    put ∙ ap (λ (b : List ℕ). out ++ b) (joined ∙ eight_bytes f d xs b0 b1 b2 b3 b4 b5 b6 b7 len e0 e1 e2 e3 e4 e5 e6 e7 ∙ mapped_bytes t h f same xs)

-- words are numbers of 64 bits
pub words_numbers : (ws : List ℕ) → numbers_bytes U64 (map (λ n. pos n) ws) ≡ words_bytes ws
unfolding words_bytes
words_numbers ws = sym (mapped_bytes U64 (λ n. pos n) (to_le_bytes w64) (λ x. refl) ws)

pub all_mapped : {X : Type 0} (P : ℤ → Type 0) (h : X → ℤ) (d : X) (xs : List X) → ((i : ℕ) → i < length xs → P (h (get_or xs i d))) → All P (map h xs)
all_mapped P h d [] each = All-nil P
all_mapped P h d (x ∷ xs) each = All-cons P (h x) (map h xs) (each 0 (omega arith)) (all_mapped P h d xs (λ i lt. each (suc i) (omega (arith, lt))))

-- numbers of one byte are their bytes
pub u8_bytes : (xs : List ℕ) → ((i : ℕ) → get_or xs i 0 < 256) → xs ≡ numbers_bytes U8 (map (λ n. pos n) xs)
unfolding numbers_bytes
u8_bytes [] small = refl
u8_bytes (x ∷ xs) small =
    let whole : x ≡ x % 256 = omega (arith, small 0) in
    ap (λ (y : ℕ). y ∷ xs) whole ∙ ap (λ (ys : List ℕ). x % 256 ∷ ys) (u8_bytes xs (λ i. small (suc i)))

pub cut_items : {X : Type 0} (n : ℕ) (all front back : List X) → front ≡ take n all → back ≡ drop n all → all ≡ front ++ back
cut_items n all front back p q = sym (take-append-drop n all) ∙ ap (λ t. t ++ drop n all) (sym p) ∙ ap (λ t. front ++ t) (sym q)

pub i8_bytes : (z : ℤ) → FitsSigned w8 z → cast_unsigned w8 z ∷ [] ≡ number_bytes I8 z
i8_bytes z fits =
    let small : cast_unsigned w8 z < 256 = omega (arith, ints) in
    let whole : cast_unsigned w8 z ≡ cast_unsigned w8 z % 256 = omega (arith, small) in
    ap (λ (x : ℕ). x ∷ []) whole

pub eight_all : {X : Type 0} (P : ℤ → Type 0) (h : X → ℤ) (d : X) (xs : List X) → length xs ≡ 8
    → P (h (get_or xs 0 d)) → P (h (get_or xs 1 d)) → P (h (get_or xs 2 d)) → P (h (get_or xs 3 d)) → P (h (get_or xs 4 d)) → P (h (get_or xs 5 d)) → P (h (get_or xs 6 d)) → P (h (get_or xs 7 d)) → All P (map h xs)
eight_all P h d xs len p0 p1 p2 p3 p4 p5 p6 p7 =
    All-same P _ _ (ap (map h) (eight_of d xs len))
    (All-from_recursion P (h (get_or xs 0 d) ∷ h (get_or xs 1 d) ∷ h (get_or xs 2 d) ∷ h (get_or xs 3 d) ∷ h (get_or xs 4 d) ∷ h (get_or xs 5 d) ∷ h (get_or xs 6 d) ∷ h (get_or xs 7 d) ∷ []) (p0, (p1, (p2, (p3, (p4, (p5, (p6, (p7, tt)))))))))
