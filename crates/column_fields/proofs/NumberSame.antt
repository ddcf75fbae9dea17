-- Numbers of a type and of one count have bytes of their own.
use Rattle.std.proofs.Common.{◌≡◌, ℕ, ◌*◌, ◌%◌, ◌^◌, ◌<◌, List, [], ◌∷◌, length, ℤ, pos, negsuc, refl, sym, ap, ◌∙◌, arith}
use Rattle.std.specs.List.{flat_map, AllByRecursion}
use Rattle.std.specs.Int.{Width, w8, w16, w32, w64, FitsUnsigned, cast_unsigned, cast_signed, to_le_bytes, from_le_bytes}
use mir.Val.{bits}
use Rattle.std.specs.Int.RustNames.{FitsSigned}
use Rattle.std.proofs.lemmas.Int.{ints, to_z-of_z}
use Rattle.std.proofs.lemmas.List.{length-append}
use Rattle.std.proofs.lemmas.Nat.{from_le_bytes-to_le_bytes_2, from_le_bytes-to_le_bytes_4, from_le_bytes-to_le_bytes_8}
use Rattle.std.proofs.Math.Nat.{add-mul}
use Rattle.column_base.specs.declared.dtype.PType.{PType}
use Rattle.column_base.specs.declared.dtype.PType.TheVariants.{U8, U16, U32, U64, I8, I16, I32, I64}
use Rattle.column_base.specs.Types.{HasNumber}
use Rattle.column_fields.specs.NumberBytes.{size_of, number_bytes, numbers_bytes}
use Rattle.column_fields.proofs.FieldLaws.{content_same}

pub length-number_bytes : (t : PType) (n : ℤ) → length (number_bytes t n) ≡ size_of t
length-number_bytes U8 n = refl
length-number_bytes U16 n = refl
length-number_bytes U32 n = refl
length-number_bytes U64 n = refl
length-number_bytes I8 n = refl
length-number_bytes I16 n = refl
length-number_bytes I32 n = refl
length-number_bytes I64 n = refl

pub length-numbers_bytes : (t : PType) (ns : List ℤ) → length (numbers_bytes t ns) ≡ length ns * size_of t
unfolding numbers_bytes
length-numbers_bytes t [] = sym (omega arith)
length-numbers_bytes t (n ∷ ns) = omega (arith, length-append (number_bytes t n) (flat_map (number_bytes t) ns), length-number_bytes t n, length-numbers_bytes t ns, add-mul 1 (length ns) (size_of t))

bytes_same_16 : (m n : ℕ) → m < 2 ^ 16 → n < 2 ^ 16 → to_le_bytes w16 m ≡ to_le_bytes w16 n → m ≡ n
bytes_same_16 m n p q e = sym (from_le_bytes-to_le_bytes_2 m p) ∙ ap (from_le_bytes w16) e ∙ from_le_bytes-to_le_bytes_2 n q

bytes_same_32 : (m n : ℕ) → m < 2 ^ 32 → n < 2 ^ 32 → to_le_bytes w32 m ≡ to_le_bytes w32 n → m ≡ n
bytes_same_32 m n p q e = sym (from_le_bytes-to_le_bytes_4 m p) ∙ ap (from_le_bytes w32) e ∙ from_le_bytes-to_le_bytes_4 n q

bytes_same_64 : (m n : ℕ) → m < 2 ^ 64 → n < 2 ^ 64 → to_le_bytes w64 m ≡ to_le_bytes w64 n → m ≡ n
bytes_same_64 m n p q e = sym (from_le_bytes-to_le_bytes_8 m p) ∙ ap (from_le_bytes w64) e ∙ from_le_bytes-to_le_bytes_8 n q

one_same : (a b : ℕ) → a ∷ [] ≡ b ∷ [] → a ≡ b
one_same a b e = cc

bytes_same_8 : (m n : ℕ) → m < 2 ^ 8 → n < 2 ^ 8 → to_le_bytes w8 m ≡ to_le_bytes w8 n → m ≡ n
bytes_same_8 m n p q e = omega (arith, one_same (m % 256) (n % 256) e)

unsigned_is : (w : Width) (z : ℤ) → FitsUnsigned w z → (z ≡ pos (cast_unsigned w z)) × (cast_unsigned w z < 2 ^ bits w)
unsigned_is w (pos n) h = (refl, omega (arith, ints, h.1))
unsigned_is w (negsuc n) h = absurd (omega (arith, ints, h.0))

below_8 : (z : ℤ) → FitsSigned w8 z → cast_unsigned w8 z < 2 ^ 8
below_8 z h = omega (arith, ints)

below_16 : (z : ℤ) → FitsSigned w16 z → cast_unsigned w16 z < 2 ^ 16
below_16 z h = omega (arith, ints)

below_32 : (z : ℤ) → FitsSigned w32 z → cast_unsigned w32 z < 2 ^ 32
below_32 z h = omega (arith, ints)

below_64 : (z : ℤ) → FitsSigned w64 z → cast_unsigned w64 z < 2 ^ 64
below_64 z h = omega (arith, ints)

pub number_same : (t : PType) (n m : ℤ) → HasNumber t n → HasNumber t m → number_bytes t n ≡ number_bytes t m → n ≡ m
number_same U8 n m p q e = let a = unsigned_is w8 n p in let b = unsigned_is w8 m q in a.0 ∙ ap pos (bytes_same_8 _ _ a.1 b.1 e) ∙ sym b.0
number_same U16 n m p q e = let a = unsigned_is w16 n p in let b = unsigned_is w16 m q in a.0 ∙ ap pos (bytes_same_16 _ _ a.1 b.1 e) ∙ sym b.0
number_same U32 n m p q e = let a = unsigned_is w32 n p in let b = unsigned_is w32 m q in a.0 ∙ ap pos (bytes_same_32 _ _ a.1 b.1 e) ∙ sym b.0
number_same U64 n m p q e = let a = unsigned_is w64 n p in let b = unsigned_is w64 m q in a.0 ∙ ap pos (bytes_same_64 _ _ a.1 b.1 e) ∙ sym b.0
number_same I8 n m p q e = sym (to_z-of_z w8 n p) ∙ ap (cast_signed w8) (bytes_same_8 (cast_unsigned w8 n) (cast_unsigned w8 m) (below_8 n p) (below_8 m q) e) ∙ to_z-of_z w8 m q
number_same I16 n m p q e = sym (to_z-of_z w16 n p) ∙ ap (cast_signed w16) (bytes_same_16 (cast_unsigned w16 n) (cast_unsigned w16 m) (below_16 n p) (below_16 m q) e) ∙ to_z-of_z w16 m q
number_same I32 n m p q e = sym (to_z-of_z w32 n p) ∙ ap (cast_signed w32) (bytes_same_32 (cast_unsigned w32 n) (cast_unsigned w32 m) (below_32 n p) (below_32 m q) e) ∙ to_z-of_z w32 m q
number_same I64 n m p q e = sym (to_z-of_z w64 n p) ∙ ap (cast_signed w64) (bytes_same_64 (cast_unsigned w64 n) (cast_unsigned w64 m) (below_64 n p) (below_64 m q) e) ∙ to_z-of_z w64 m q

pub numbers_same : (t : PType) (ns ms : List ℤ) → AllByRecursion (λ n. HasNumber t n) ns → AllByRecursion (λ n. HasNumber t n) ms → length ns ≡ length ms → numbers_bytes t ns ≡ numbers_bytes t ms → ns ≡ ms
unfolding numbers_bytes
numbers_same t [] [] p q len e = refl
numbers_same t [] (m ∷ ms) p q len e = absurd (omega arith)
numbers_same t (n ∷ ns) [] p q len e = absurd (omega arith)
numbers_same t (n ∷ ns) (m ∷ ms) p q len e =
    let s = content_same (number_bytes t n) (number_bytes t m) (flat_map (number_bytes t) ns) (flat_map (number_bytes t) ms) (length-number_bytes t n ∙ sym (length-number_bytes t m)) e in
    ap (λ (x : ℤ). x ∷ ns) (number_same t n m p.0 q.0 s.0) ∙ ap (λ (xs : List ℤ). m ∷ xs) (numbers_same t ns ms p.1 q.1 (omega arith) s.1)
