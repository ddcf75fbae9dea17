-- Constants that are written out as copies.
use Rattle.std.proofs.Common.{◌≡◌, ◌↔◌, ℕ, ◌<◌, arith, length, zero, suc, List, [], ◌∷◌, true, false, Bool, Option, Some, None, map, replicate, refl, ap}
use Rattle.std.specs.List.{All}
use Rattle.std.specs.Option.{option_map}
use Rattle.std.proofs.lemmas.List.{length-replicate}
use Rattle.column_base.specs.declared.dtype.Nullability.{Nullability}
use Rattle.column_base.specs.declared.dtype.Nullability.TheVariants.{NonNullable, Nullable}
use Rattle.column_base.specs.ValidityForm.{ValidityForm, HasLength, AllNull, IsNormal, flags, nullability_in}
use Rattle.column_core.specs.Value.{FlatValue, Value, Single, MayBeNull}
use Rattle.column_core.specs.Optionals.{optionals, AreBlankAtNulls}
use Rattle.column_core.specs.Computed.{without_nulls, AreWrittenOut, HasRowIfAllNull}
use Rattle.runend_windows.proofs.DecodedItems.{rows_of}

-- copies, none of them null
rows-of_copies : {B : Type 0} (value : B → FlatValue) (n : ℕ) (x : B) → map (option_map Single) (map (option_map value) (optionals (replicate n x) (replicate n true))) ≡ replicate n (Some (Single (value x)))
rows-of_copies value zero x = refl
rows-of_copies value (suc n) x = ap (λ (rows : List (Option Value)). Some (Single (value x)) ∷ rows) (rows-of_copies value n x)

-- copies, all of them null
rows-of_nulls : {B : Type 0} (value : B → FlatValue) (n : ℕ) (x : B) → map (option_map Single) (map (option_map value) (optionals (replicate n x) (replicate n false))) ≡ replicate n None
rows-of_nulls value zero x = refl
rows-of_nulls value (suc n) x = ap (λ (rows : List (Option Value)). None ∷ rows) (rows-of_nulls value n x)

-- the blank item is stored under null where it is stored everywhere, and where no row is null
blanked-of_nulls : {B : Type 0} (blank : B) (n : ℕ) (bits : List Bool) → AreBlankAtNulls blank (replicate n blank) bits
blanked-of_nulls blank zero bits = tt
blanked-of_nulls blank (suc n) [] = tt
blanked-of_nulls blank (suc n) (b ∷ bits) = ((λ _. refl), blanked-of_nulls blank n bits)

blanked-of_copies : {B : Type 0} (blank : B) (n : ℕ) (x : B) → AreBlankAtNulls blank (replicate n x) (replicate n true)
blanked-of_copies blank zero x = tt
blanked-of_copies blank (suc n) x = ((λ (e : true ≡ false). cc), blanked-of_copies blank n x)

-- a validity without null, of that nullability
pub flags-without_nulls : (nullability : Nullability) (n : ℕ) → flags (without_nulls nullability) n ≡ replicate n true
flags-without_nulls NonNullable n = refl
flags-without_nulls Nullable n = refl

pub nullability-without_nulls : (nullability : Nullability) → nullability_in (without_nulls nullability) ≡ nullability
nullability-without_nulls NonNullable = refl
nullability-without_nulls Nullable = refl

pub normal-without_nulls : (nullability : Nullability) → IsNormal (without_nulls nullability)
normal-without_nulls NonNullable = tt
normal-without_nulls Nullable = tt

pub some-without_nulls : (nullability : Nullability) (n : ℕ) → HasRowIfAllNull (without_nulls nullability) n
some-without_nulls NonNullable n = λ null. cc
some-without_nulls Nullable n = λ null. cc

-- rows with bits are all null only where there is a row
pub some-of_bits : (form : ValidityForm) (bits : List Bool) (count : ℕ) → length bits ≡ count → (form ≡ AllNull) ↔ ((0 < length bits) × All (λ bit. bit ≡ false) bits) → HasRowIfAllNull form count
some-of_bits form bits count counted all_null null = let some = (all_null.0 null).0 in omega arith

pub fits-without_nulls : (nullability : Nullability) (n : ℕ) → HasLength (without_nulls nullability) n
fits-without_nulls NonNullable n = tt
fits-without_nulls Nullable n = tt

pub nullable : (nullability : Nullability) → MayBeNull nullability → nullability ≡ Nullable
nullable NonNullable may = absurd may
nullable Nullable may = refl

-- null, written out
pub rows-written_null : {B : Type 0} (value : B → FlatValue) (n : ℕ) (x : B) → map (option_map Single) (rows_of value (replicate n x) AllNull) ≡ replicate n None
rows-written_null value n x = rw (length-replicate n x) (rows-of_nulls value n x)

pub computed-written_null : {B : Type 0} (blank : B) (n : ℕ) → AreWrittenOut blank (replicate n blank) AllNull
computed-written_null blank n = record { blanked = blanked-of_nulls blank n _; normal = tt }

-- a value, written out
pub rows-written : {B : Type 0} (value : B → FlatValue) (n : ℕ) (x : B) (nullability : Nullability) → map (option_map Single) (rows_of value (replicate n x) (without_nulls nullability)) ≡ replicate n (Some (Single (value x)))
rows-written value n x nullability = rw (length-replicate n x, flags-without_nulls nullability n) (rows-of_copies value n x)

pub computed-written : {B : Type 0} (blank : B) (n : ℕ) (x : B) (nullability : Nullability) → AreWrittenOut blank (replicate n x) (without_nulls nullability)
computed-written blank n x nullability = record {
  blanked = rw (length-replicate n x, flags-without_nulls nullability n) (blanked-of_copies blank n x);
  normal = normal-without_nulls nullability;
}
