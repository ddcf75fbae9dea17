-- Lemmas on null where rows may not be null.
use Rattle.std.proofs.Common.{◌≡◌, ◌∙◌, ◌<◌, ℤ, List, [], ◌∷◌, ◌++◌, pos, Bool, true, false, Option, Some, None, cond, length, map, replicate, refl, sym, ap, arith}
use Rattle.std.specs.Prelude.{◌&&◌, count_by, option_map, unwrap_or}
use Rattle.std.specs.Option.{option_or}
use Rattle.column_base.proofs.BitLists.{count_by-true}
use Rattle.column_base.specs.declared.dtype.PType.{PType}
use Rattle.column_base.specs.declared.dtype.PType.TheVariants.{U8, U16, U32, U64, I8, I16, I32, I64}
use Rattle.column_base.specs.declared.dtype.Nullability.{Nullability}
use Rattle.column_base.specs.declared.dtype.Nullability.TheVariants.{NonNullable, Nullable}
use Rattle.column_base.specs.declared.dtype.DType.TheVariants as column
use Rattle.column_base.specs.declared.error.VortexError.{VortexError}
use Rattle.column_base.specs.declared.error.VortexError.TheVariants.{NullNotAllowed}
use Rattle.column_core.specs.Optionals.{optionals}
use Rattle.column_core.specs.Value.{FlatValue, Number, Single}
use Rattle.column_ops.specs.Cast.{cast_row_fault, null_row_fault, number_fault}
use Rattle.column_ops.specs.Fault.{first_fault}
use Rattle.column_ops.proofs.IndexPositions.{neither}

-- null is not a fault where rows may be null
pub no_nulls-nullable : {B : Type 0} (rows : List (Option B)) → first_fault (null_row_fault Nullable) rows ≡ None
no_nulls-nullable [] = refl
no_nulls-nullable (None ∷ rows) = no_nulls-nullable rows
no_nulls-nullable (Some x ∷ rows) = no_nulls-nullable rows

-- nor are rows that are all valid
pub no_nulls-valid : {B : Type 0} (items : List B) → first_fault (null_row_fault NonNullable) (optionals items (replicate (length items) true)) ≡ None
no_nulls-valid [] = refl
no_nulls-valid (x ∷ items) = no_nulls-valid items

-- where one flag does not count, a row is null
pub null-found : {B : Type 0} (items : List B) (bits : List Bool) → length bits ≡ length items → count_by (λ valid. valid) bits < length items
    → first_fault (null_row_fault NonNullable) (optionals items bits) ≡ Some NullNotAllowed
null-found [] bits long few = absurd (omega arith)
null-found (x ∷ items) [] long few = cc
null-found (x ∷ items) (true ∷ bits) long few = null-found items bits (omega arith) (omega (arith, count_by-true bits))
null-found (x ∷ items) (false ∷ bits) long few = refl

-- numbers that are cast without a fault are all valid, where rows may not be null
pub valid-of_cast : (ptype : PType) (nullability : Nullability) (numbers : List ℤ) (bits : List Bool) → nullability ≡ NonNullable → length bits ≡ length numbers
    → first_fault (cast_row_fault (column.Primitive ptype nullability)) (map (option_map (λ (v : FlatValue). Single v)) (map (option_map Number) (optionals numbers bits))) ≡ None
    → bits ≡ replicate (length numbers) true
valid-of_cast ptype Nullable numbers bits wrong long sound = cc
valid-of_cast ptype NonNullable [] [] never long sound = refl
valid-of_cast ptype NonNullable [] (b ∷ bits) never long sound = cc
valid-of_cast ptype NonNullable (n ∷ numbers) [] never long sound = cc
valid-of_cast ptype NonNullable (n ∷ numbers) (true ∷ bits) never long sound =
    let rest = map (option_map (λ (v : FlatValue). Single v)) (map (option_map Number) (optionals numbers bits)) in
    let both = neither (number_fault (column.Primitive ptype NonNullable) n) (first_fault (cast_row_fault (column.Primitive ptype NonNullable)) rest) sound in
    ap (λ bs. true ∷ bs) (valid-of_cast ptype NonNullable numbers bits never (omega arith) both.1)
valid-of_cast ptype NonNullable (n ∷ numbers) (false ∷ bits) never long sound = cc

-- of numbers that are all valid, the first that the type does not have is the fault
pub faults-valid : (ptype : PType) (nullability : Nullability) (numbers : List ℤ)
    → first_fault (cast_row_fault (column.Primitive ptype nullability)) (map (option_map (λ (v : FlatValue). Single v)) (map (option_map Number) (optionals numbers (replicate (length numbers) true))))
    ≡ first_fault (number_fault (column.Primitive ptype NonNullable)) numbers
faults-valid ptype nullability [] = refl
faults-valid ptype nullability (n ∷ numbers) = ap (option_or (number_fault (column.Primitive ptype NonNullable) n)) (faults-valid ptype nullability numbers)

-- 0 is a number of each type
no_fault-zero : (ptype : PType) → number_fault (column.Primitive ptype NonNullable) (pos 0) ≡ None
no_fault-zero U8 = refl
no_fault-zero U16 = refl
no_fault-zero U32 = refl
no_fault-zero U64 = refl
no_fault-zero I8 = refl
no_fault-zero I16 = refl
no_fault-zero I32 = refl
no_fault-zero I64 = refl

-- where null may stay, the first fault is that of the numbers with 0 in place of each null
pub faults-blanked : (ptype : PType) (numbers : List ℤ) (bits : List Bool)
    → first_fault (cast_row_fault (column.Primitive ptype Nullable)) (map (option_map (λ (v : FlatValue). Single v)) (map (option_map Number) (optionals numbers bits)))
    ≡ first_fault (number_fault (column.Primitive ptype NonNullable)) (map (λ row. unwrap_or row (pos 0)) (optionals numbers bits))
faults-blanked ptype [] bits = refl
faults-blanked ptype (n ∷ numbers) [] = refl
faults-blanked ptype (n ∷ numbers) (true ∷ bits) = ap (option_or (number_fault (column.Primitive ptype NonNullable) n)) (faults-blanked ptype numbers bits)
faults-blanked ptype (n ∷ numbers) (false ∷ bits) =
    faults-blanked ptype numbers bits
    ∙ sym (ap (λ f. option_or f (first_fault (number_fault (column.Primitive ptype NonNullable)) (map (λ row. unwrap_or row (pos 0)) (optionals numbers bits)))) (no_fault-zero ptype))

or-none : (a : Option VortexError) → option_or a None ≡ a
or-none None = refl
or-none (Some error) = refl

or-or : (a b c : Option VortexError) → option_or a (option_or b c) ≡ option_or (option_or a b) c
or-or None b c = refl
or-or (Some error) b c = refl

-- the first fault of one item more
first_fault-push : {B : Type 0} (fault : B → Option VortexError) (xs : List B) (x : B) → first_fault fault (xs ++ x ∷ []) ≡ option_or (first_fault fault xs) (fault x)
first_fault-push fault [] x = or-none (fault x)
first_fault-push fault (y ∷ xs) x = ap (option_or (fault y)) (first_fault-push fault xs x) ∙ or-or (fault y) (first_fault fault xs) (fault x)

-- what a test says of items and of one more
pub first_fault-tested : {B : Type 0} (fault : B → Option VortexError) (xs : List B) (x : B) (error : VortexError) (before here : Bool)
    → first_fault fault xs ≡ cond before None (Some error) → fault x ≡ cond here None (Some error) → first_fault fault (xs ++ x ∷ []) ≡ cond (before && here) None (Some error)
first_fault-tested fault xs x error true here sound told = first_fault-push fault xs x ∙ ap (λ f. option_or f (fault x)) sound ∙ told
first_fault-tested fault xs x error false here sound told = first_fault-push fault xs x ∙ ap (λ f. option_or f (fault x)) sound
