-- Lemmas on which rows a validity speaks of, and what it says of each.
use Rattle.std.proofs.Common.{◌≡◌, ◌<◌, ℕ, List, Bool, refl, subst, true, false, Some, length, arith}
use Rattle.std.specs.Prelude.{slice_get, replicate, All, ◌↔◌}
use Rattle.std.proofs.lemmas.List.{get_or-replicate, length-replicate}
use Rattle.std.proofs.lemmas.List.Elements.{All-replicate}
use Rattle.std.proofs.lemmas.Option.{slice_get-get_or}
use Rattle.column_base.specs.ValidityForm.{ValidityForm, NeverNull, NoneNull, AllNull, ByBits, HasLength, HasRow, flags, flag_at, nullability_in}
use Rattle.column_base.specs.declared.dtype.Nullability.TheVariants.{Nullable}
pub use Rattle.column_base.proofs.BitLists.{all_set, none_set}

-- each of n copies is the bit that is copied
slice_get-replicate : (n i : ℕ) (b : Bool) → i < n → slice_get (replicate n b) i ≡ Some b
slice_get-replicate n i b h =
    let len : length (replicate n b) ≡ n = length-replicate n b in
    let within : i < length (replicate n b) = omega arith in
    let at = slice_get-get_or (replicate n b) i b within in
    rw (get_or-replicate n i b b h) at at

-- the same, where the place is one of the list
pub copy_at : (n i : ℕ) (b : Bool) → i < length (replicate n b) → slice_get (replicate n b) i ≡ Some b
copy_at n i b h = slice_get-replicate n i b (subst (λ (k : ℕ). i < k) (length-replicate n b) h)

-- the flag of a row that it has is at that row
pub flags-at : (form : ValidityForm) (n i : ℕ) → HasLength form n → i < n → slice_get (flags form n) i ≡ Some (flag_at form i)
flags-at NeverNull n i fits h = slice_get-replicate n i true h
flags-at NoneNull n i fits h = slice_get-replicate n i true h
flags-at AllNull n i fits h = slice_get-replicate n i false h
flags-at (ByBits bits) n i fits h = slice_get-get_or bits i false (omega arith)

-- there are as many flags as rows
pub length-flags : (form : ValidityForm) (n : ℕ) → HasLength form n → length (flags form n) ≡ n
length-flags NeverNull n fits = length-replicate n true
length-flags NoneNull n fits = length-replicate n true
length-flags AllNull n fits = length-replicate n false
length-flags (ByBits bits) n fits = fits

-- a validity of n rows speaks of each of them
pub has_row : (form : ValidityForm) (n i : ℕ) → HasLength form n → i < n → HasRow form i
has_row NeverNull n i fits h = tt
has_row NoneNull n i fits h = tt
has_row AllNull n i fits h = tt
has_row (ByBits bits) n i fits h = omega arith

-- a validity of bits that says that no row is null exactly where all bits are true is of a type with null
pub nullable-of_bits : (form : ValidityForm) (bits : List Bool) → flags form (length bits) ≡ bits → (form ≡ NoneNull) ↔ All (λ bit. bit ≡ true) bits
    → nullability_in form ≡ Nullable
nullable-of_bits NeverNull bits flagged valid =
    let same : NeverNull ≡ NoneNull = valid.1 (subst (λ (bs : List Bool). All (λ bit. bit ≡ true) bs) flagged (All-replicate (λ (bit : Bool). bit ≡ true) (length bits) true refl)) in cc
nullable-of_bits NoneNull bits flagged valid = refl
nullable-of_bits AllNull bits flagged valid = refl
nullable-of_bits (ByBits own) bits flagged valid = refl

-- no null and all null are two forms
pub none_not_all : ¬ (NoneNull ≡ AllNull)
none_not_all same = cc

pub never_not_all : ¬ (NeverNull ≡ AllNull)
never_not_all same = cc
