-- Where none of all items has a fault, those under null included, the rows have none.
use Rattle.std.proofs.Common.{◌≡◌, ℕ, ℤ, pos, List, [], ◌∷◌, Bool, true, false, Option, Some, None, refl}
use Rattle.std.specs.Option.{option_or}
use Rattle.column_base.specs.declared.dtype.PType.{PType}
use Rattle.column_base.specs.declared.dtype.PType.TheVariants.{U8, U16, U32, U64, I8, I16, I32, I64}
use Rattle.column_base.specs.declared.dtype.DType.TheVariants as column
use Rattle.column_base.specs.declared.dtype.Nullability.TheVariants.{NonNullable}
use Rattle.column_base.specs.declared.error.VortexError.{VortexError}
use Rattle.column_ops.specs.Cast.{number_fault}
use Rattle.column_core.specs.Optionals.{optionals}
use Rattle.column_ops.specs.Fault.{first_fault}
use Rattle.column_ops.specs.Take.{index_fault, take_fault}
use Rattle.column_ops.proofs.Blanked.{items_or}

-- each type has 0
pub zero-fits : (ptype : PType) → number_fault (column.Primitive ptype NonNullable) (pos 0) ≡ None
zero-fits U8 = refl
zero-fits U16 = refl
zero-fits U32 = refl
zero-fits U64 = refl
zero-fits I8 = refl
zero-fits I16 = refl
zero-fits I32 = refl
zero-fits I64 = refl

neither : (a b : Option VortexError) → option_or a b ≡ None → (a ≡ None) × (b ≡ None)
neither None b h = (refl, h)
neither (Some e) b h = cc

-- items with a blank in place of some, where the blank has no fault
pub no_fault-blanked : {B : Type 0} (fault : B → Option VortexError) (items : List B) (bits : List Bool) (blank : B) → fault blank ≡ None
    → first_fault fault items ≡ None → first_fault fault (items_or items bits blank) ≡ None
no_fault-blanked fault [] bits blank none h = refl
no_fault-blanked fault (x ∷ items) [] blank none h = refl
no_fault-blanked fault (x ∷ items) (true ∷ bits) blank none h =
    let parts = neither (fault x) (first_fault fault items) h in
    rw (parts.0, no_fault-blanked fault items bits blank none parts.1) refl
no_fault-blanked fault (x ∷ items) (false ∷ bits) blank none h =
    let parts = neither (fault x) (first_fault fault items) h in
    rw (none, no_fault-blanked fault items bits blank none parts.1) refl

-- indices of which some are null
pub no_fault-optional : (count : ℕ) (indices : List ℤ) (marks : List Bool) → first_fault (λ index. index_fault count (Some index)) indices ≡ None → take_fault (optionals indices marks) count ≡ None
no_fault-optional count [] marks none = refl
no_fault-optional count (n ∷ indices) [] none = refl
no_fault-optional count (n ∷ indices) (true ∷ marks) none =
    let parts = neither (index_fault count (Some n)) (first_fault (λ index. index_fault count (Some index)) indices) none in
    rw (parts.0, no_fault-optional count indices marks parts.1) refl
no_fault-optional count (n ∷ indices) (false ∷ marks) none =
    let parts = neither (index_fault count (Some n)) (first_fault (λ index. index_fault count (Some index)) indices) none in
    no_fault-optional count indices marks parts.1
