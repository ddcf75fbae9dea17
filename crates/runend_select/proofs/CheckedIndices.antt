-- Indices that were tested, each in turn.
use Rattle.std.proofs.Common.{◌≡◌, ◌∙◌, ◌<◌, ℕ, ℤ, pos, negsuc, get_or, List, [], ◌∷◌, Bool, true, false, cond, Option, Some, None, length, map, refl, replicate, sym, ap, arith}
use Rattle.std.specs.Prelude.{◌≤ℤ◌, ◌<ℤ◌, All, IfSome, nat_lt, option_map, slice_get}
use Rattle.std.specs.Option.{option_or}
use Rattle.std.proofs.lemmas.Bool.Decides.{Decides-ltb}
use Rattle.std.proofs.lemmas.Int.{ints}
use Rattle.std.proofs.lemmas.Option.{slice_get-map, slice_get_read}
use Rattle.std.proofs.lemmas.List.{length-map}
use Rattle.std.proofs.lemmas.List.Elements.{All-cons, All-head, All-nil, All-tail}
use Rattle.column_base.specs.Bits.{set_indices_of}
use Rattle.column_base.specs.declared.dtype.PType.{PType}
use Rattle.column_base.specs.declared.error.VortexError.{VortexError}
use Rattle.column_base.specs.declared.error.VortexError.TheVariants.{OutOfBounds}
use Rattle.column_base.specs.ValidityForm.{ValidityForm, HasLength, flag_at, flags}
use Rattle.column_base.proofs.ValidityRows.{flags-at}
use Rattle.column_core.specs.Optionals.{optionals}
use Rattle.column_core.proofs.OptionalRows.{null-at, optionals-at}
use Rattle.column_core.specs.PrimitiveForm.{PrimitiveForm, optional_numbers, primitive_with}
use Rattle.column_ops.specs.Fault.{first_fault}
use Rattle.column_ops.specs.Take.{index_fault, take_fault}
use Rattle.runend_select.specs.Indices.{AreInBounds, optional_indices}
use Rattle.runend_column.proofs.SetPlaces.{within-places}

-- one index for each flag
pub length-indices : (xs : List ℤ) (bits : List Bool) → length bits ≡ length xs → length (optionals xs bits) ≡ length xs
length-indices [] bits h = refl
length-indices (x ∷ xs) [] h = h
length-indices (x ∷ xs) (b ∷ bits) h = let rest = length-indices xs bits (omega arith) in omega arith

-- one native number is the same index
pub same-indices : {S : Type 0} (ptype : PType) (number : S → ℤ) (items : List S) (form : ValidityForm)
    → optional_indices number items (flags form (length items)) ≡ optional_numbers (primitive_with ptype (map number items) form)
same-indices ptype number items form = ap (λ (n : ℕ). optionals (map number items) (flags form n)) (sym (length-map items number))

-- a column of integers is known by its parts
pub same-primitive : (ptype : PType) (numbers : List ℤ) (validity : ValidityForm) (own : PrimitiveForm) → ptype ≡ own.ptype → numbers ≡ own.numbers → validity ≡ own.validity
    → primitive_with ptype numbers validity ≡ own
same-primitive ptype numbers validity own same_type same_numbers same_validity = λ i. primitive_with (same_type i) (same_numbers i) (same_validity i)

-- and its fault is the same
pub same-fault : {S : Type 0} (ptype : PType) (number : S → ℤ) (items : List S) (form : ValidityForm) (count rows : ℕ) → count ≡ rows
    → take_fault (optional_indices number items (flags form (length items))) count ≡ take_fault (optional_numbers (primitive_with ptype (map number items) form)) rows
same-fault ptype number items form count rows same =
    ap (λ (indices : List (Option ℤ)). take_fault indices count) (same-indices ptype number items form) ∙ ap (take_fault (optional_numbers (primitive_with ptype (map number items) form))) same

neither : (a b : Option VortexError) → option_or a b ≡ None → (a ≡ None) × (b ≡ None)
neither None b none = (refl, none)
neither (Some error) b none = let wrong : ⊥ = cc in absurd wrong

below : (k count : ℕ) (b : Bool) → nat_lt k count ≡ b → cond b None (Some (OutOfBounds (pos k) count)) ≡ None → k < count
below k count true is none = (Decides-ltb k count).0 is
below k count false is none = let wrong : ⊥ = cc in absurd wrong

in-bounds : (count : ℕ) (index : Option ℤ) → index_fault count index ≡ None → IfSome index (λ n. (pos 0 ≤ℤ n) × (n <ℤ pos count))
in-bounds count None none = tt
in-bounds count (Some (pos k)) none = let less = below k count (nat_lt k count) refl none in (omega (arith, ints), omega (arith, ints))
in-bounds count (Some (negsuc k)) none = let wrong : ⊥ = cc in absurd wrong

-- indices without a fault are in bounds
pub AreInBounds-checked : (indices : List (Option ℤ)) (count : ℕ) → take_fault indices count ≡ None → AreInBounds indices count
AreInBounds-checked [] count none = All-nil (λ index. IfSome index (λ n. (pos 0 ≤ℤ n) × (n <ℤ pos count)))
AreInBounds-checked (index ∷ indices) count none =
    let both = neither (index_fault count index) (first_fault (index_fault count) indices) none in
    All-cons (λ index. IfSome index (λ n. (pos 0 ≤ℤ n) × (n <ℤ pos count))) index indices (in-bounds count index both.0) (AreInBounds-checked indices count both.1)

-- the index at a place, and null where that is null
pub index-valid : {S : Type 0} (number : S → ℤ) (items : List S) (form : ValidityForm) (place : ℕ) (item : S) → HasLength form (length items) → place < length items → flag_at form place ≡ true
    → item ≡ get_or items place item → slice_get (optional_indices number items (flags form (length items))) place ≡ Some (Some (number item))
index-valid number items form place item fits within valid read =
    optionals-at (map number items) (flags form (length items)) place (number item) true
    (slice_get-map number items place ∙ ap (option_map number) (slice_get_read items (length items) place item refl within read)) (flags-at form (length items) place fits within ∙ ap Some valid)

pub index-null : {S : Type 0} (number : S → ℤ) (items : List S) (form : ValidityForm) (place : ℕ) → HasLength form (length items) → place < length items → flag_at form place ≡ false
    → slice_get (optional_indices number items (flags form (length items))) place ≡ Some None
index-null number items form place fits within null =
    let long = length-map items number in
    null-at (map number items) (flags form (length items)) place (omega arith) (flags-at form (length items) place fits within ∙ ap Some null)

bounds-numbers : (count : ℕ) (places : List ℕ) → All (λ i. i < count) places → AreInBounds (optionals (map (λ (n : ℕ). pos n) places) (replicate (length places) true)) count
bounds-numbers count [] within = All-nil (λ i. IfSome i (λ n. (pos 0 ≤ℤ n) × (n <ℤ pos count)))
bounds-numbers count (place ∷ places) within =
    let here = All-head (λ i. i < count) place places within in
    All-cons (λ i. IfSome i (λ n. (pos 0 ≤ℤ n) × (n <ℤ pos count))) (Some (pos place)) (optionals (map (λ (n : ℕ). pos n) places) (replicate (length places) true)) (omega (arith, ints), omega (arith, ints))
    (bounds-numbers count places (All-tail (λ i. i < count) place places within))

-- the places of bits are in bounds
pub bounds-places : (bits : List Bool) (count : ℕ) (places : List ℕ) → length bits ≡ count → places ≡ set_indices_of bits
    → AreInBounds (optional_indices (λ (n : ℕ). pos n) places (replicate (length places) true)) count
bounds-places bits count places long is = bounds-numbers count places (rw (← long) (within-places bits places is))
