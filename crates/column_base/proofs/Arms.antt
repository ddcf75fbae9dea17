-- What an arm of a match over the types of numbers knows of the buffer.
use Rattle.std.proofs.Common.{◌≡◌, ◌<◌, ◌≤◌, ℕ, ℤ, List, FitsSigned, to_z, of_z, Some, length, map, sym, ap, subst, ◌∙◌}
use Rattle.std.specs.Prelude.{slice_get, slice_range, Result, IfOk}
use Rattle.std.specs.Int.{w128}
use Rattle.std.proofs.lemmas.Int.{to_z-of_z}
use Rattle.std.proofs.lemmas.List.{length-map}
use Rattle.column_base.specs.Numbers.{numbers}
use Rattle.column_base.specs.declared.error.VortexError.{VortexError}
use Rattle.column_base.specs.declared.values.PrimitiveValues.{PrimitiveValues}

-- as many items as numbers
pub length-arm : {X : Type 0} (number : X → ℤ) (items : List X) (ns : List ℤ) → map number items ≡ ns → length items ≡ length ns
length-arm number items ns shown = sym (length-map items number) ∙ ap length shown

-- a place within the numbers is one within the items
pub below-arm : {X : Type 0} (number : X → ℤ) (items : List X) (ns : List ℤ) (i : ℕ) → map number items ≡ ns → i < length ns → i < length items
below-arm number items ns i shown within = subst (λ (n : ℕ). i < n) (sym (length-arm number items ns shown)) within

pub upto-arm : {X : Type 0} (number : X → ℤ) (items : List X) (ns : List ℤ) (i : ℕ) → map number items ≡ ns → i ≤ length ns → i ≤ length items
upto-arm number items ns i shown within = subst (λ (n : ℕ). i ≤ n) (sym (length-arm number items ns shown)) within

-- a number of an item is one of the numbers
pub number-arm : (own ns : List ℤ) (i : ℕ) (n : ℤ) → own ≡ ns → FitsSigned w128 n → slice_get own i ≡ Some n → slice_get ns i ≡ Some (to_z w128 (of_z w128 n))
number-arm own ns i n shown fits read =
    ap (λ (all : List ℤ). slice_get all i) (sym shown) ∙ read ∙ ap Some (sym (to_z-of_z w128 n fits))

-- a buffer that shows a part of the items shows this part of the numbers
pub part-arm : {A : Type 0} (result : Result (PrimitiveValues A) VortexError) (own ns : List ℤ) (start stop : ℕ) → own ≡ ns
    → IfOk result (λ part. numbers part ≡ slice_range own start stop) → IfOk result (λ part. numbers part ≡ slice_range ns start stop)
part-arm result own ns start stop shown made = subst (λ (all : List ℤ). IfOk result (λ part. numbers part ≡ slice_range all start stop)) shown made
