-- Rows taken twice, and filled rows in a range.
use Rattle.std.proofs.Common.{◌≡◌, [], ◌∷◌, ℕ, zero, suc, ℤ, pos, negsuc, List, Option, Some, None, refl}
use Rattle.std.specs.Option.{option_or}
use Rattle.column_base.specs.declared.error.VortexError.{VortexError}
use Rattle.column_ops.specs.Take.{index_fault, take_fault, take_rows, taken_row}

-- what is taken from taken rows is taken from the rows, at the index that is there
taken_row-twice : {B : Type 0} (rows : List (Option B)) (first : List (Option ℤ)) (index : Option ℤ)
    → taken_row (take_rows rows first) index ≡ taken_row rows (taken_row first index)
taken_row-twice rows first None = refl
taken_row-twice rows [] (Some (pos k)) = refl
taken_row-twice rows (i ∷ first) (Some (pos zero)) = refl
taken_row-twice rows (i ∷ first) (Some (pos (suc k))) = taken_row-twice rows first (Some (pos k))
taken_row-twice rows first (Some (negsuc k)) = refl

pub take_rows-twice : {B : Type 0} (rows : List (Option B)) (first second : List (Option ℤ))
    → take_rows (take_rows rows first) second ≡ take_rows rows (take_rows first second)
take_rows-twice rows first [] = refl
take_rows-twice rows first (index ∷ second) = λ i. taken_row-twice rows first index i ∷ take_rows-twice rows first second i

-- where neither of two is there, neither the first nor the second is
neither : (a b : Option VortexError) → option_or a b ≡ None → (a ≡ None) × (b ≡ None)
neither None b none = (refl, none)
neither (Some error) b none = absurd (cc)

-- of indices without a fault none has one, wherever it is taken from
no_fault_at : (first : List (Option ℤ)) (count : ℕ) (index : Option ℤ) → take_fault first count ≡ None → index_fault count (taken_row first index) ≡ None
no_fault_at first count None none = refl
no_fault_at [] count (Some (pos k)) none = refl
no_fault_at (i ∷ first) count (Some (pos zero)) none = (neither (index_fault count i) (take_fault first count) none).0
no_fault_at (i ∷ first) count (Some (pos (suc k))) none = no_fault_at first count (Some (pos k)) (neither (index_fault count i) (take_fault first count) none).1
no_fault_at first count (Some (negsuc k)) none = refl

pub take_fault-twice : (first second : List (Option ℤ)) (count : ℕ) → take_fault first count ≡ None → take_fault (take_rows first second) count ≡ None
take_fault-twice first [] count none = refl
take_fault-twice first (index ∷ second) count none = rw (no_fault_at first count index none) (take_fault-twice first second count none)
