-- Rows taken by their numbers.
use Rattle.std.specs.Prelude.{◌≡◌, ℕ, ◌<◌, ℤ, pos, negsuc, List, Bool, false, Option, Some, None, All, IfSome, length, map, option_map, cond, nat_lt, slice_index_or}
use Rattle.column_base.specs.declared.error.VortexError.{VortexError}
use Rattle.column_base.specs.declared.error.VortexError.TheVariants.{OutOfBounds}
use Rattle.column_base.specs.declared.dtype.Nullability.{Nullability}
use Rattle.column_base.specs.ValidityForm.{ValidityForm, HasLength, flags, nullability_in}
use Rattle.column_core.specs.Optionals.{optionals}
use Rattle.column_ops.specs.Fault.{first_fault}

-- the row of an optional number: null for null, and for a number past the rows
abbrev pub taken_row : {B : Type 0} → List (Option B) → Option ℤ → Option B
taken_row rows None = None
taken_row rows (Some (pos k)) = slice_index_or rows k None
taken_row rows (Some (negsuc k)) = None

-- the bit at an optional position: false for null, and for a position past the bits
abbrev pub taken_bit : List Bool → Option ℕ → Bool
taken_bit bits None = false
taken_bit bits (Some k) = slice_index_or bits k false

-- null for a null index, else the item at the index
abbrev pub take_rows : {B : Type 0} → List (Option B) → List (Option ℤ) → List (Option B)
take_rows rows indices = map (taken_row rows) indices

-- a valid index that is negative or not below the number of rows
abbrev pub index_fault : ℕ → Option ℤ → Option VortexError
index_fault count None = None
index_fault count (Some (pos k)) = cond (nat_lt k count) None (Some (OutOfBounds (pos k) count))
index_fault count (Some (negsuc k)) = Some (OutOfBounds (negsuc k) count)

-- the first valid index that is negative or not below the number of rows, with that number
abbrev pub take_fault : List (Option ℤ) → ℕ → Option VortexError
take_fault indices count = first_fault (index_fault count) indices

-- each position that is not null is below the number of rows
abbrev pub ArePositions : List (Option ℕ) → ℕ → Type 0
ArePositions positions count = All (λ position. IfSome position (λ k. k < count)) positions

-- optional positions as integers
abbrev pub position_numbers : List (Option ℕ) → List (Option ℤ)
position_numbers positions = map (option_map (λ k. pos k)) positions

-- items and a validity that show these positions, each below the number of rows
pub record ArePositionsFor (indices : List (Option ℤ)) (wanted : Nullability) (count : ℕ) (items : List ℕ) (validity : ValidityForm) : Type 0 where
  pub shown : position_numbers (optionals items (flags validity (length items))) ≡ indices
  pub within : ArePositions (optionals items (flags validity (length items))) count
  pub fits : HasLength validity (length items)
  pub nullability : nullability_in validity ≡ wanted
