-- Lists taken at positions.
use Rattle.std.specs.Prelude.{◌≡◌, ◌<◌, ℕ, List, Bool, false, Option, None, IsTrue, cond, length, map, slice_index}
use Rattle.std.specs.List.{range_with_len}
use Rattle.column_base.specs.declared.dtype.Nullability.{Nullability}
use Rattle.column_base.specs.declared.dtype.Nullability.TheVariants.{NonNullable, Nullable}
use Rattle.column_base.specs.ValidityForm.{ValidityForm, flag_at, nullability_in}
use Rattle.column_core.specs.Value.{Value}
use Rattle.runend_array.specs.Lists.{Index, Lists, PlainIndex, RowValidityForm, HasRows, index_at, list_at, row_flag_at, row_nullability}
use Rattle.runend_array.specs.ListSlice.{IsNormalByRows}

-- each position that is not null is one of `count` rows
abbrev pub ArePlacesOf : ℕ → List ℕ → ValidityForm → Type 0
ArePlacesOf count positions places = (place : ℕ) → place < length positions → IsTrue (flag_at places place) → slice_index positions place < count

-- the number at a position, and 0 where the position is null
abbrev pub number_taken : Index → List ℕ → ValidityForm → ℕ → ℕ
number_taken index positions places place = cond (flag_at places place) (index_at index (slice_index positions place)) 0

-- whether the row at a position is valid; at a null position it is not
abbrev pub flag_taken : RowValidityForm → List ℕ → ValidityForm → ℕ → Bool
flag_taken validity positions places place = cond (flag_at places place) (row_flag_at validity (slice_index positions place)) false

-- the list at a position, and null where the position is null
abbrev pub list_taken : Lists → List ℕ → ValidityForm → ℕ → Option Value
list_taken lists positions places place = cond (flag_at places place) (list_at lists (slice_index positions place)) None

-- the lists at these positions
abbrev pub lists_taken : Lists → List ℕ → ValidityForm → List (Option Value)
lists_taken lists positions places = map (list_taken lists positions places) (range_with_len 0 (length positions))

-- with null where the rows or the positions have null
abbrev pub nullability_taken : Nullability → Nullability → Nullability
nullability_taken NonNullable places = places
nullability_taken Nullable places = Nullable

-- the validity of the rows at these positions, held row by row, with bits only where they are needed
pub record IsValidityAt (whole : RowValidityForm) (positions : List ℕ) (places : ValidityForm) (part : RowValidityForm) : Type 0 where
  pub normal : IsNormalByRows part
  pub counted : HasRows part (length positions)
  pub flags : (place : ℕ) → place < length positions → row_flag_at part place ≡ flag_taken whole positions places place
  pub nullability : row_nullability part ≡ nullability_taken (row_nullability whole) (nullability_in places)

-- lists over the same elements, with the offsets and sizes at these positions, as they are stored, and the validity of
-- these rows
pub record AreListsAt (whole : Lists) (positions : List ℕ) (places : ValidityForm) (part : Lists) : Type 0 where
  pub elements : part.elements ≡ whole.elements
  pub offsets : part.offsets ≡ PlainIndex (map (number_taken whole.offsets positions places) (range_with_len 0 (length positions)))
  pub sizes : part.sizes ≡ PlainIndex (map (number_taken whole.sizes positions places) (range_with_len 0 (length positions)))
  pub validity : IsValidityAt whole.validity positions places part.validity
