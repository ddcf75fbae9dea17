-- What the encoder and the decoders of flat columns answer.
use Rattle.std.specs.Prelude.{◌≡◌, ℕ, ◌<◌, List, length, map, Option, None, option_map, unwrap_or, All}
use Rattle.column_base.specs.Types.{IsLeastFor}
use Rattle.column_base.specs.ValidityForm.{NeverNull, AllNull}
use Rattle.column_core.specs.Value.{Value, Single}
use Rattle.column_core.specs.PrimitiveForm.{PrimitiveForm, primitive_rows, primitive_dtype}
use Rattle.column_core.specs.Leaf.{Leaf, leaf_dtype, single_rows}
use Rattle.column_core.specs.Computed.{IsComputed, IsComputedLeaf}
use Rattle.runend_windows.specs.Window.{last_end, run_rows}
use Rattle.runend_windows.specs.Cover.{IsTightCover}
use Rattle.runend_windows.specs.Ends.{ends_of}

-- the rows of a flat column of integers
abbrev pub number_rows : PrimitiveForm → List (Option Value)
number_rows form = map (option_map Single) (primitive_rows form)

-- each item, and the blank one for null
abbrev pub blanked : {B : Type 0} → B → List (Option B) → List B
blanked blank rows = map (λ row. unwrap_or row blank) rows

-- the validity says of at least one row that all are null
abbrev pub IsAllInvalid : PrimitiveForm → Type 0
IsAllInvalid form = (form.validity ≡ AllNull) × (0 < length form.numbers)

-- the encoding of a flat column of integers by flat values
pub record IsFlatEncoding (array ends values : PrimitiveForm) : Type 0 where
  pub cover : IsTightCover (number_rows array) (ends_of ends) (number_rows values)
  pub dtype : primitive_dtype values ≡ primitive_dtype array
  pub required : ends.validity ≡ NeverNull
  pub narrow : IsLeastFor (last_end (ends_of ends)) ends.ptype
  pub computed : IsComputed values

-- there is a run value, and each is null
abbrev pub HasNullsAlone : {X : Type 0} → List (Option X) → Type 0
HasNullsAlone values = (0 < length values) × All (λ v. v ≡ None) values

-- the flat column of the rows that runs with these ends and values show
pub record IsDecodedLeaf (ends : List ℕ) (values : Leaf) (offset count : ℕ) (array : Leaf) : Type 0 where
  pub rows : single_rows array ≡ run_rows ends (single_rows values) offset count
  pub dtype : leaf_dtype array ≡ leaf_dtype values
  pub computed : IsComputedLeaf array

-- the flat column of integers of the rows that runs with these ends and values show
pub record IsDecodedFlat (ends : List ℕ) (values : PrimitiveForm) (offset count : ℕ) (array : PrimitiveForm) : Type 0 where
  pub rows : number_rows array ≡ run_rows ends (number_rows values) offset count
  pub dtype : primitive_dtype array ≡ primitive_dtype values
  pub computed : IsComputed array
