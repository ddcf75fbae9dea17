-- What the encoders of flat columns, and of runs over them, answer.
use Rattle.std.specs.Prelude.{◌≡◌, ℕ, List, Option}
use Rattle.column_base.specs.declared.dtype.DType.{DType}
use Rattle.column_base.specs.Types.{IsLeastFor}
use Rattle.column_base.specs.ValidityForm.{NeverNull}
use Rattle.column_core.specs.Computed.{IsComputedLeaf}
use Rattle.column_core.specs.Leaf.{Leaf, leaf_dtype, single_rows}
use Rattle.column_core.specs.PrimitiveForm.{PrimitiveForm}
use Rattle.column_core.specs.Value.{Value}
use Rattle.runend_windows.specs.Cover.{IsTightCover}
use Rattle.runend_windows.specs.Ends.{ends_of}
use Rattle.runend_windows.specs.Window.{last_end}

-- the values of runs with these ends: with these ends they are the only tight exact cover of the rows, of the same
-- type, as a call computes them
pub record AreRunValues (rows : List (Option Value)) (dtype : DType) (ends : List ℕ) (values : Leaf) : Type 0 where
  pub cover : IsTightCover rows ends (single_rows values)
  pub typed : leaf_dtype values ≡ dtype
  pub computed : IsComputedLeaf values

-- ends in the least unsigned type that has the last of them
pub record AreLeastEnds (wanted : List ℕ) (ends : PrimitiveForm) : Type 0 where
  pub shown : ends_of ends ≡ wanted
  pub required : ends.validity ≡ NeverNull
  pub narrow : IsLeastFor (last_end wanted) ends.ptype

-- the encoding of rows of a type by flat ends and flat values
pub record IsRowEncoding (rows : List (Option Value)) (dtype : DType) (ends : PrimitiveForm) (values : Leaf) : Type 0 where
  pub cover : IsTightCover rows (ends_of ends) (single_rows values)
  pub typed : leaf_dtype values ≡ dtype
  pub computed : IsComputedLeaf values
  pub required : ends.validity ≡ NeverNull
  pub narrow : IsLeastFor (last_end (ends_of ends)) ends.ptype
