-- Which rows of a column are valid.
use Rattle.std.specs.Prelude.{◌≡◌, length, map, is_some, cond}
use Rattle.column_base.specs.Types.{nullability_of}
use Rattle.column_base.specs.ValidityForm.{ValidityForm, AllNull}
use Rattle.column_core.specs.Leaf.{leaf_validity}
use Rattle.runend_array.specs.Lists.{RowValidityForm, ByRows, HasRows, row_flags_of, row_nullability}
use Rattle.runend_array.specs.ListRuns.{IsValidityInRuns}
use Rattle.runend_array.specs.Column.{Column, Constant, OfLeaf, OfConstant, OfLists, OfRuns, column_rows, column_dtype}
use Rattle.column_core.specs.Computed.{without_nulls}

-- the validity of a column: row by row whether it is not null, and without null exactly where the type is
pub record IsValidityOf (c : Column) (form : RowValidityForm) : Type 0 where
  pub counted : HasRows form (length (column_rows c))
  pub flags : row_flags_of form (length (column_rows c)) ≡ map is_some (column_rows c)
  pub nullability : row_nullability form ≡ nullability_of (column_dtype c)

-- the form of the validity of a constant: all rows are null, or none
abbrev pub constant_validity : Constant → ValidityForm
constant_validity constant = cond (is_some constant.value) (without_nulls (nullability_of constant.dtype)) AllNull

-- the form of the validity of a column: the one that is stored; for runs the one of the values where it serves any
-- number of rows, else runs over flat flags
abbrev pub IsValidityForm : Column → RowValidityForm → Type 0
IsValidityForm (OfLeaf leaf) form = form ≡ ByRows (leaf_validity leaf)
IsValidityForm (OfConstant constant) form = form ≡ ByRows (constant_validity constant)
IsValidityForm (OfLists lists) form = form ≡ lists.validity
IsValidityForm (OfRuns ends_type ends values offset count) form =
    (of_values : RowValidityForm) × (IsValidityForm values of_values × IsValidityInRuns ends_type ends of_values (length ends) offset count form)
