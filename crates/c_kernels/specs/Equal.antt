-- Two columns that are equal.
use Rattle.std.specs.Prelude.{◌≡◌, true, Option}
use Rattle.std.specs.Global.{Global}
use Rattle.column_base.specs.declared.error.VortexError.{VortexError}
use Rattle.column_core.specs.Kinds.{same_kind}
use Rattle.runend_array.specs.Array.{dtype_of, rows}
use Rattle.runend_array.specs.declared.array_ref.ArrayRef.{ArrayRef}
use Rattle.runend_pairs.specs.Faults.{equality_fault}

-- two columns of one type, except for nullability, with the same rows
pub record AreEqual (c d : ArrayRef Global) : Type 0 where
  pub kind : same_kind (dtype_of c) (dtype_of d) ≡ true
  pub rows : rows c ≡ rows d

-- why two columns are not compared as wholes
abbrev pub equal_fault : ArrayRef Global → ArrayRef Global → Option VortexError
equal_fault c d = equality_fault (dtype_of c) (dtype_of d)
