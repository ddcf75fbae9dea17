-- What a hash of rows is.
use Rattle.std.specs.Prelude.{◌≡◌, ◌++◌, ℕ, List, [], ◌∷◌, Option, Some, None, fold}
use Rattle.std.specs.Hash as fed
use Rattle.std.specs.Hash.{HashWrites}
use Rattle.std.specs.Hash.DefaultHasher as sip
use Rattle.column_core.specs.Value.{Value, Single, Items, Truth, Number, DecimalNumber, Text, Bytes}
use Rattle.runend_windows.specs.Cover.{IsTightCover}

-- what a hasher is given for a row: the number of its kind, and the value
abbrev pub row_writes : Option Value → HashWrites
row_writes None = fed.u8 0
row_writes (Some (Single (Truth truth))) = fed.u8 1 ++ fed.bool truth
row_writes (Some (Single (Number number))) = fed.u8 2 ++ fed.i128 number
row_writes (Some (Single (DecimalNumber number))) = fed.u8 3 ++ fed.i128 number
row_writes (Some (Single (Text bytes))) = fed.u8 4 ++ fed.str bytes
row_writes (Some (Single (Bytes bytes))) = fed.u8 5 ++ fed.slice fed.u8 bytes
row_writes (Some (Items items)) = fed.u8 6

-- what it is given for runs: the end and the value of each
abbrev pub run_writes : List ℕ → List (Option Value) → HashWrites
run_writes [] values = []
run_writes (end ∷ ends) [] = []
run_writes (end ∷ ends) (value ∷ values) = fed.u64 end ++ (row_writes value ++ run_writes ends values)

-- the hash of the runs of the tight exact cover of rows, which is the only one
pub record IsHashOf (rows : List (Option Value)) (hash : ℕ) : Type 0 where
  pub ends : List ℕ
  pub values : List (Option Value)
  pub cover : IsTightCover rows ends values
  pub same : hash ≡ sip.finish (fold sip.write sip.initial (run_writes ends values))

-- rows have one hash, whichever columns show them
abbrev pub EqualRowsEqualHashes : Type 0
EqualRowsEqualHashes = (rows : List (Option Value)) (hash other : ℕ) → IsHashOf rows hash → IsHashOf rows other → hash ≡ other
