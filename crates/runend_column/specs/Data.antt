-- The offset that a run column holds in addition to its slots: its equality, what a hash of it writes, and its text.
use Rattle.std.specs.Prelude.{ℕ, Bool, List, ◌++◌, nat_eq, codes}
use Rattle.std.specs.Hash as fed
use Rattle.std.specs.Hash.{HashWrites}
use Rattle.std.specs.Fmt.{decimal}

-- equality of offsets
abbrev pub data_eq : ℕ → ℕ → Bool
data_eq offset other = nat_eq offset other

-- the writes of a hash: those of the offset, and no more
abbrev pub data_writes : ℕ → HashWrites
data_writes offset = fed.usize offset

-- the text: the word, and the number in decimal digits
abbrev pub data_text : ℕ → List ℕ
data_text offset = codes "offset: " ++ decimal offset
