-- The front of a caller's bytes.
use Rattle.std.specs.Prelude.{ℕ, List, ◌∷◌, take}
use Rattle.c_columns.specs.declared.front.Front.{Front}

-- the bytes that are written, after the name of the borrow: a writer that appends to these keeps to the same bytes
abbrev pub front_written : Front → List ℕ
front_written front = front.room.ghost_name ∷ take front.count front.room.now
