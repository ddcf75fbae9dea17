-- What lists of bits show.
use Rattle.std.specs.Prelude.{ℕ, List, Bool, true, false, length, filter, slice_index_or, Contains}
use Rattle.std.specs.List.{range_with_len}

-- the places at which a bit is true, in ascending order
abbrev pub set_indices_of : List Bool → List ℕ
set_indices_of bits = filter (λ i. slice_index_or bits i false) (range_with_len 0 (length bits))

-- some bit is true, and some bit is false
abbrev pub HasBothBits : List Bool → Type 0
HasBothBits bits = Contains bits true × Contains bits false
