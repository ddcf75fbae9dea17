-- Natural numbers by places.
use Rattle.std.specs.Prelude.{ℕ, ◌+◌, ◌*◌, ◌^◌, ◌<◌, List, [], ◌∷◌, slice_index}

-- what 1 at a place counts for at the place before
abbrev pub base : ℕ
base = 0x1_0000_0000

-- the number in these bins, the lowest place first
abbrev pub value : List ℕ → ℕ
value [] = 0
value (x ∷ xs) = x + base * value xs

-- each bin is below this
abbrev pub AreBelow : ℕ → List ℕ → Type 0
AreBelow n xs = (k : ℕ) → slice_index xs k < n

abbrev pub places : ℕ
places = 68

-- what the places have room for: numbers below this
unfoldable pub capacity : ℕ
capacity = base ^ places

-- no size of a float is past this: 2 ^ 2098
unfoldable pub size_limit : ℕ
size_limit = base ^ 65 * 2 ^ 18
