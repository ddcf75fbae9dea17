-- What a writer of runs of bits holds, and what it starts from.
use Rattle.std.specs.Prelude.{◌≡◌, ◌-◌, ◌*◌, ◌≤◌, ℕ, List, [], Bool, if◌then◌else◌, nat_lt, count_by, drop, length, replicate}

-- the bits that are written, and those that are after them before any run is written there
pub record BitRunsForm : Type 0 where
  pub written : List Bool
  pub prefilled : List Bool

-- after the bits that are written there is only the background
pub record IsOverBackground (bits : List Bool) (written : ℕ) (background : Bool) : Type 0 where
  pub within : written ≤ length bits
  pub behind : drop written bits ≡ replicate (length bits - written) background

-- the bit of more than half of the runs, false where there are as many of both
abbrev pub majority_of : List Bool → Bool
majority_of runs = nat_lt (length runs) (2 * count_by (λ bit. bit) runs)

-- what the rows of runs start as: nothing where there are fewer runs than the threshold, else the bit of most runs in each row
abbrev pub background_of : List Bool → ℕ → ℕ → List Bool
background_of runs rows threshold = if nat_lt (length runs) threshold then [] else replicate rows (majority_of runs)
