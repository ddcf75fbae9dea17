-- How often a reader was read.
use Rattle.std.specs.Prelude.{◌≡◌, ◌⊎◌, ◌≤◌, [], ◌∷◌, ℕ, List, Option, length}
use Rattle.std.specs.Io.KnownBytes.{Consumes, IsAtEnd, Keeps}

-- the reader is as one read into a block of a number of bytes leaves it: the read gave bytes that fit, and none only at
-- the end, or it failed and took none
abbrev pub IsRead : {R : Type 0} → (R → Option (List ℕ)) → ℕ → R → R → Type 0
IsRead remaining size before after =
    ((bytes : List ℕ) × (length bytes ≤ size) × Consumes (remaining before) (remaining after) bytes × (length bytes ≡ 0 → IsAtEnd (remaining after)))
    ⊎ Keeps (remaining before) (remaining after)

-- the reader goes through these states, one read after the other
abbrev pub AreReads : {R : Type 0} → (R → Option (List ℕ)) → ℕ → R → List R → R → Type 0
AreReads remaining size before [] after = after ≡ before
AreReads remaining size before (next ∷ others) after = IsRead remaining size before next × AreReads remaining size next others after

-- the reader is as a limited number of reads into blocks of a number of bytes leave it
pub record IsReadWithin {R : Type 0} (remaining : R → Option (List ℕ)) (count size : ℕ) (before after : R) : Type 0 where
  pub states : List R
  pub few : length states ≤ count
  pub reads : AreReads remaining size before states after
