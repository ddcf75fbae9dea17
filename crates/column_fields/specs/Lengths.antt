-- Run lengths: how many rows each run has.
use Rattle.std.specs.Prelude.{◌≡◌, ◌⊎◌, ℕ, pos, ◌+◌, ◌-◌, ◌*◌, ◌/◌, ◌%◌, ◌^◌, ◌<◌, ◌≤◌, Bool, true, false, List, [], ◌∷◌, All, max}
use Rattle.std.specs.List.{flat_map}
use Rattle.column_base.specs.declared.dtype.PType.{PType}
use Rattle.column_base.specs.Types.{HasNumber, IsUnsigned}
use Rattle.column_fields.specs.Varint.{varint}

-- how long each run is, where the first begins at `start`
unfoldable pub lengths_from : ℕ → List ℕ → List ℕ
lengths_from start [] = []
lengths_from start (end ∷ ends) = (end - start) ∷ lengths_from end ends

-- the greatest of the lengths, and 0 where there are none
unfoldable pub greatest : List ℕ → ℕ
greatest [] = 0
greatest (length ∷ lengths) = max length (greatest lengths)

-- run lengths, each as the shortest varint
unfoldable pub lengths_bytes : ℕ → List ℕ → List ℕ
lengths_bytes start ends = flat_map varint (lengths_from start ends)

-- ends of runs: none falls, each but the first rises, and each is a number of 64 bits
unfoldable pub Rises : Bool → ℕ → List ℕ → Type 0
Rises first start [] = Unit {0}
Rises first start (end ∷ ends) = (start ≤ end) × (end < 2 ^ 64) × (first ≡ false → start < end) × Rises false end ends

-- the lowest byte of a word, or its lowest two, are the length of a run, and what is above them is left
pub record BeginsWithLength (word length size rest : ℕ) : Type 0 where
  pub some : 0 < length
  pub spelt : ((size ≡ 1) × (length < 128) × (word ≡ rest * 256 + length)) ⊎ ((size ≡ 2) × (128 ≤ length) × (length < 16384) × (word ≡ (rest * 256 + length / 128) * 256 + (length % 128 + 128)))

-- an unsigned type has each of the ends
pub record AreEndsOf (t : PType) (ends : List ℕ) : Type 0 where
  pub unsigned : IsUnsigned t
  pub fit : All (λ end. HasNumber t (pos end)) ends

-- the bytes are the lengths of no runs with ends of the type
pub record HasNoEndsOf (t : PType) (bytes : List ℕ) : Type 0 where
  pub none : (ends : List ℕ) → AreEndsOf t ends → Rises true 0 ends → bytes ≡ lengths_bytes 0 ends → ⊥
