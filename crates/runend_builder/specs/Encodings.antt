-- The encoding of joined rows: tight exact covers, joined at the seam.
use Rattle.std.specs.Prelude.{◌≡◌, ◌≢◌, ◌+◌, ◌-◌, ◌^◌, ◌<◌, ◌++◌, ℕ, List, Option, Some, length, map, slice_get, take}
use Rattle.column_core.specs.Value.{Value}
use Rattle.runend_windows.specs.Cover.{IsTightCover}

-- all but the last item
abbrev pub without_last : {X : Type 0} → List X → List X
without_last xs = take (length xs - 1) xs

-- ends after a number of rows
abbrev pub behind : ℕ → List ℕ → List ℕ
behind count ends = map (λ end. count + end) ends

-- the values of the two runs at the seam
pub record AtSeam (values values' : List (Option Value)) (value value' : Option Value) : Type 0 where
  pub last : slice_get values (length values - 1) ≡ Some value
  pub first : slice_get values' 0 ≡ Some value'

-- where the values at the seam differ, or a part has no run, the runs follow each other; where they are equal the first
-- of the two runs is joined with the second
abbrev pub EncodingOfJoined : Type 0
EncodingOfJoined = (rows rows' : List (Option Value)) (ends ends' : List ℕ) (values values' : List (Option Value))
    → length rows + length rows' < 2 ^ 64 → IsTightCover rows ends values → IsTightCover rows' ends' values'
    → (((value value' : Option Value) → AtSeam values values' value value' → value ≢ value')
    → IsTightCover (rows ++ rows') (ends ++ behind (length rows) ends') (values ++ values'))
    × ((value : Option Value) → AtSeam values values' value value
    → IsTightCover (rows ++ rows') (without_last ends ++ behind (length rows) ends') (without_last values ++ values'))
