-- Where runs start, and which rows go on.
use Rattle.std.specs.Prelude.{◌≡◌, ◌↔◌, ◌+◌, ◌<◌, ◌≤◌, ◌-◌, ℕ, List, [], ◌∷◌, Bool, false, length, map, slice_get, slice_index_or}
use Rattle.std.specs.Int.{bit_at}

-- the first row of each run, where the first run starts at this row: each other run starts where the one before it ends
abbrev pub starts_from : ℕ → List ℕ → List ℕ
starts_from start [] = []
starts_from start (end ∷ ends) = start ∷ starts_from end ends

-- the items at these places, `blank` for a place that has none
abbrev pub items_at : {B : Type 0} → B → List B → List ℕ → List B
items_at blank items places = map (λ place. slice_index_or items place blank) places

-- a row is equal to the row before; the first row has none before it
abbrev pub GoesOn : {B : Type 0} → List B → ℕ → Type 0
GoesOn rows row = slice_get rows (row - 1) ≡ slice_get rows row

-- a bit of the word for each row from `start` to `stop` - 1, the first of them lowest: whether it differs from the row
-- before; all others are 0
pub record AreChangeBits {B : Type 0} (rows : List B) (start stop word : ℕ) : Type 0 where
  pub told : (lane : ℕ) → start + lane < stop → ((bit_at word lane ≡ 0) ↔ GoesOn rows (start + lane))
  pub clear : (lane : ℕ) → stop ≤ start + lane → bit_at word lane ≡ 0

-- a bit for each row: whether it differs from the row before
pub record AreChanges {B : Type 0} (rows : List B) (bits : List Bool) : Type 0 where
  pub counted : length bits ≡ length rows
  pub each : (row : ℕ) → row < length rows → ((slice_index_or bits row false ≡ false) ↔ GoesOn rows row)
