-- Indices of rows, some of which are null, and the runs of the rows that they name. A null index names no row.
use Rattle.std.specs.Prelude.{◌≡◌, ◌≤ℤ◌, ◌<ℤ◌, ◌+◌, ◌<◌, ℕ, ℤ, pos, List, map, Bool, Option, Some, None, All, IfSome, count_by, is_some, slice_get, slice_index, unsigned_abs}
use Rattle.std.specs.List.{range_with_len}
use Rattle.column_base.specs.declared.mask.Mask.{Mask}
use Rattle.column_base.specs.Mask.{mask_bits}
use Rattle.column_core.specs.Optionals.{optionals}
use Rattle.runend_windows.specs.Window.{IsWindow, run_at}

-- the number of each index, and null where the mask is false
abbrev pub optional_indices : {T : Type 0} → (T → ℤ) → List T → List Bool → List (Option ℤ)
optional_indices number indices bits = optionals (map number indices) bits

-- how many indices are valid, which is to say not null
abbrev pub valid_count : List (Option ℤ) → ℕ
valid_count indices = count_by is_some indices

-- each valid index is one of `count` rows
abbrev pub AreInBounds : List (Option ℤ) → ℕ → Type 0
AreInBounds indices count = All (λ index. IfSome index (λ n. (pos 0 ≤ℤ n) × (n <ℤ pos count))) indices

-- each valid index is a row of some valid window over runs with these ends, from position `offset` on
abbrev pub AreInWindow : List ℕ → ℕ → List (Option ℤ) → Type 0
AreInWindow ends offset indices = (count : ℕ) × IsWindow ends offset count × AreInBounds indices count

-- no valid index is below a valid one before it
abbrev pub AreSorted : List (Option ℤ) → Type 0
AreSorted indices = (i j : ℕ) (m n : ℤ) → i < j → slice_get indices i ≡ Some (Some m) → slice_get indices j ≡ Some (Some n) → m ≤ℤ n

-- the run of the row that an index names, and run `null` for a null index
abbrev pub run_of : List ℕ → ℕ → ℕ → Option ℤ → ℕ
run_of ends offset null None = null
run_of ends offset null (Some n) = run_at ends (offset + unsigned_abs n)

-- the same for each index
abbrev pub runs_of : List ℕ → ℕ → ℕ → List (Option ℤ) → List ℕ
runs_of ends offset null indices = map (run_of ends offset null) indices

-- the run of each of `count` rows
abbrev pub runs_of_rows : List ℕ → ℕ → ℕ → List ℕ
runs_of_rows ends offset count = map (run_at ends) (range_with_len offset count)

-- the item of a table at an index, and its first item at a null one
abbrev pub item_of : List ℕ → Option ℤ → ℕ
item_of table None = slice_index table 0
item_of table (Some n) = slice_index table (unsigned_abs n)

-- the number of each index, and null where a mask is false
abbrev pub masked_indices : {T A : Type 0} → (T → ℤ) → List T → Mask A → List (Option ℤ)
masked_indices number indices mask = optional_indices number indices (mask_bits mask)
