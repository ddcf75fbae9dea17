-- Ranges of lists.
use Rattle.std.proofs.Common.{◌≡◌, ℕ, ◌+◌, ◌-◌, ◌<◌, ◌≤◌, List, length, map, take, drop, get_or, ap, ◌∙◌, arith}
use Rattle.std.specs.Prelude.{replicate, slice_range}
use Rattle.std.proofs.lemmas.List.{drop-map, take-map, drop-replicate, take-replicate, length-take, length-drop, get_or-take, get_or-drop}

-- how many items a range has
pub length-slice_range : {X : Type 0} (xs : List X) (start stop : ℕ) → start ≤ stop → stop ≤ length xs → length (slice_range xs start stop) ≡ stop - start
length-slice_range xs start stop ordered within = omega (arith, length-take (stop - start) (drop start xs), length-drop start xs)

-- an item of a range
pub get_or-slice_range : {X : Type 0} (xs : List X) (start stop k : ℕ) (default : X) → k < stop - start → get_or (slice_range xs start stop) k default ≡ get_or xs (start + k) default
get_or-slice_range xs start stop k default h = get_or-take (stop - start) (drop start xs) k default h ∙ get_or-drop start xs k default

-- a range of copies is copies
pub slice_range-replicate : {X : Type 0} (n start stop : ℕ) (x : X) → start ≤ stop → stop ≤ n → slice_range (replicate n x) start stop ≡ replicate (stop - start) x
slice_range-replicate n start stop x ordered within = ap (take (stop - start)) (drop-replicate start n x) ∙ take-replicate (stop - start) (n - start) x (omega arith)

-- a range of a mapped list
pub slice_range_of_map : {X Y : Type 0} (f : X → Y) (xs : List X) (start stop : ℕ) → slice_range (map f xs) start stop ≡ map f (slice_range xs start stop)
slice_range_of_map f xs start stop = ap (take (stop - start)) (drop-map f start xs) ∙ take-map f (stop - start) (drop start xs)
