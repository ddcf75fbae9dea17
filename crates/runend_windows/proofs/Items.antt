-- Items of lists that are read one by one.
use Rattle.std.proofs.Common.{◌≡◌, ◌<◌, ℕ, List, map, length, get_or, sym, ◌∙◌, ap}
use Rattle.std.specs.Prelude.{slice_index}
use Rattle.std.proofs.lemmas.List.{get_or-map}

-- an item that was read, as a number
pub slice_index-map_read : {X : Type 0} (f : X → ℕ) (xs : List X) (i : ℕ) (x : X) → i < length xs → x ≡ get_or xs i x → slice_index (map f xs) i ≡ f x
slice_index-map_read f xs i x h e = get_or-map f xs i x 0 h ∙ ap f (sym e)
