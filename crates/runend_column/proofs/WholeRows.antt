-- All rows, as a range of them.
use Rattle.std.proofs.Common.{◌≡◌, ◌∙◌, ◌-◌, ℕ, List, [], ◌∷◌, length, take, drop, refl, ap, arith}
use Rattle.std.specs.Prelude.{slice_range}
use Rattle.std.proofs.lemmas.List.{take_all}

drop-zero : {B : Type 0} (rows : List B) → drop 0 rows ≡ rows
drop-zero [] = refl
drop-zero (x ∷ rows) = refl

pub slice_range-all : {B : Type 0} (rows : List B) (count : ℕ) → count ≡ length rows → slice_range rows 0 count ≡ rows
slice_range-all rows count all = ap (take (count - 0)) (drop-zero rows) ∙ take_all (count - 0) rows (omega (arith, all))
