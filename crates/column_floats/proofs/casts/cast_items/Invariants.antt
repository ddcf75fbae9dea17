use Rattle.std.proofs.Common.{map, take}
use Rattle.std.specs.List.{AllZip}
use Rattle.column_core.specs.PrimitiveForm.{optional_numbers}
use Rattle.column_floats.specs.Casts.{Becomes, IsStoredFor}
use Rattle.column_floats.proofs.casts.cast_items.Given as goal

abbrev pub invariant-loop-row : goal.invariant-loop-row
invariant-loop-row g l =
    AllZip (IsStoredFor (Becomes (g.C.NumberCast.target l.cast) (g.C.NumberCast.casts l.cast))) (take l.row (optional_numbers l.array)) (map g.K.NativePType.number l.items.items)
