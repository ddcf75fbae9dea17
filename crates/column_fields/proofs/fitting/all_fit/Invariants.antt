use Rattle.std.proofs.Common.{map, take}
use Rattle.std.specs.List.{All}
use Rattle.column_base.specs.Types.{HasNumber}
use Rattle.column_fields.proofs.fitting.all_fit.Given as goal

abbrev pub invariant-loop-item : goal.invariant-loop-item
invariant-loop-item g l = All (λ n. HasNumber g.T.NativePType.PTYPE n) (map g.T.NativePType.number (take l.item-index l.items))
