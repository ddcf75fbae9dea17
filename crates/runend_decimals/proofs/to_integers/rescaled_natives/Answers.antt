use Rattle.runend_decimals.proofs.ScaledRows.{small_number}
use Rattle.runend_decimals.proofs.to_integers.rescaled_natives.Goals as goal

pub rescaled_items-requires-clause-small : goal.rescaled_items-requires-clause-small
rescaled_items-requires-clause-small g c = λ n has. small_number g.T.NativePType.PTYPE n has
