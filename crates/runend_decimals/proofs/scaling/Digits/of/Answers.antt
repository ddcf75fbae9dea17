use Rattle.runend_decimals.proofs.TenPowers.{precision_power}
use Rattle.runend_decimals.proofs.scaling.Digits.of.Goals as goal

pub pow-requires : goal.pow-requires
pow-requires c = rw (c.from.ensures, c.min.ensures) (precision_power c.args.precision)
