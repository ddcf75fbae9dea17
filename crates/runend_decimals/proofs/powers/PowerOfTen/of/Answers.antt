use Rattle.runend_decimals.proofs.TenPowers.{power_value}
use Rattle.runend_decimals.proofs.powers.PowerOfTen.of.Goals as goal

pub returns-clause-power : goal.returns-clause-power
returns-clause-power c = power_value c.args.places c.checked_pow.result c.checked_pow.ensures
