use Rattle.std.proofs.Common.{refl}
use Rattle.runend_array.proofs.array.RunEnd.id.Goals as goal

pub returns : goal.returns
returns g = refl
