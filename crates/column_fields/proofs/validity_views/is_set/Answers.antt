use Rattle.std.proofs.Common.{refl}
use Rattle.column_fields.proofs.HeldNumbers.{bit_here}
use Rattle.column_fields.proofs.validity_views.is_set.Goals as goal

pub returns : goal.returns
returns c = λ count len lt. bit_here count c.args.bytes.now c.args.place _ len lt refl
