use Rattle.float_bits.proofs.PlaceValues.{value_of_add}
use Rattle.float_bits.proofs.bins.add_at.Goals as goal

pub returns-clause-value : goal.returns-clause-value
returns-clause-value c = value_of_add _ _ _ c.requires.place
