use Rattle.float_bits.proofs.PlaceValues.{carries_nothing}
use Rattle.float_bits.proofs.bins.settle.Goals as goal

pub returns-clause-value : goal.returns-clause-value
returns-clause-value c = carries_nothing _ _ c.carry.result _ c.carry.ensures.value c.requires.room
