use Rattle.logical_types.proofs.Unique.{names_unique}
use Rattle.logical_types.proofs.laws.names_are_unique.Goals as goal

pub returns : goal.returns
returns c = names_unique
