use Rattle.runend_pairs.proofs.PartSums.{joins_parts}
use Rattle.runend_pairs.proofs.parts.joined_parts.Goals as goal

pub returns : goal.returns
returns c = joins_parts
