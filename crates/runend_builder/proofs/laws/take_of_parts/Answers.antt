use Rattle.runend_builder.proofs.JoinedRows.{take_of_parts}
use Rattle.runend_builder.proofs.laws.take_of_parts.Goals as goal

pub returns : goal.returns
returns c = take_of_parts
