use Rattle.runend_builder.proofs.JoinedRows.{slice_of_joined}
use Rattle.runend_builder.proofs.laws.slice_of_joined.Goals as goal

pub returns : goal.returns
returns c = slice_of_joined
