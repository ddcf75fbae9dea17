use Rattle.runend_builder.proofs.JoinedRuns.{encoding_of_joined}
use Rattle.runend_builder.proofs.laws.encoding_of_joined.Goals as goal

pub returns : goal.returns
returns c = encoding_of_joined
