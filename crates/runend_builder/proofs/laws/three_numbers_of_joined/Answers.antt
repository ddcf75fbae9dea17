use Rattle.runend_builder.proofs.ExtremeSums.{three_numbers_of_joined}
use Rattle.runend_builder.proofs.laws.three_numbers_of_joined.Goals as goal

pub returns : goal.returns
returns c = three_numbers_of_joined
