use Rattle.runend_builder.proofs.ExtremeSums.{sum_from_three_numbers}
use Rattle.runend_builder.proofs.laws.sum_from_three_numbers.Goals as goal

pub returns : goal.returns
returns c = sum_from_three_numbers
