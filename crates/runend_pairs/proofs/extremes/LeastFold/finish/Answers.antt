use Rattle.std.proofs.Common.{sym}
use Rattle.std.specs.Prelude.{option_map}
use Rattle.runend_pairs.specs.GroupAnswers.{least_of, is_at_most}
use Rattle.runend_pairs.proofs.Bounds.{at_most-order, bound_of-found}
use Rattle.runend_pairs.proofs.GroupPicked.{each_given}
use Rattle.runend_pairs.proofs.extremes.LeastFold.finish.Goals as goal

pub returns : goal.returns
returns g c = λ rows kept. (each_given (least_of rows), sym (bound_of-found is_at_most at_most-order rows (option_map g.T.NativePType.number c.args.self.now.found) kept))
