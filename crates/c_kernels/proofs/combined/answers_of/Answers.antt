use Rattle.std.proofs.Common.{sym, subst}
use Rattle.c_kernels.specs.Combined.{AreCombined}
use Rattle.c_kernels.specs.declared.operators.PairOperator.{PairOperator}
use Rattle.c_kernels.proofs.combined.answers_of.Goals as goal

pub returns-in_ok-truths-in-Compare-clause-made : goal.returns-in_ok-truths-in-Compare-clause-made
returns-in_ok-truths-in-Compare-clause-made c =
    subst (λ (operator : PairOperator). AreCombined operator c.args.left.now c.args.right.now c.in_ok-truths-in-Compare.truths) (sym c.in-Compare.is) c.in_ok-truths-in-Compare.ensures.answers
