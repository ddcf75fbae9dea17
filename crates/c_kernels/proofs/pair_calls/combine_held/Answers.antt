use Rattle.std.proofs.Common.{sym, subst, w32, ℤ}
use Rattle.std.proofs.lemmas.Int.{to_z-of_z}
use Rattle.c_columns.specs.Handle.{array_in}
use Rattle.c_columns.proofs.Held.{lent_array}
use Rattle.c_kernels.specs.Combined.{EndsOnPairs}
use Rattle.c_kernels.proofs.PairEndings.{outcome_ends}
use Rattle.c_kernels.proofs.pair_calls.combine_held.Goals as goal

pub returns-clause-ended : goal.returns-clause-ended
returns-clause-ended c =
    let back = to_z-of_z w32 c.answer.result (record { sfits = c.answer.type_inv }) in
    subst (λ (code : ℤ). EndsOnPairs c.args.operator (array_in c.args.left.now.column) (array_in c.args.right.now.column) code c.answer.new.error) (sym back)
    (outcome_ends c.args.operator c.deref.result.now.array c.deref-2.result.now.array (λ made. made.value) (array_in c.args.left.now.column) (array_in c.args.right.now.column) c.combine-outcome.result c.answer.result c.answer.new.error c.answer.new.out.column _
    (lent_array c.deref.ensures c.in-Some.ensures.array) (lent_array c.deref-2.ensures c.in-Some-take.ensures.array) c.combine-outcome.ensures.refused c.combine-outcome.ensures.first c.answer.ensures.ok c.answer.ensures.err)
