use Rattle.std.proofs.Common.{sym, subst, w32, ℤ}
use Rattle.std.proofs.lemmas.Int.{to_z-of_z}
use Rattle.c_columns.specs.Handle.{array_in}
use Rattle.c_columns.specs.TwoColumns.{EndsOnTwo, beside_fault}
use Rattle.c_columns.proofs.Held.{lent_array}
use Rattle.hivevigil.proofs.TwoColumns.{outcome_ends}
use Rattle.hivevigil.proofs.commands.compare_columns.Goals as goal

pub returns-clause-ended : goal.returns-clause-ended
returns-clause-ended c =
    let back = to_z-of_z w32 c.answer.result (record { sfits = c.answer.type_inv }) in
    subst (λ (code : ℤ). EndsOnTwo beside_fault (array_in c.args.column.now.column) (array_in c.args.right.now.column) code c.answer.new.error) (sym back)
    (outcome_ends c.compared-outcome.result (λ made. made.value) beside_fault (array_in c.args.column.now.column) (array_in c.args.right.now.column) c.answer.new.out.column _ c.deref.result.now.array c.deref-2.result.now.array c.answer.result _
    (lent_array c.deref.ensures c.in-Some.ensures.array) (lent_array c.deref-2.ensures c.in-Some-take.ensures.array) c.compared-outcome.ensures.refused c.answer.ensures.ok c.answer.ensures.err)
