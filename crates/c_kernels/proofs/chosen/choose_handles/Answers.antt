use Rattle.std.proofs.Common.{sym, subst, w32, ℤ}
use Rattle.std.proofs.lemmas.Int.{to_z-of_z}
use Rattle.c_columns.specs.Handle.{array_in}
use Rattle.c_columns.proofs.Held.{lent_array}
use Rattle.c_kernels.specs.Chosen.{EndsOnThree}
use Rattle.c_kernels.proofs.Answered.{choice_ends}
use Rattle.c_kernels.proofs.chosen.choose_handles.Goals as goal

pub returns-clause-ended : goal.returns-clause-ended
returns-clause-ended c =
    let back = to_z-of_z w32 c.answer.result (record { sfits = c.answer.type_inv }) in
    subst (λ (code : ℤ). EndsOnThree (array_in c.args.mask.now.column) (array_in c.args.left.now.column) (array_in c.args.right.now.column) code c.answer.new.error) (sym back)
    (choice_ends (array_in c.args.mask.now.column) (array_in c.args.left.now.column) (array_in c.args.right.now.column) c.deref.result.now.array c.deref-2.result.now.array c.deref-3.result.now.array c.chosen-outcome.result (λ made. made.value) c.answer.new.out.column _
    c.answer.result c.answer.new.error (lent_array c.deref.ensures c.in-Some.ensures.array) (lent_array c.deref-2.ensures c.in-Some-take.ensures.array)
    (lent_array c.deref-3.ensures c.in-Some-take-2.ensures.array) c.chosen-outcome.ensures.refused c.answer.ensures.ok c.answer.ensures.err)
