use Rattle.std.proofs.Common.{sym, subst, w32, ℤ}
use Rattle.std.proofs.lemmas.Int.{to_z-of_z}
use Rattle.c_columns.specs.Handle.{array_in}
use Rattle.c_columns.proofs.Held.{lent_array}
use Rattle.c_kernels.specs.Tested.{EndsOnTested}
use Rattle.c_kernels.proofs.Answered.{test_ends}
use Rattle.c_kernels.proofs.tested.test_handle.Goals as goal

pub returns-clause-ended : goal.returns-clause-ended
returns-clause-ended c =
    let back = to_z-of_z w32 c.answer.result (record { sfits = c.answer.type_inv }) in
    subst (λ (code : ℤ). EndsOnTested c.args.test (array_in c.args.column.now.column) code c.answer.new.error) (sym back)
    (test_ends c.args.test (array_in c.args.column.now.column) c.deref.result.now.array c.tested-outcome.result (λ made. made.value) c.answer.new.out.column _ c.answer.result c.answer.new.error
    (lent_array c.deref.ensures c.in-Some.ensures.array) c.tested-outcome.ensures.refused c.answer.ensures.ok c.answer.ensures.err)
