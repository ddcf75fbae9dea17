use Rattle.std.proofs.Common.{◌∙◌, sym, subst, w32, ℤ}
use Rattle.std.proofs.lemmas.Int.{to_z-of_z}
use Rattle.c_columns.specs.Handle.{array_in}
use Rattle.c_columns.specs.TwoColumns.{EndsOnTwo}
use Rattle.c_columns.proofs.Held.{lent_array}
use Rattle.c_kernels.specs.Equal.{equal_fault}
use Rattle.c_kernels.proofs.Answered.{equal_ends, equal_told}
use Rattle.c_kernels.proofs.equal.equal_handles.Goals as goal

pub returns-clause-told : goal.returns-clause-told
returns-clause-told c = λ zero.
    let back = to_z-of_z w32 c.write_answer.result (record { sfits = c.write_answer.type_inv }) in
    equal_told (array_in c.args.left.now.column) (array_in c.args.right.now.column) c.deref.result.now.array c.deref-2.result.now.array c.are_equal-outcome.result c.write_answer.new.place c.write_answer.result c.write_answer.new.fields
    (lent_array c.deref.ensures c.in-Some.ensures.array) (lent_array c.deref-2.ensures c.in-Some-take.ensures.array) c.are_equal-outcome.ensures.told c.write_answer.ensures.ok c.write_answer.ensures.err (sym back ∙ zero)

pub returns-clause-ended : goal.returns-clause-ended
returns-clause-ended c =
    let back = to_z-of_z w32 c.write_answer.result (record { sfits = c.write_answer.type_inv }) in
    subst (λ (code : ℤ). EndsOnTwo equal_fault (array_in c.args.left.now.column) (array_in c.args.right.now.column) code c.write_answer.new.fields) (sym back)
    (equal_ends (array_in c.args.left.now.column) (array_in c.args.right.now.column) c.deref.result.now.array c.deref-2.result.now.array c.are_equal-outcome.result c.write_answer.new.place c.write_answer.result c.write_answer.new.fields
    (lent_array c.deref.ensures c.in-Some.ensures.array) (lent_array c.deref-2.ensures c.in-Some-take.ensures.array) c.are_equal-outcome.ensures.refused c.write_answer.ensures.ok c.write_answer.ensures.err)
