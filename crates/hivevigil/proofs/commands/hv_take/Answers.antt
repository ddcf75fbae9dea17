use Rattle.std.proofs.Common.{◌∙◌, sym, subst, w32, ℤ}
use Rattle.std.proofs.lemmas.Int.{to_z-of_z}
use Rattle.c_columns.specs.Handle.{array_in}
use Rattle.c_columns.specs.TwoColumns.{EndsOnTwo, IsTakenIn, code_look_up_fault, looked_up_by}
use Rattle.c_columns.proofs.Held.{lent_array}
use Rattle.hivevigil.proofs.TwoColumns.{outcome_ends, outcome_left}
use Rattle.hivevigil.proofs.commands.hv_take.Goals as goal

pub returns-clause-made : goal.returns-clause-made
returns-clause-made c = λ zero.
    let back = to_z-of_z w32 c.answer.result (record { sfits = c.answer.type_inv }) in
    outcome_left c.taken-outcome.result (λ made. made.value.array) looked_up_by (IsTakenIn c.args.session.now) (array_in c.args.indices.now.column) (array_in c.args.column.now.column) (array_in c.answer.new.out.column) c.answer.new.out.column _ c.deref.result.now.array c.deref-2.result.now.array c.answer.result _
    (lent_array c.deref.ensures c.in-Some.ensures.array) (lent_array c.deref-2.ensures c.in-Some-take.ensures.array) c.taken-outcome.ensures.left c.answer.ensures.array c.answer.ensures.err (sym back ∙ zero)

pub returns-clause-ended : goal.returns-clause-ended
returns-clause-ended c =
    let back = to_z-of_z w32 c.answer.result (record { sfits = c.answer.type_inv }) in
    subst (λ (code : ℤ). EndsOnTwo code_look_up_fault (array_in c.args.indices.now.column) (array_in c.args.column.now.column) code c.answer.new.error) (sym back)
    (outcome_ends c.taken-outcome.result (λ made. made.value) code_look_up_fault (array_in c.args.indices.now.column) (array_in c.args.column.now.column) c.answer.new.out.column _ c.deref.result.now.array c.deref-2.result.now.array c.answer.result _
    (lent_array c.deref.ensures c.in-Some.ensures.array) (lent_array c.deref-2.ensures c.in-Some-take.ensures.array) c.taken-outcome.ensures.refused c.answer.ensures.ok c.answer.ensures.err)
