use Rattle.std.proofs.Common.{◌∙◌, Some, ap, sym, subst, w32, ℤ}
use Rattle.std.proofs.lemmas.Int.{to_z-of_z}
use Rattle.c_columns.specs.Handle.{array_in}
use Rattle.c_columns.proofs.Held.{lent_array}
use Rattle.c_tables.specs.TableCalls.{IsTakeRefusal}
use Rattle.c_tables.specs.TableEnding.{EndsOnBoth}
use Rattle.hivevigil.proofs.TableAnswers.{both_answered}
use Rattle.hivevigil.proofs.table_rows.hv_table_take.Goals as goal

pub returns-clause-ended : goal.returns-clause-ended
returns-clause-ended c =
    let table = c.args.table.now.table in
    let indices = array_in c.args.indices.now.column in
    let back = to_z-of_z w32 c.answer_table.result (record { sfits = c.answer_table.type_inv }) in
    let held = c.in-Some.ensures.found ∙ ap Some (sym c.deref.ensures) in
    let lent = lent_array c.deref-2.ensures c.in-Some-take.ensures.array in
    subst (λ (code : ℤ). EndsOnBoth IsTakeRefusal table indices code c.answer_table.new.error) (sym back)
    (both_answered IsTakeRefusal table indices c.deref.result.now c.deref-2.result.now.array c.taken-outcome.result c.answer_table.result c.answer_table.new.error _ _ held lent c.taken-outcome.ensures.refused c.answer_table.ensures.ok c.answer_table.ensures.err)
