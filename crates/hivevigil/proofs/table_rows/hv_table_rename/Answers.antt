use Rattle.std.proofs.Common.{◌∙◌, Some, ap, sym, subst, w32, ℤ}
use Rattle.std.proofs.lemmas.Int.{to_z-of_z}
use Rattle.c_columns.specs.Handle.{array_in}
use Rattle.c_columns.proofs.Held.{lent_array}
use Rattle.c_tables.specs.TableCalls.{IsRenameRefusal}
use Rattle.c_tables.specs.TableEnding.{EndsOnThree}
use Rattle.hivevigil.proofs.TableAnswers.{three_answered}
use Rattle.hivevigil.proofs.table_rows.hv_table_rename.Goals as goal

pub returns-clause-ended : goal.returns-clause-ended
returns-clause-ended c =
    let table = c.args.table.now.table in
    let names = array_in c.args.names.now.column in
    let new_names = array_in c.args.new_names.now.column in
    let back = to_z-of_z w32 c.answer_table.result (record { sfits = c.answer_table.type_inv }) in
    let held = c.in-Some.ensures.found ∙ ap Some (sym c.deref.ensures) in
    let lent = lent_array c.deref-2.ensures c.in-Some-take.ensures.array in
    let given = lent_array c.deref-3.ensures c.in-Some-take-2.ensures.array in
    subst (λ (code : ℤ). EndsOnThree IsRenameRefusal table names new_names code c.answer_table.new.error) (sym back)
    (three_answered IsRenameRefusal table names new_names c.deref.result.now c.deref-2.result.now.array c.deref-3.result.now.array c.renamed-outcome.result c.answer_table.result c.answer_table.new.error _ _ held lent given c.renamed-outcome.ensures.refused c.answer_table.ensures.ok
    c.answer_table.ensures.err)
