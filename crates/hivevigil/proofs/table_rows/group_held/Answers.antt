use Rattle.std.proofs.Common.{◌∙◌, Some, ap, sym, subst, w32, ℤ}
use Rattle.std.specs.Global.{Global}
use Rattle.std.proofs.lemmas.Int.{to_z-of_z}
use Rattle.runend_array.specs.declared.array_ref.ArrayRef.{ArrayRef}
use Rattle.c_columns.specs.Handle.{array_in}
use Rattle.c_columns.proofs.Held.{lent_array}
use Rattle.c_tables.specs.Groups.{IsGroupRefusal}
use Rattle.c_tables.specs.TableEnding.{EndsOnFour}
use Rattle.tables.specs.Tables.{TableForm}
use Rattle.hivevigil.proofs.TableAnswers.{four_answered}
use Rattle.hivevigil.proofs.table_rows.group_held.Goals as goal

pub returns-clause-ended : goal.returns-clause-ended
returns-clause-ended c =
    let table = c.args.table.now.table in
    let keys = array_in c.args.keys.now.column in
    let answers = array_in c.args.answers.now.column in
    let columns = array_in c.args.columns.now.column in
    let Why = λ (t : TableForm) (k a l : ArrayRef Global). IsGroupRefusal k a l c.args.folds.now t in
    let back = to_z-of_z w32 c.answer_table.result (record { sfits = c.answer_table.type_inv }) in
    let held = c.in-Some.ensures.found ∙ ap Some (sym c.deref.ensures) in
    let named = lent_array c.deref-2.ensures c.in-Some-take.ensures.array in
    let asked = lent_array c.deref-3.ensures c.in-Some-take-2.ensures.array in
    let given = lent_array c.deref-4.ensures c.in-Some-take-3.ensures.array in
    subst (λ (code : ℤ). EndsOnFour Why table keys answers columns code c.answer_table.new.error) (sym back)
    (four_answered Why table keys answers columns c.deref.result.now c.deref-2.result.now.array c.deref-3.result.now.array c.deref-4.result.now.array c.grouped-outcome.result c.answer_table.result c.answer_table.new.error _ _ held named asked given
    c.grouped-outcome.ensures.refused c.answer_table.ensures.ok c.answer_table.ensures.err)
