use Rattle.std.proofs.Common.{◌∙◌, sym, subst, w32, ℤ}
use Rattle.std.specs.Prelude.{IfOk}
use Rattle.std.proofs.lemmas.Int.{to_z-of_z}
use Rattle.column_ops.specs.OrderFacts as order
use Rattle.runend_array.specs.Array.{rows}
use Rattle.c_columns.specs.Flags.{Tells, flag_of}
use Rattle.c_columns.proofs.Endings.{told_sorted}
use Rattle.runend_array.specs.declared.session.Kernel.TheVariants as kernel
use Rattle.c_columns.specs.Handle.{array_in}
use Rattle.c_columns.specs.InPlace.{IsNeverShortOn}
use Rattle.c_columns.proofs.Held.{lent_array}
use Rattle.c_columns.proofs.Short.{never_short}
use Rattle.hivevigil.proofs.questions.hv_is_sorted.Goals as goal

pub returns-clause-told : goal.returns-clause-told
returns-clause-told c = λ zero.
    let back = to_z-of_z w32 c.write_answer.result (record { sfits = c.write_answer.type_inv }) in
    let told = subst (λ strict. IfOk c.is_sorted-outcome.result (λ truth. Tells truth (order.IsSorted strict (rows c.deref.result.now.array)))) c.is_set.ensures c.is_sorted-outcome.ensures.told in
    told_sorted (flag_of c.args.strict) (array_in c.args.column.now.column) c.deref.result.now.array c.is_sorted-outcome.result c.write_answer.result _ _ (lent_array c.deref.ensures c.in-Some.ensures.array) told c.write_answer.ensures.ok c.write_answer.ensures.err (sym back ∙ zero)

pub returns-clause-memory : goal.returns-clause-memory
returns-clause-memory c =
    let back = to_z-of_z w32 c.write_answer.result (record { sfits = c.write_answer.type_inv }) in
    subst (λ (code : ℤ). IsNeverShortOn c.args.session.now kernel.IsSorted (array_in c.args.column.now.column) code) (sym back)
    (never_short c.args.session.now kernel.IsSorted (array_in c.args.column.now.column) c.deref.result.now.array c.is_sorted-outcome.result c.write_answer.result c.write_answer.new.place c.write_answer.new.fields (lent_array c.deref.ensures c.in-Some.ensures.array) c.is_sorted-outcome.ensures.memory c.write_answer.ensures.ok c.write_answer.ensures.err)
