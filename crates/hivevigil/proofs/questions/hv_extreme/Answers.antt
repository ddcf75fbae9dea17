use Rattle.std.proofs.Common.{sym, subst, w32, ℤ}
use Rattle.std.proofs.lemmas.Int.{to_z-of_z}
use Rattle.c_columns.specs.Handle.{array_in}
use Rattle.c_columns.specs.InPlace.{IsExtremeNeverShortOn}
use Rattle.c_columns.proofs.Held.{lent_array}
use Rattle.c_columns.proofs.Short.{extreme_never_short}
use Rattle.hivevigil.proofs.questions.hv_extreme.Goals as goal

pub returns-clause-memory : goal.returns-clause-memory
returns-clause-memory c =
    let back = to_z-of_z w32 c.write_answer.result (record { sfits = c.write_answer.type_inv }) in
    subst (λ (code : ℤ). IsExtremeNeverShortOn c.args.session.now (array_in c.args.column.now.column) code) (sym back)
    (extreme_never_short c.args.session.now (array_in c.args.column.now.column) c.deref.result.now.array c.extreme_of-outcome.result c.write_answer.result c.write_answer.new.place c.write_answer.new.fields (lent_array c.deref.ensures c.in-Some.ensures.array) c.extreme_of-outcome.ensures.memory c.write_answer.ensures.ok c.write_answer.ensures.err)
