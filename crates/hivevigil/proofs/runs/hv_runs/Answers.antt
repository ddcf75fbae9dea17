use Rattle.std.proofs.Common.{sym, subst, w32, ℤ}
use Rattle.std.proofs.lemmas.Int.{to_z-of_z}
use Rattle.c_columns.specs.Ending.{EndsOnParts}
use Rattle.c_columns.specs.Handle.{array_in}
use Rattle.c_columns.specs.RunParts.{RunsFault}
use Rattle.c_columns.proofs.Held.{lent_array}
use Rattle.hivevigil.proofs.PartEndings.{parts_end}
use Rattle.hivevigil.proofs.runs.hv_runs.Goals as goal

pub returns-clause-ended : goal.returns-clause-ended
returns-clause-ended c =
    let back = to_z-of_z w32 c.answer.result (record { sfits = c.answer.type_inv }) in
    subst (λ (code : ℤ). EndsOnParts (RunsFault c.args.offset c.args.count) (array_in c.args.ends.now.column) (array_in c.args.values.now.column) code c.answer.new.error) (sym back)
    (parts_end c.run_column-outcome.result (λ made. made.value) (RunsFault c.args.offset c.args.count) (array_in c.args.ends.now.column) (array_in c.args.values.now.column) c.answer.new.out.column _ c.deref.result.now.array c.deref-2.result.now.array
    c.answer.result c.answer.new.error (lent_array c.deref.ensures c.in-Some.ensures.array) (lent_array c.deref-2.ensures c.in-Some-take.ensures.array) c.run_column-outcome.ensures.served
    c.run_column-outcome.ensures.refused c.answer.ensures.ok c.answer.ensures.err)
