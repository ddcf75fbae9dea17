use Rattle.std.proofs.Common.{◌≡◌, ◌∙◌, sym, subst, pos, w32, ℤ}
use Rattle.std.specs.Prelude.{MatchOption, Option}
use Rattle.std.proofs.lemmas.Int.{to_z-of_z}
use Rattle.column_base.specs.declared.dtype.DType.{DType}
use Rattle.c_columns.specs.Ending.{EndsOnParts}
use Rattle.c_columns.specs.Handle.{array_in}
use Rattle.c_columns.specs.Kinds.{dtype_by}
use Rattle.c_columns.specs.RunParts.{RecordedFault}
use Rattle.c_columns.proofs.Held.{lent_array}
use Rattle.hivevigil.proofs.PartEndings.{parts_end}
use Rattle.hivevigil.proofs.runs.hv_deserialize.Goals as goal

pub returns-clause-ended : goal.returns-clause-ended
returns-clause-ended c =
    let back = to_z-of_z w32 c.answer.result (record { sfits = c.answer.type_inv }) in
    subst (λ (code : ℤ). MatchOption (dtype_by c.args.kind.now.number c.args.kind.now) (code ≡ pos 23) (λ dtype. EndsOnParts (RecordedFault c.args.bytes.now dtype c.args.count) (array_in c.args.ends.now.column) (array_in c.args.values.now.column) code c.answer.new.error)) (sym back)
    (subst (λ (given : Option DType). MatchOption given (c.answer.result ≡ pos 23) (λ dtype. EndsOnParts (RecordedFault c.args.bytes.now dtype c.args.count) (array_in c.args.ends.now.column) (array_in c.args.values.now.column) c.answer.result c.answer.new.error))
    (sym c.in-Some.is ∙ c.dtype_of.ensures)
    (parts_end c.recorded_column-outcome.result (λ made. made.value) (RecordedFault c.args.bytes.now c.in-Some.dtype c.args.count) (array_in c.args.ends.now.column) (array_in c.args.values.now.column) c.answer.new.out.column _ c.deref.result.now.array
    c.deref-2.result.now.array c.answer.result c.answer.new.error (lent_array c.deref.ensures c.in-Some-take.ensures.array) (lent_array c.deref-2.ensures c.in-Some-take-2.ensures.array)
    c.recorded_column-outcome.ensures.served c.recorded_column-outcome.ensures.refused c.answer.ensures.ok c.answer.ensures.err))
