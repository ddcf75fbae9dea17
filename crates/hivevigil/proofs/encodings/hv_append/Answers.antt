use Rattle.std.proofs.Common.{◌∙◌, ap, sym, subst, w32, ℤ}
use Rattle.std.specs.Prelude.{Some}
use Rattle.std.proofs.lemmas.Int.{to_z-of_z}
use Rattle.c_columns.specs.Builders.{EndsOnAppend}
use Rattle.c_columns.specs.Handle.{array_in}
use Rattle.c_columns.proofs.Held.{lent_array}
use Rattle.hivevigil.proofs.BuilderEndings.{append_ends}
use Rattle.hivevigil.proofs.encodings.hv_append.Goals as goal

pub returns-clause-ended : goal.returns-clause-ended
returns-clause-ended c =
    let back = to_z-of_z w32 c.write_status.result (record { sfits = c.write_status.type_inv }) in
    subst (λ (code : ℤ). EndsOnAppend c.args.builder.now.built (array_in c.args.column.now.column) code c.write_status.new.fields) (sym back)
    (append_ends c.append_column-outcome.result c.args.builder.now.built (array_in c.args.column.now.column) c.deref_mut.result.now c.deref.result.now.array c.write_status.result c.write_status.new.fields
    (c.in-Some.ensures.found ∙ ap Some (sym c.deref_mut.ensures.value)) (lent_array c.deref.ensures c.in-Some-take.ensures.array) c.append_column-outcome.ensures.refused c.write_status.ensures.ok
    c.write_status.ensures.err)
