use Rattle.std.proofs.Common.{◌∙◌, ap, sym, subst, w32, ℤ}
use Rattle.std.specs.Prelude.{Some}
use Rattle.std.proofs.lemmas.Int.{to_z-of_z}
use Rattle.c_columns.specs.Builders.{EndsOnBuilder, PassedAppendFault}
use Rattle.hivevigil.proofs.BuilderEndings.{builder_ends}
use Rattle.hivevigil.proofs.encodings.hv_append_value.Goals as goal

pub returns-clause-ended : goal.returns-clause-ended
returns-clause-ended c =
    let back = to_z-of_z w32 c.write_status.result (record { sfits = c.write_status.type_inv }) in
    subst (λ (code : ℤ). EndsOnBuilder (λ built. PassedAppendFault built c.args.value.now c.args.text.now c.args.count) c.args.builder.now.built code c.write_status.new.fields) (sym back)
    (builder_ends c.append_passed-outcome.result (λ built. PassedAppendFault built c.args.value.now c.args.text.now c.args.count) c.args.builder.now.built c.deref_mut.result.now c.write_status.result
    c.write_status.new.fields (c.in-Some.ensures.found ∙ ap Some (sym c.deref_mut.ensures.value)) c.append_passed-outcome.ensures.served c.append_passed-outcome.ensures.refused c.write_status.ensures.ok
    c.write_status.ensures.err)
