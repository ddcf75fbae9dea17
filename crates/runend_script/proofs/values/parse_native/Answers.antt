use Rattle.std.proofs.Common.{◌∙◌, subst, w64}
use Rattle.std.specs.Int.{w128}
use Rattle.std.proofs.lemmas.Int.{to_z-of_z}
use Rattle.column_base.specs.Number.{Narrows}
use Rattle.column_base.specs.Types.{HasNumber}
use Rattle.runend_script.proofs.FloatKeys.{key_read}
use Rattle.runend_script.proofs.values.parse_native.Goals as goal

pub returns-in_err-parse_float-in-Floats : goal.returns-in_err-parse_float-in-Floats
returns-in_err-parse_float-in-Floats g c =
    rw (c.from_residual-in_err-parse_float-in-Floats.ensures, c.in-Floats.is) (λ z means. c.in_err-parse_float-in-Floats.ensures.float means.0 means.1)

pub returns-in_ok-parse_float-in-Floats : goal.returns-in_ok-parse_float-in-Floats
returns-in_ok-parse_float-in-Floats g c =
    let key = to_z-of_z w64 c.total_key.result (record { sfits = c.total_key.type_inv }) in
    let widened = to_z-of_z w128 c.from.result (record { sfits = c.from.type_inv }) in
    rw c.in-Floats.is (key_read g.T.NativePType.number c.in-Floats.format g.T.NativePType.PTYPE c.args.word.now c.in_ok-parse_float-in-Floats.field-0 c.narrow-in-Floats.result
    (rw c.in-Floats.is at c.requires) c.in_ok-parse_float-in-Floats.ensures.float c.in_ok-parse_float-in-Floats.ensures.pattern
    (subst (λ key. Narrows g.T.NativePType.number (HasNumber g.T.NativePType.PTYPE) key c.narrow-in-Floats.result) (widened ∙ c.from.ensures ∙ key ∙ c.total_key.ensures) c.narrow-in-Floats.ensures))
