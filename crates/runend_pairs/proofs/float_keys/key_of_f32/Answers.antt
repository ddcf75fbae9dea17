use Rattle.std.proofs.Common.{◌∙◌, ap, w32, w64, ℤ, to_z, of_z, subst, sym, FitsSigned}
use Rattle.std.proofs.lemmas.Int.{to_z-of_z}
use Rattle.float_bits.specs.declared.formats.FloatFormat.TheVariants.{F32}
use Rattle.float_bits.specs.TotalOrder.{total_key}
use Rattle.runend_pairs.proofs.FloatAnswers.{single_bits, single_key}
use Rattle.runend_pairs.proofs.float_keys.key_of_f32.Goals as goal

pub returns : goal.returns
returns c =
    let long = to_z-of_z w64 c.total_key.result (record { sfits = c.total_key.type_inv }) in
    let key = c.total_key.ensures ∙ ap (total_key F32) c.from.ensures in
    let fits : FitsSigned w32 c.total_key.result = subst (FitsSigned w32) (sym key) (single_key c.f32_to_bits_with_nan-bits.result c.f32_to_bits_with_nan-bits.type_inv) in
    ap (λ (z : ℤ). to_z w32 (of_z w32 z)) long ∙ to_z-of_z w32 c.total_key.result fits ∙ key ∙ ap (total_key F32) (c.f32_to_bits_with_nan-bits.ensures ∙ single_bits c.args.float)
