use Rattle.std.proofs.Common.{◌∙◌, ap, w64}
use Rattle.std.proofs.lemmas.Int.{to_z-of_z}
use Rattle.float_bits.specs.declared.formats.FloatFormat.TheVariants.{F64}
use Rattle.float_bits.specs.TotalOrder.{total_key}
use Rattle.runend_pairs.proofs.FloatAnswers.{double_bits}
use Rattle.runend_pairs.proofs.float_keys.key_of_f64.Goals as goal

pub returns : goal.returns
returns c = to_z-of_z w64 c.total_key.result (record { sfits = c.total_key.type_inv }) ∙ c.total_key.ensures ∙ ap (total_key F64) (c.f64_to_bits_with_nan.ensures ∙ double_bits c.args.float)
