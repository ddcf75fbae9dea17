use Rattle.std.proofs.Common.{◌≡◌, length, ap, ◌∙◌, ℕ, arith, rules, FitsSigned}
use Rattle.std.specs.Int.{w8}
use Rattle.std.proofs.lemmas.Int.{to_z-of_z}
use Rattle.column_fields.specs.DecimalFields.{scale_number}
use Rattle.column_fields.specs.Field.{number_field}
use Rattle.column_fields.proofs.SizeLaws.{decimal_type_long}
use Rattle.column_fields.proofs.sizes.decimal_type_size.Goals as goal

pub returns-clause-size : goal.returns-clause-size
returns-clause-size c =
    let fits : FitsSigned w8 c.args.decimal.scale = search rules in
    let scale : c.number_size-2.result ≡ length (number_field 15 (scale_number c.args.decimal.scale)) = c.number_size-2.ensures.size ∙ ap (λ (n : ℕ). length (number_field 15 n)) (c.number_of_scale.ensures.number ∙ ap scale_number (to_z-of_z w8 c.args.decimal.scale fits)) in
    let precision : c.number_size.result ≡ length (number_field 14 c.args.decimal.precision) = c.number_size.ensures.size ∙ ap (λ (n : ℕ). length (number_field 14 n)) c.from.ensures in
    omega (arith, decimal_type_long c.args.decimal, scale, precision)
