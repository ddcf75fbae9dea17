use Rattle.std.proofs.Common.{◌∙◌, ap, arith, rules, FitsSigned}
use Rattle.std.specs.Int.{w128, cast_unsigned}
use Rattle.std.proofs.lemmas.Int.{to_z-of_z}
use Rattle.column_fields.proofs.DecimalLaws.{words_shown}
use Rattle.column_fields.proofs.decimals.words_of.Goals as goal

pub returns : goal.returns
returns c =
    let fits : FitsSigned w128 c.args.number = search rules in
    words_shown c.args.number c.cast_unsigned-unsigned.result _ _ (c.cast_unsigned-unsigned.ensures ∙ ap (cast_unsigned w128) (to_z-of_z w128 c.args.number fits)) (omega arith) (omega arith)
