use Rattle.std.proofs.Common.{rules, ◌∙◌, FitsSigned, ap, sym, w64}
use Rattle.std.proofs.lemmas.Int.{to_z-of_z}
use Rattle.float_bits.specs.declared.formats.FloatFormat.{FloatFormat}
use Rattle.column_floats.proofs.KeyBounds.{bits_of_total_key}
use Rattle.runend_floats.specs.Sums.{row_in}
use Rattle.runend_floats.proofs.FormatRows.{own_row, rounded_is_same, same_row}
use Rattle.runend_floats.proofs.sums.double_of.Goals as goal

pub returns-in-F64 : goal.returns-in-F64
returns-in-F64 c =
    let bits = c.from_total_key-bits.result in
    let fits : FitsSigned w64 c.args.key = search rules in
    let is = bits_of_total_key c.args.format bits c.args.key (c.from_total_key-bits.ensures.key ∙ to_z-of_z w64 c.args.key fits) in
    own_row bits ∙ ap (λ (f : FloatFormat). row_in f bits) (sym c.in-F64.is) ∙ ap (row_in c.args.format) is

pub returns-in_default : goal.returns-in_default
returns-in_default c =
    let bits = c.from_total_key-bits.result in
    let fits : FitsSigned w64 c.args.key = search rules in
    let is = bits_of_total_key c.args.format bits c.args.key (c.from_total_key-bits.ensures.key ∙ to_z-of_z w64 c.args.key fits) in
    same_row c.args.format bits c.round_float.result c.from_total_key-bits.ensures.pattern (rounded_is_same c.args.format bits c.round_float.result c.round_float.ensures)
    ∙ ap (row_in c.args.format) is
