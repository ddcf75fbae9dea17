use Rattle.std.proofs.Common.{rules, ◌∙◌, Some, ap, w64, FitsSigned}
use Rattle.std.proofs.lemmas.Int.{to_z-of_z}
use Rattle.column_base.specs.ValidityForm.{nullability_in}
use Rattle.column_core.specs.ScalarView.{sees}
use Rattle.column_sums.specs.SumAnswer.{number_in}
use Rattle.column_sums.proofs.SingleRows.{number-read, signed_view-null, within_numbers}
use Rattle.column_sums.proofs.numbers.signed_at.Goals as goal

pub get-requires : goal.get-requires
get-requires g c = within_numbers c.args.array.now c.args.row c.requires.within

pub returns-in-Signed : goal.returns-in-Signed
returns-in-Signed g c =
    let form = c.args.array.now in
    let fits : FitsSigned w64 c.in-Signed.number = search rules in
    rw (to_z-of_z w64 c.in-Signed.number fits)
    (number-read form c.args.row (sees c.get.result) c.get.ensures.row ∙ ap (λ seen. Some (number_in (sees seen))) c.in-Signed.is)

pub returns-in_default : goal.returns-in_default
returns-in_default g c =
    let form = c.args.array.now in
    let null = signed_view-null form.ptype (nullability_in form.validity) c.get.result c.requires.signed c.get.ensures.of_type c.in_default.not-Signed in
    number-read form c.args.row (sees c.get.result) c.get.ensures.row ∙ ap (λ row. Some (number_in row)) null
