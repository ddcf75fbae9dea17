use Rattle.std.proofs.Common.{◌∙◌, Some, ap}
use Rattle.column_base.specs.ValidityForm.{nullability_in}
use Rattle.column_core.specs.ScalarView.{sees}
use Rattle.column_sums.specs.SumAnswer.{number_in}
use Rattle.column_sums.proofs.SingleRows.{number-read, unsigned_view-null, within_numbers}
use Rattle.column_sums.proofs.numbers.unsigned_at.Goals as goal

pub get-requires : goal.get-requires
get-requires g c = within_numbers c.args.array.now c.args.row c.requires.within

pub returns-in-Unsigned : goal.returns-in-Unsigned
returns-in-Unsigned g c =
    let form = c.args.array.now in
    number-read form c.args.row (sees c.get.result) c.get.ensures.row ∙ ap (λ seen. Some (number_in (sees seen))) c.in-Unsigned.is

pub returns-in_default : goal.returns-in_default
returns-in_default g c =
    let form = c.args.array.now in
    let null = unsigned_view-null form.ptype (nullability_in form.validity) c.get.result c.requires.unsigned c.get.ensures.of_type c.in_default.not-Unsigned in
    number-read form c.args.row (sees c.get.result) c.get.ensures.row ∙ ap (λ row. Some (number_in row)) null
