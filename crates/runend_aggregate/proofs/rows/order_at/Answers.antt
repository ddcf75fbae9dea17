use Rattle.std.proofs.Common.{◌∙◌, Some, sym, ap}
use Rattle.runend_array.specs.Array.{dtype_of}
use Rattle.runend_aggregate.proofs.SeenRows.{seen_equal}
use Rattle.runend_aggregate.proofs.rows.order_at.Goals as goal

pub returns-clause-equal : goal.returns-clause-equal
returns-clause-equal g c same =
    let a = c.row_of.result in
    let b = c.row_of-2.result in
    let one = seen_equal (dtype_of c.args.values.now) a b c.requires.flat c.row_of.ensures.of_type c.row_of-2.ensures.of_type (sym c.compare_views.ensures ∙ same) in
    c.row_of.ensures.row ∙ ap Some one ∙ sym c.row_of-2.ensures.row
