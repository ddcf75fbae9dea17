use Rattle.std.proofs.Common.{◌∙◌, ap, min, sym}
use Rattle.runend_array.specs.Array.{column_of, validity_of}
use Rattle.runend_array.specs.Column.{index_of}
use Rattle.runend_array.specs.Lists.{index_count}
use Rattle.row_stretches.proofs.Copies.{lists_stay_by}
use Rattle.row_stretches.proofs.list_stops.stop_of_lists.Goals as goal

pub stop_of_flags-flags-requires-clause-counted : goal.stop_of_flags-flags-requires-clause-counted
stop_of_flags-flags-requires-clause-counted g c = rw (c.validity.ensures.form, c.len-count.ensures.offsets) c.validity.ensures.lists.flagged

pub stop_of_index-offsets-requires-clause-counted : goal.stop_of_index-offsets-requires-clause-counted
stop_of_index-offsets-requires-clause-counted g c = ap index_count c.offsets.ensures.form ∙ sym c.len-count.ensures.offsets

pub stop_of_index-sizes-requires-clause-counted : goal.stop_of_index-sizes-requires-clause-counted
stop_of_index-sizes-requires-clause-counted g c = ap index_count c.sizes.ensures.form ∙ c.validity.ensures.lists.sized ∙ sym c.len-count.ensures.offsets

pub returns : goal.returns
returns g c =
    lists_stay_by c.args.lists.now (validity_of c.validity.result.now) (index_of (column_of c.offsets.result.now)) (index_of (column_of c.sizes.result.now)) c.len-count.result c.args.row c.stop_of_flags-flags.result
    c.stop_of_index-offsets.result c.stop_of_index-sizes.result c.min-2.result c.validity.ensures.form c.offsets.ensures.form c.sizes.ensures.form c.len-count.ensures.offsets c.stop_of_flags-flags.ensures
    c.stop_of_index-offsets.ensures c.stop_of_index-sizes.ensures (c.min-2.ensures ∙ ap (λ n. min n c.stop_of_index-sizes.result) c.min.ensures)
