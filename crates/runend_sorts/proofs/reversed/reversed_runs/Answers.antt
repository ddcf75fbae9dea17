use Rattle.std.proofs.Common.{◌∙◌, ap, arith, length, reverse, subst, sym}
use Rattle.std.proofs.lemmas.List.{length-reverse}
use Rattle.column_core.specs.FlatColumn.{leaf_of}
use Rattle.column_core.specs.Leaf.{leaf_dtype, leaf_rows, single_rows}
use Rattle.runend_array.specs.Array.{column_of, dtype_of, rows}
use Rattle.runend_sorts.specs.Stretches.{AreWithin, stretch_rows}
use Rattle.runend_sorts.proofs.Answered.{encoded_as}
use Rattle.runend_sorts.proofs.Orders.{reversed_stretches, reversed_within}
use Rattle.runend_sorts.proofs.reversed.reversed_runs.Goals as goal

pub in_order-reversed-requires-clause-within : goal.in_order-reversed-requires-clause-within
in_order-reversed-requires-clause-within g c =
    let count = length (leaf_rows (leaf_of c.in_ok-runs.runs.values)) in
    let within = subst (λ n. AreWithin n c.in-Ok.order.items) (sym c.in_ok-runs.ensures.runs.paired) c.in-Ok.ensures.within in
    subst (AreWithin count) (sym (c.deref.ensures.value ∙ c.reverse.ensures.items)) (reversed_within count c.in-Ok.order.items within)

pub in_order-reversed-requires-clause-small : goal.in_order-reversed-requires-clause-small
in_order-reversed-requires-clause-small g c =
    let values = single_rows (leaf_of c.in_ok-runs.runs.values) in
    let shown = ap (stretch_rows values) (c.deref.ensures.value ∙ c.reverse.ensures.items) ∙ reversed_stretches values c.in-Ok.order.items
    ∙ ap reverse (c.in-Ok.ensures.rows ∙ c.in_ok-runs.ensures.runs.shown) in
    let many = ap length shown ∙ length-reverse (rows c.args.array.now) in
    omega (arith, many, c.in_ok-runs.ensures.runs.small)

pub returns-clause-encoded : goal.returns-clause-encoded
returns-clause-encoded g c =
    let leaf = leaf_of c.in_ok-runs.runs.values in
    let values = single_rows leaf in
    let shown = ap (stretch_rows values) (c.deref.ensures.value ∙ c.reverse.ensures.items) ∙ reversed_stretches values c.in-Ok.order.items
    ∙ ap reverse (c.in-Ok.ensures.rows ∙ c.in_ok-runs.ensures.runs.shown) in
    encoded_as column_of c.in_order-reversed.result (reverse (rows c.args.array.now)) (dtype_of c.args.array.now) (stretch_rows values c.deref.result.now) (leaf_dtype leaf) shown c.in_ok-runs.ensures.runs.typed
    c.in_order-reversed.ensures.encoded
