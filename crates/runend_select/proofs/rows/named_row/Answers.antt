use Rattle.std.proofs.Common.{◌^◌, Some, ap, ◌∙◌, sym}
use Rattle.column_base.specs.Mask.{mask_bits}
use Rattle.runend_select.specs.Indices.{optional_indices}
use Rattle.runend_select.proofs.Bounds.{in_bounds_at, index_at, null_index_at}
use Rattle.runend_select.proofs.Casts.{row_fits, row_number}
use Rattle.runend_select.proofs.rows.named_row.Goals as goal

pub overflow_cast-result : goal.overflow_cast-result
overflow_cast-result g c =
    let number = g.T.NativePType.number in
    let indices = optional_indices number c.args.indices.now (mask_bits c.args.mask.now) in
    let valid = c.is_valid.ensures ∙ ap Some c.if-is_valid.true in
    let at = index_at number c.args.indices.now (mask_bits c.args.mask.now) c.args.place c.index-indices-place.result c.requires.within c.index-indices-place.is valid in
    let bounds = in_bounds_at indices (2 ^ 64) c.args.place (number c.index-indices-place.result) c.requires.in_bounds at in
    row_fits c.widen.result (record { sfits = c.widen.type_inv }) (rw c.widen.ensures bounds.0) (rw c.widen.ensures bounds.1)

pub returns-then-is_valid : goal.returns-then-is_valid
returns-then-is_valid g c =
    let number = g.T.NativePType.number in
    let indices = optional_indices number c.args.indices.now (mask_bits c.args.mask.now) in
    let valid = c.is_valid.ensures ∙ ap Some c.if-is_valid.true in
    let at = index_at number c.args.indices.now (mask_bits c.args.mask.now) c.args.place c.index-indices-place.result c.requires.within c.index-indices-place.is valid in
    let bounds = in_bounds_at indices (2 ^ 64) c.args.place (number c.index-indices-place.result) c.requires.in_bounds at in
    let same = row_number c.widen.result (record { sfits = c.widen.type_inv }) (rw c.widen.ensures bounds.0) in
    at ∙ ap (λ n. Some (Some n)) (sym c.widen.ensures ∙ sym same)

pub returns-else-is_valid : goal.returns-else-is_valid
returns-else-is_valid g c = null_index_at g.T.NativePType.number c.args.indices.now (mask_bits c.args.mask.now) c.args.place c.requires.within (c.is_valid.ensures ∙ ap Some c.if-is_valid.false)
