use Rattle.std.proofs.Common.{◌+◌, ◌<◌, ◌^◌, pos, length, ℕ, ap, ◌∙◌, arith}
use Rattle.std.specs.Prelude.{option_map, slice_index}
use Rattle.column_base.specs.Mask.{mask_bits}
use Rattle.runend_select.specs.Indices.{item_of, optional_indices}
use Rattle.runend_select.proofs.Bounds.{AreInBounds-wider}
use Rattle.runend_select.proofs.Places.{answered-all, answered-more, item_at, length-optional_indices}
use Rattle.runend_select.proofs.IndexRows.{named_within}
use Rattle.runend_select.proofs.table.looked_up.Goals as goal

pub named_row-requires-clause-in_bounds : goal.named_row-requires-clause-in_bounds
named_row-requires-clause-in_bounds g c =
    AreInBounds-wider (optional_indices g.T.NativePType.number c.args.indices.now (mask_bits c.args.mask.now)) (length c.args.table.now) (2 ^ 64) (omega arith) c.requires.in_bounds

pub loop-place-preserved : goal.loop-place-preserved
loop-place-preserved g c =
    let indices = optional_indices g.T.NativePType.number c.args.indices.now (mask_bits c.args.mask.now) in
    let table = c.args.table.now in
    let row = c.named_row.result in
    let inv = c.loop-place.invariant in
    let within : c.unwrap_or-row.result < length table = rw c.unwrap_or-row.ensures (named_within indices (length table) c.loop-place.place row c.requires.some c.requires.in_bounds c.named_row.ensures) in
    let item = ap (slice_index table) c.unwrap_or-row.ensures ∙ item_at table row in
    record {
      answered = rw c.push_reserved.ensures.items (answered-more (item_of table) indices c.loop-place.runs.items c.loop-place.place (slice_index table c.unwrap_or-row.result)
          (option_map (λ (n : ℕ). pos n) row) c.named_row.ensures inv.answered item);
      counted = c.push_reserved.ensures.len ∙ ap (λ n. n + 1) inv.counted;
      room = rw c.push_reserved.ensures.capacity inv.room;
    }

pub returns : goal.returns
returns g c =
    let indices = optional_indices g.T.NativePType.number c.args.indices.now (mask_bits c.args.mask.now) in
    let counted = length-optional_indices g.T.NativePType.number c.args.indices.now (mask_bits c.args.mask.now) c.requires.masked in
    answered-all (item_of c.args.table.now) indices c.loop-place.runs.items c.loop-place.place (omega arith) c.loop-place.invariant.answered
