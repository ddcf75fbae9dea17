use Rattle.std.proofs.Common.{◌≡◌, ◌-◌, ◌<◌, length, map, slice_index, ◌∙◌, arith}
use Rattle.std.proofs.lemmas.List.{get_or-map, length-map, map-set}
use Rattle.runend_encode.proofs.Moved.{moved-all, moved-next, moved-none, read-here}
use Rattle.runend_encode.proofs.shifted.move_ends.Goals as goal

pub earlier-requires : goal.earlier-requires
earlier-requires g c =
    let within : c.loop-end.end-index < length c.args.ends.now = omega arith in
    let here = read-here g.E.UnsignedPType.natural c.loop-end.ends c.args.ends.now c.args.rows c.loop-end.end-index c.end-item.result (omega arith) within c.loop-end.invariant in
    let past = c.requires c.loop-end.end-index c.end-item.result within in
    omega arith

pub loop-end-preserved : goal.loop-end-preserved
loop-end-preserved g c =
    let natural = g.E.UnsignedPType.natural in
    let i = c.loop-end.end-index in
    let within : i < length c.args.ends.now = omega arith in
    let here = read-here natural c.loop-end.ends c.args.ends.now c.args.rows i c.end-item.result (omega arith) within c.loop-end.invariant in
    let before = get_or-map natural c.args.ends.now i c.end-item.result 0 within in
    let long = length-map c.args.ends.now natural in
    let is : natural c.earlier.result ≡ slice_index (map natural c.args.ends.now) i - c.args.rows = omega (arith, c.earlier.ensures) in
    map-set natural c.loop-end.ends i c.earlier.result
    ∙ moved-next (map natural c.loop-end.ends) (map natural c.args.ends.now) c.args.rows i (natural c.earlier.result) (omega arith) is c.loop-end.invariant

pub returns-after-loop-end : goal.returns-after-loop-end
returns-after-loop-end g c =
    let natural = g.E.UnsignedPType.natural in
    let long = length-map c.args.ends.now natural in
    moved-all (map natural c.loop-end.ends) (map natural c.args.ends.now) c.args.rows c.loop-end.end-index (omega arith) c.loop-end.invariant

pub returns-else-rows-ne0 : goal.returns-else-rows-ne0
returns-else-rows-ne0 g c = moved-none (map g.E.UnsignedPType.natural c.args.ends.now) c.args.rows (omega arith)
