use Rattle.std.proofs.Common.{◌≡◌, ◌+◌, ◌*◌, ◌%◌, ◌/◌, ◌^◌, ◌<◌, get_or, arith, ap, ◌∙◌}
use Rattle.float_bits.specs.Places.{base, value}
use Rattle.float_bits.proofs.PlaceValues.{two_grow, unchanged_after}
use Rattle.float_bits.proofs.Products.{pair, value_of_pair, word}
use Rattle.float_bits.proofs.bins.add_product.Goals as goal

pub add_at-requires-2-clause-room : goal.add_at-requires-2-clause-room
add_at-requires-2-clause-room c =
    let z = c.args.doublings in
    let m = c.from.result in
    let n = c.from-2.result in
    let few : m < 2 ^ 53 = omega (arith, c.from.ensures, c.requires.digits) in
    let fits : n < 2 ^ 64 = omega (arith, c.from-2.ensures, c.ranges.times.fits) in
    let p = pair m n z few fits in
    let whole = p.high_whole in
    let high = p.high in
    let kept : get_or c.add_at.new.bins (z / 32 + 2) 0 ≡ get_or c.args.bins.now (z / 32 + 2) 0 =
    ap (λ q. get_or q (z / 32 + 2) 0) c.add_at.ensures.bins ∙ unchanged_after c.args.bins.now (z / 32) _ (z / 32 + 2) (omega arith) in
    let room : get_or c.args.bins.now (z / 32 + 2) 0 < 2 ^ 127 = c.requires.room (z / 32 + 2) in
    omega (arith, kept, room, whole, high)

pub returns-clause-value : goal.returns-clause-value
returns-clause-value c =
    let z = c.args.doublings in
    let m = c.from.result in
    let n = c.from-2.result in
    let few : m < 2 ^ 53 = omega (arith, c.from.ensures, c.requires.digits) in
    let fits : n < 2 ^ 64 = omega (arith, c.from-2.ensures, c.ranges.times.fits) in
    let p = pair m n z few fits in
    let v = value c.args.bins.now in
    c.add_at-2.ensures.value
    ∙ ap (λ q. value c.add_at.new.bins + q * base ^ (z / 32 + 2)) p.high_whole
    ∙ ap (λ q. q + m * n / word * 2 ^ (z % 32) * base ^ (z / 32 + 2)) (c.add_at.ensures.value ∙ ap (λ q. v + q * base ^ (z / 32)) p.low_whole)
    ∙ value_of_pair m n z v
    ∙ ap (λ q. v + q * (m * 2 ^ z)) c.from-2.ensures
    ∙ ap (λ q. v + c.args.times * (q * 2 ^ z)) c.from.ensures

pub returns-clause-bins : goal.returns-clause-bins
returns-clause-bins c =
    let z = c.args.doublings in
    let m = c.from.result in
    let n = c.from-2.result in
    let few : m < 2 ^ 53 = omega (arith, c.from.ensures, c.requires.digits) in
    let fits : n < 2 ^ 64 = omega (arith, c.from-2.ensures, c.ranges.times.fits) in
    let p = pair m n z few fits in
    rw (c.add_at-2.ensures.bins, c.add_at.ensures.bins, p.high_whole, p.low_whole)
    (two_grow c.args.bins.now (z / 32) (z / 32 + 2) _ _ (2 ^ 96) (omega arith) p.low p.high)
