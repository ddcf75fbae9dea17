use Rattle.std.proofs.Common.{◌≡◌, ◌∙◌, ◌<◌, ◌^◌, ◌-◌, ℤ, pos, to_z, of_z, int_lt, unsigned_abs, refl, ap, arith}
use Rattle.std.specs.Int.{w8, w128}
use Rattle.std.proofs.lemmas.Int.{to_z-of_z}
use Rattle.exact_numbers.specs.Exact.{zeros_after}
use Rattle.exact_numbers.specs.Quotients.{dividend_of, divisor_of}
use Rattle.exact_numbers.specs.declared.quotients.Ratio.{Ratio}
use Rattle.exact_numbers.proofs.Among.{decimal_among, decimal_room, divisor_some, AreParts}
use Rattle.exact_numbers.proofs.decimals.decimal_position.Goals as goal

pub quotient-requires : goal.quotient-requires
quotient-requires c =
    let small : c.unsigned_abs.result < 2 ^ 128 = let bound = c.unsigned_abs.ensures.bound in grind (arith) in
    decimal_room _ c.unsigned_abs.result c.zeros_after-wanted.result c.zeros_after-zeros.result
    (record { digits_are = refl; tens_are = c.saturating_sub.ensures; doublings_are = refl; tenths_are = c.saturating_sub-2.ensures; halvings_are = refl })
    small

pub returns : goal.returns
returns c = λ row fits.
    let digits = c.args.digits in
    let w = c.zeros_after-wanted.result in
    let z = c.zeros_after-zeros.result in
    let n = c.unsigned_abs.result in
    let same = to_z-of_z w128 digits c.ranges.digits in
    let size : n ≡ unsigned_abs digits = c.unsigned_abs.ensures.value ∙ ap unsigned_abs same in
    let r : Ratio = record { digits = n; tens = c.saturating_sub.result; doublings = 0; tenths = c.saturating_sub-2.result; halvings = 0 } in
    let parts : AreParts r (unsigned_abs digits) (z - w) 0 (w - z) 0 = record { digits_are = size; tens_are = c.saturating_sub.ensures; doublings_are = refl; tenths_are = c.saturating_sub-2.ensures; halvings_are = refl } in
    let wanted : w ≡ zeros_after c.args.scale = c.zeros_after-wanted.ensures.zeros ∙ ap zeros_after (to_z-of_z w8 c.args.scale c.ranges.scale) in
    let zeros : z ≡ zeros_after c.args.own = c.zeros_after-zeros.ensures.zeros ∙ ap zeros_after (to_z-of_z w8 c.args.own c.ranges.own) in
    let number = to_z w128 (of_z w128 digits) in
    let sign : int_lt number (pos 0) ≡ int_lt digits (pos 0) = ap (λ (d : ℤ). int_lt d (pos 0)) same in
    decimal_among r c.args.scale c.args.own digits w z (int_lt number (pos 0)) c.of_quotient.result wanted zeros parts sign
    (c.of_quotient.ensures (dividend_of r) (divisor_of r) (divisor_some r) c.quotient.ensures) row fits
