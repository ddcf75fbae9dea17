use Rattle.std.proofs.Common.{◌≡◌, ◌∙◌, ◌-◌, ap}
use Rattle.std.proofs.lemmas.Int.{to_z-of_z}
use Rattle.std.specs.Int.{w8}
use Rattle.std.specs.Prelude.{not}
use Rattle.exact_numbers.specs.Exact.{zeros_after}
use Rattle.exact_numbers.specs.Quotients.{dividend_of, divisor_of}
use Rattle.exact_numbers.specs.declared.quotients.Ratio.{Ratio}
use Rattle.exact_numbers.proofs.Among.{divisor_some, float_among, float_room, not_twice, AreParts}
use Rattle.exact_numbers.proofs.floats.FiniteFloat.position.Goals as goal

pub quotient-requires : goal.quotient-requires
quotient-requires c =
    let x = c.args.self in
    float_room _ x.digits x.doublings c.zeros_after-wanted.result
    (record { digits_are = c.from.ensures; tens_are = c.saturating_sub.ensures; doublings_are = c.saturating_sub-2.ensures; tenths_are = c.saturating_sub-3.ensures; halvings_are = c.saturating_sub-4.ensures })
    c.requires.digits c.zeros_after-wanted.ensures.few

pub returns : goal.returns
returns c = λ row fits.
    let x = c.args.self in
    let w = c.zeros_after-wanted.result in
    let r : Ratio = record { digits = c.from.result; tens = c.saturating_sub.result; doublings = c.saturating_sub-2.result; tenths = c.saturating_sub-3.result; halvings = c.saturating_sub-4.result } in
    let parts : AreParts r x.digits (127 - w) (x.doublings - 1074) (w - 127) (1074 - x.doublings) = record { digits_are = c.from.ensures; tens_are = c.saturating_sub.ensures; doublings_are = c.saturating_sub-2.ensures; tenths_are = c.saturating_sub-3.ensures; halvings_are = c.saturating_sub-4.ensures } in
    let wanted : w ≡ zeros_after c.args.scale = c.zeros_after-wanted.ensures.zeros ∙ ap zeros_after (to_z-of_z w8 c.args.scale c.ranges.scale) in
    float_among r c.args.scale x.is_positive w x.digits x.doublings (not x.is_positive) c.of_quotient.result wanted parts (not_twice x.is_positive)
    (c.of_quotient.ensures (dividend_of r) (divisor_of r) (divisor_some r) c.quotient.ensures) row fits
