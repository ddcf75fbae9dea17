use Rattle.std.proofs.Common.{take, arith, sym, subst, ◌∙◌}
use Rattle.float_bits.specs.Nearest.{IsNearest}
use Rattle.float_bits.specs.Places.{value}
use Rattle.float_bits.proofs.PlaceValues.{digits_below, value_of_three}
use Rattle.float_bits.proofs.rounding.round.Goals as goal

pub returns : goal.returns
returns c =
    let p = c.window_place-place.result in
    let within = c.window_place-place.ensures.place in
    let digits = c.args.digits.now in
    let e = c.window_place-place.ensures.value ∙ value_of_three digits p (omega (arith, c.requires.places, within)) in
    subst (λ n. IsNearest n c.round_window.result) (sym e)
    (c.round_window.ensures (value (take p digits)) (digits_below digits p c.requires.digits) c.has_digits-is_inexact.ensures)
