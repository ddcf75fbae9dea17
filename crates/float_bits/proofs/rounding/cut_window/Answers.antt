use Rattle.std.proofs.Common.{◌/◌, ◌%◌, sym, subst}
use Rattle.float_bits.specs.Window.{IsCut}
use Rattle.float_bits.proofs.Cuts.{is_cut, shifted_one}
use Rattle.float_bits.proofs.rounding.cut_window.Goals as goal

pub returns : goal.returns
returns c =
    let w = c.args.window in
    let d = c.digits_past-digits.result in
    let h = c.digits_past-digits.ensures in
    subst (λ u. IsCut w (w / u) d (w % u) (u / 2)) (sym (shifted_one d h.few)) (is_cut w d h.some h.few h.low h.high)
