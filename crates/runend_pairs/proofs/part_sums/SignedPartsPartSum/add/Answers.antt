use Rattle.std.proofs.Common.{◌≡◌, ◌∙◌, ap, rules, sym, w64, FitsSigned, None, Some}
use Rattle.std.specs.Prelude.{option_map}
use Rattle.runend_pairs.proofs.PartSums.{signed_added, signed_nulls}
use Rattle.runend_pairs.proofs.part_sums.SignedPartsPartSum.add.Goals as goal

pub returns-in-Some : goal.returns-in-Some
returns-in-Some g c = λ before short kept.
    let number = g.T.NativePType.number in
    let n = c.to_i64.result in
    let own = c.args.self.now in
    let fits : FitsSigned w64 c.to_i64.result = search rules in
    let shown : option_map number c.args.value ≡ Some n = ap (option_map number) c.in-Some.is ∙ ap Some (sym c.to_i64.ensures) in
    rw shown
    (signed_added before own.total own.least own.greatest n c.signed_more-total.result c.lesser-self.result c.greater-self.result c.args.rows short fits
    c.signed_more-total.ensures c.lesser-self.ensures c.greater-self.ensures kept)

pub returns-in_default : goal.returns-in_default
returns-in_default g c = λ before short kept.
    let number = g.T.NativePType.number in
    let own = c.args.self.now in
    let shown : option_map number c.args.value ≡ None = ap (option_map number) c.in_default.is in
    rw shown (signed_nulls before own.total own.least own.greatest c.args.rows kept)
