use Rattle.std.proofs.Common.{◌≡◌, ◌∙◌, ap, pos, sym, None, Some}
use Rattle.std.specs.Prelude.{option_map}
use Rattle.runend_pairs.proofs.PartSums.{unsigned_added, unsigned_nulls}
use Rattle.runend_pairs.proofs.part_sums.UnsignedPartsPartSum.add.Goals as goal

pub returns-in-Some : goal.returns-in-Some
returns-in-Some g c = λ before short kept.
    let number = g.T.NativePType.number in
    let n = c.to_u64.result in
    let own = c.args.self.now in
    let shown : option_map number c.args.value ≡ Some (pos n) =
    ap (option_map number) c.in-Some.is ∙ ap Some (g.met.T.UnsignedPType.natural_law c.in-Some.number ∙ ap pos (sym c.to_u64.ensures)) in
    rw shown (unsigned_added before own.total n c.unsigned_more-self.result c.args.rows short c.to_u64.type_inv c.unsigned_more-self.ensures kept)

pub returns-in_default : goal.returns-in_default
returns-in_default g c = λ before short kept.
    let number = g.T.NativePType.number in
    let own = c.args.self.now in
    let shown : option_map number c.args.value ≡ None = ap (option_map number) c.in_default.is in
    rw shown (unsigned_nulls before own.total c.args.rows kept)
