use Rattle.std.proofs.Common.{◌≡◌, ◌∙◌, ap, pos, sym, None, Some}
use Rattle.std.specs.Prelude.{option_map}
use Rattle.runend_pairs.proofs.RowTotals.{unsigned_room, IsUnsignedTotal-more, IsUnsignedTotal-nulls}
use Rattle.runend_pairs.proofs.sums.UnsignedTotalFoldU64.add.Goals as goal

pub returns-in-Some : goal.returns-in-Some
returns-in-Some g c = λ before some short kept.
    let number = g.T.NativePType.number in
    let n = c.to_u64.result in
    let own = c.args.self.now in
    let shown : option_map number c.args.value ≡ Some (pos n) =
    ap (option_map number) c.in-Some.is ∙ ap Some (g.met.T.UnsignedPType.natural_law c.in-Some.number ∙ ap pos (sym c.to_u64.ensures)) in
    let room = unsigned_room before own.total n own.some c.args.rows c.to_u64.type_inv short kept in
    rw shown (IsUnsignedTotal-more before own.total n c.unsigned_more-self.result own.some c.args.rows some c.to_u64.type_inv (c.unsigned_more-self.ensures room) kept)

pub returns-in_default : goal.returns-in_default
returns-in_default g c = λ before some short kept.
    let number = g.T.NativePType.number in
    let own = c.args.self.now in
    let shown : option_map number c.args.value ≡ None = ap (option_map number) c.in_default.is in
    rw shown (IsUnsignedTotal-nulls before own.total own.some c.args.rows kept)
