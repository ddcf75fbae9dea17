use Rattle.std.proofs.Common.{◌≡◌, ◌∙◌, ℤ, FitsSigned, ◌++◌, ap, rules, arith}
use Rattle.std.specs.Int.{w128}
use Rattle.std.proofs.lemmas.Int.{to_z-of_z}
use Rattle.column_fields.specs.NumberBytes.{number_bytes}
use Rattle.column_fields.proofs.RoomLaws.{refused}
use Rattle.column_fields.proofs.NumberSame.{length-number_bytes}
use Rattle.column_fields.proofs.numbers.put_one.Goals as goal

pub returns-clause-ok : goal.returns-clause-ok
returns-clause-ok g c =
    let t = g.T.NativePType.PTYPE in
    let fits : FitsSigned w128 c.args.number = search rules in
    let same : g.T.NativePType.number c.in-Some.item ≡ c.args.number = c.in-Some.ensures.1 ∙ to_z-of_z w128 c.args.number fits in
    c.in_ok-put.ensures.ok ∙ ap (λ (n : ℤ). (g.W.BufMut.written c.args.out.now) ++ number_bytes t n) same

pub returns-in_err-put-clause-room : goal.returns-in_err-put-clause-room
returns-in_err-put-clause-room g c = refused _ _ _ _ c.from_residual.ensures.0 (omega (arith, length-number_bytes g.T.NativePType.PTYPE c.args.number, length-number_bytes g.T.NativePType.PTYPE (g.T.NativePType.number c.in-Some.item), c.in_err-put.ensures.room))

pub returns-clause-room : goal.returns-clause-room
returns-clause-room g c = omega (arith, length-number_bytes g.T.NativePType.PTYPE c.args.number, length-number_bytes g.T.NativePType.PTYPE (g.T.NativePType.number c.in-Some.item), c.in_ok-put.ensures.room)
