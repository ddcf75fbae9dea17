use Rattle.std.proofs.Common.{◌∙◌, ap, rules, FitsSigned, arith, length}
use Rattle.std.specs.Int.{w128}
use Rattle.std.proofs.lemmas.Int.{to_z-of_z}
use Rattle.column_fields.specs.DecimalBytes.{decimal_bytes}
use Rattle.column_fields.proofs.DecimalLaws.{two_put, pairs_shown, length-decimal_bytes}
use Rattle.column_fields.proofs.RoomLaws.{refused, two_long}
use Rattle.column_fields.proofs.decimals.put_decimal.Goals as goal

pub returns-clause-ok : goal.returns-clause-ok
returns-clause-ok g c =
    let fits : FitsSigned w128 c.args.number = search rules in
    let again = ap decimal_bytes (to_z-of_z w128 c.args.number fits) in
    two_put c.args.number (g.W.BufMut.written c.args.out.now) _ _ _ _ (pairs_shown _ _ _ _ _ c.to_le_bytes.ensures c.to_le_bytes-2.ensures (c.words_of-low.ensures ∙ again)) c.as_flattened.ensures.value c.in_ok-put_slice.ensures.ok

pub returns-in_err-put_slice-clause-room : goal.returns-in_err-put_slice-clause-room
returns-in_err-put_slice-clause-room g c = refused _ _ _ _ c.from_residual.ensures.0 (omega (arith, two_long _ c.to_le_bytes.result c.to_le_bytes-2.result c.as_flattened.ensures.value, ap length c.to_le_bytes.ensures, ap length c.to_le_bytes-2.ensures, length-decimal_bytes c.args.number, c.in_err-put_slice.ensures.spare.0))

pub returns-clause-room : goal.returns-clause-room
returns-clause-room g c = omega (arith, two_long _ c.to_le_bytes.result c.to_le_bytes-2.result c.as_flattened.ensures.value, ap length c.to_le_bytes.ensures, ap length c.to_le_bytes-2.ensures, length-decimal_bytes c.args.number, c.in_ok-put_slice.ensures.spare)
