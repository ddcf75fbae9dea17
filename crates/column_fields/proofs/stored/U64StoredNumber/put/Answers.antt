use Rattle.std.proofs.Common.{arith, ap, length}
use Rattle.column_fields.proofs.RoomLaws.{refused}
use Rattle.column_fields.proofs.stored.U64StoredNumber.put.Goals as goal

pub returns-in_err-put_slice-clause-room : goal.returns-in_err-put_slice-clause-room
returns-in_err-put_slice-clause-room g c = refused _ _ _ _ c.from_residual.ensures.0 (omega (arith, ap length c.to_le_bytes.ensures, c.in_err-put_slice.ensures.spare.0))

pub returns-clause-room : goal.returns-clause-room
returns-clause-room g c = omega (arith, ap length c.to_le_bytes.ensures, c.in_ok-put_slice.ensures.spare)
