use Rattle.std.proofs.Common.{arith, refl}
use Rattle.column_fields.proofs.VarintForms.{is_written}
use Rattle.column_fields.proofs.ShortestVarints.{one_more, appended}
use Rattle.column_fields.proofs.KeptLaws.{kept_same, kept_behind, kept_on}
use Rattle.column_fields.proofs.RoomLaws.{refused, varint_more, varint_some}
use Rattle.column_fields.proofs.fields.put_varint.Goals as goal

pub loop-rest-init : goal.loop-rest-init
loop-rest-init g c = record {
  shows = λ tail compact. record { bytes = tail; compact = compact; parts = refl };
  kept = kept_same _ _ refl;
  room = omega arith;
}

pub loop-rest-preserved : goal.loop-rest-preserved
loop-rest-preserved g c = record {
  shows = one_more _ _ _ _ _ (omega arith) c.in_ok-put_u8.ensures.ok c.loop-rest.invariant.shows;
  kept = kept_on _ _ _ c.loop-rest.invariant.kept (kept_behind _ _ _ c.in_ok-put_u8.ensures.ok);
  room = omega (arith, varint_more c.loop-rest.rest (omega arith) (omega arith), c.loop-rest.invariant.room, c.in_ok-put_u8.ensures.spare);
}

pub returns-in_err-put_u8-clause-kept : goal.returns-in_err-put_u8-clause-kept
returns-in_err-put_u8-clause-kept g c = kept_on _ _ _ c.loop-rest.invariant.kept (kept_same _ _ c.in_err-put_u8.ensures.err)

pub returns-in_err-put_u8-2-clause-kept : goal.returns-in_err-put_u8-2-clause-kept
returns-in_err-put_u8-2-clause-kept g c = kept_on _ _ _ c.loop-rest.invariant.kept (kept_same _ _ c.in_err-put_u8-2.ensures.err)

pub returns-clause-ok : goal.returns-clause-ok
returns-clause-ok g c = is_written _ _ _ (appended _ _ _ _ _ (omega arith) (omega arith) c.in_ok-put_u8-2.ensures.ok c.loop-rest.invariant.shows)

pub returns-in_err-put_u8-clause-room : goal.returns-in_err-put_u8-clause-room
returns-in_err-put_u8-clause-room g c = refused _ _ _ _ c.from_residual.ensures.0 (omega (arith, varint_some c.loop-rest.rest (omega arith), c.loop-rest.invariant.room, c.in_err-put_u8.ensures.spare.0))

pub returns-in_err-put_u8-2-clause-room : goal.returns-in_err-put_u8-2-clause-room
returns-in_err-put_u8-2-clause-room g c = refused _ _ _ _ c.from_residual-in_err-put_u8-2.ensures.0 (omega (arith, varint_some c.loop-rest.rest (omega arith), c.loop-rest.invariant.room, c.in_err-put_u8-2.ensures.spare.0))

pub returns-clause-room : goal.returns-clause-room
returns-clause-room g c = omega (arith, varint_some c.loop-rest.rest (omega arith), c.loop-rest.invariant.room, c.in_ok-put_u8-2.ensures.spare)
