use Rattle.std.proofs.Common.{pos, refl, rules, arith, length, ap}
use Rattle.std.specs.Int.{w16, to_le_bytes}
use Rattle.column_base.specs.Types.{HasNumber}
use Rattle.column_base.specs.declared.dtype.PType.TheVariants.{U16}
use Rattle.column_fields.proofs.EightLaws.{eight_put, all_mapped}
use Rattle.column_fields.proofs.RoomLaws.{refused, eight_long}
use Rattle.column_fields.proofs.stored.U16StoredNumber.put_eight.Goals as goal

pub returns-clause-fits : goal.returns-clause-fits
returns-clause-fits g c = all_mapped (λ n. HasNumber U16 n) (λ n. pos n) 0 c.args.items.now (λ i lt. search rules)

pub returns-in_err-put_slice-clause-fits : goal.returns-in_err-put_slice-clause-fits
returns-in_err-put_slice-clause-fits g c = all_mapped (λ n. HasNumber U16 n) (λ n. pos n) 0 c.args.items.now (λ i lt. search rules)

pub returns-clause-ok : goal.returns-clause-ok
returns-clause-ok g c =
    eight_put U16 (λ n. pos n) (to_le_bytes w16) 0 c.args.items.now (g.W.BufMut.written c.args.out.now) _ _ _ _ _ _ _ _ _ _ (λ x. refl) c.requires
    c.to_le_bytes.ensures c.to_le_bytes-2.ensures c.to_le_bytes-3.ensures c.to_le_bytes-4.ensures c.to_le_bytes-5.ensures c.to_le_bytes-6.ensures c.to_le_bytes-7.ensures c.to_le_bytes-8.ensures
    c.as_flattened.ensures.value c.in_ok-put_slice.ensures.ok

pub returns-in_err-put_slice-clause-room : goal.returns-in_err-put_slice-clause-room
returns-in_err-put_slice-clause-room g c = refused _ _ _ _ c.from_residual.ensures.0 (omega (arith, eight_long U16 (λ n. pos n) c.args.items.now _ _ _ _ _ _ _ _ _ c.requires c.as_flattened.ensures.value (ap length c.to_le_bytes.ensures) (ap length c.to_le_bytes-2.ensures) (ap length c.to_le_bytes-3.ensures) (ap length c.to_le_bytes-4.ensures) (ap length c.to_le_bytes-5.ensures) (ap length c.to_le_bytes-6.ensures) (ap length c.to_le_bytes-7.ensures) (ap length c.to_le_bytes-8.ensures), c.in_err-put_slice.ensures.spare.0))

pub returns-clause-room : goal.returns-clause-room
returns-clause-room g c = omega (arith, eight_long U16 (λ n. pos n) c.args.items.now _ _ _ _ _ _ _ _ _ c.requires c.as_flattened.ensures.value (ap length c.to_le_bytes.ensures) (ap length c.to_le_bytes-2.ensures) (ap length c.to_le_bytes-3.ensures) (ap length c.to_le_bytes-4.ensures) (ap length c.to_le_bytes-5.ensures) (ap length c.to_le_bytes-6.ensures) (ap length c.to_le_bytes-7.ensures) (ap length c.to_le_bytes-8.ensures), c.in_ok-put_slice.ensures.spare)
