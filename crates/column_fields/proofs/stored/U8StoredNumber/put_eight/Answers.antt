use Rattle.std.proofs.Common.{◌++◌, ◌∙◌, List, ℕ, pos, ap, arith, rules, length}
use Rattle.column_base.specs.Types.{HasNumber}
use Rattle.column_base.specs.declared.dtype.PType.TheVariants.{U8}
use Rattle.column_fields.proofs.EightLaws.{u8_bytes, all_mapped}
use Rattle.column_fields.proofs.RoomLaws.{refused}
use Rattle.column_fields.proofs.stored.U8StoredNumber.put_eight.Goals as goal

pub returns-clause-fits : goal.returns-clause-fits
returns-clause-fits g c = all_mapped (λ n. HasNumber U8 n) (λ n. pos n) 0 c.args.items.now (λ i lt. search rules)

pub returns-in_err-put_slice-clause-fits : goal.returns-in_err-put_slice-clause-fits
returns-in_err-put_slice-clause-fits g c = all_mapped (λ n. HasNumber U8 n) (λ n. pos n) 0 c.args.items.now (λ i lt. search rules)

pub returns-clause-ok : goal.returns-clause-ok
returns-clause-ok g c = c.in_ok-put_slice.ensures.ok ∙ ap (λ (b : List ℕ). (g.W.BufMut.written c.args.out.now) ++ b) (u8_bytes c.args.items.now (λ i. omega (arith, c.type_inv.items i)))

pub returns-in_err-put_slice-clause-room : goal.returns-in_err-put_slice-clause-room
returns-in_err-put_slice-clause-room g c = refused _ _ _ _ c.from_residual.ensures.0 (omega (arith, ap length (u8_bytes c.args.items.now (λ i. omega (arith, c.type_inv.items i))), c.in_err-put_slice.ensures.spare.0))

pub returns-clause-room : goal.returns-clause-room
returns-clause-room g c = omega (arith, ap length (u8_bytes c.args.items.now (λ i. omega (arith, c.type_inv.items i))), c.in_ok-put_slice.ensures.spare)
