use Rattle.std.proofs.Common.{◌≡◌, ◌∙◌, ℤ, pos, get_or, refl, ap, rules, FitsSigned, arith, length}
use Rattle.std.specs.Int.{w64, cast_signed, cast_unsigned}
use Rattle.std.proofs.lemmas.Int.{to_z-of_z}
use Rattle.column_base.specs.Types.{HasNumber}
use Rattle.column_base.specs.declared.dtype.PType.TheVariants.{I64}
use Rattle.column_fields.specs.NumberBytes.{number_bytes}
use Rattle.column_fields.proofs.EightLaws.{eight_put, eight_all}
use Rattle.column_fields.proofs.RoomLaws.{refused, eight_long}
use Rattle.column_fields.proofs.stored.I64StoredNumber.put_eight.Goals as goal

pub returns-clause-fits : goal.returns-clause-fits
returns-clause-fits g c =
    let items = c.args.items.now in
    let f0 : FitsSigned w64 (get_or items 0 (pos 0)) = search rules in
    let f1 : FitsSigned w64 (get_or items 1 (pos 0)) = search rules in
    let f2 : FitsSigned w64 (get_or items 2 (pos 0)) = search rules in
    let f3 : FitsSigned w64 (get_or items 3 (pos 0)) = search rules in
    let f4 : FitsSigned w64 (get_or items 4 (pos 0)) = search rules in
    let f5 : FitsSigned w64 (get_or items 5 (pos 0)) = search rules in
    let f6 : FitsSigned w64 (get_or items 6 (pos 0)) = search rules in
    let f7 : FitsSigned w64 (get_or items 7 (pos 0)) = search rules in
    eight_all (λ n. HasNumber I64 n) (λ n. n) (pos 0) items c.requires f0 f1 f2 f3 f4 f5 f6 f7

pub returns-in_err-put_slice-clause-fits : goal.returns-in_err-put_slice-clause-fits
returns-in_err-put_slice-clause-fits g c =
    let items = c.args.items.now in
    let f0 : FitsSigned w64 (get_or items 0 (pos 0)) = search rules in
    let f1 : FitsSigned w64 (get_or items 1 (pos 0)) = search rules in
    let f2 : FitsSigned w64 (get_or items 2 (pos 0)) = search rules in
    let f3 : FitsSigned w64 (get_or items 3 (pos 0)) = search rules in
    let f4 : FitsSigned w64 (get_or items 4 (pos 0)) = search rules in
    let f5 : FitsSigned w64 (get_or items 5 (pos 0)) = search rules in
    let f6 : FitsSigned w64 (get_or items 6 (pos 0)) = search rules in
    let f7 : FitsSigned w64 (get_or items 7 (pos 0)) = search rules in
    eight_all (λ n. HasNumber I64 n) (λ n. n) (pos 0) items c.requires f0 f1 f2 f3 f4 f5 f6 f7

pub returns-clause-ok : goal.returns-clause-ok
returns-clause-ok g c =
    let items = c.args.items.now in
    let f0 : FitsSigned w64 (get_or items 0 (pos 0)) = search rules in
    let f1 : FitsSigned w64 (get_or items 1 (pos 0)) = search rules in
    let f2 : FitsSigned w64 (get_or items 2 (pos 0)) = search rules in
    let f3 : FitsSigned w64 (get_or items 3 (pos 0)) = search rules in
    let f4 : FitsSigned w64 (get_or items 4 (pos 0)) = search rules in
    let f5 : FitsSigned w64 (get_or items 5 (pos 0)) = search rules in
    let f6 : FitsSigned w64 (get_or items 6 (pos 0)) = search rules in
    let f7 : FitsSigned w64 (get_or items 7 (pos 0)) = search rules in
    let again : (n : ℤ) → FitsSigned w64 n → number_bytes I64 (cast_signed w64 (cast_unsigned w64 n)) ≡ number_bytes I64 n = λ n f. ap (number_bytes I64) (to_z-of_z w64 n f) in
    eight_put I64 (λ n. n) (number_bytes I64) (pos 0) items (g.W.BufMut.written c.args.out.now) _ _ _ _ _ _ _ _ _ _ (λ x. refl) c.requires
    (c.to_le_bytes.ensures ∙ again (get_or items 0 (pos 0)) f0)
    (c.to_le_bytes-2.ensures ∙ again (get_or items 1 (pos 0)) f1)
    (c.to_le_bytes-3.ensures ∙ again (get_or items 2 (pos 0)) f2)
    (c.to_le_bytes-4.ensures ∙ again (get_or items 3 (pos 0)) f3)
    (c.to_le_bytes-5.ensures ∙ again (get_or items 4 (pos 0)) f4)
    (c.to_le_bytes-6.ensures ∙ again (get_or items 5 (pos 0)) f5)
    (c.to_le_bytes-7.ensures ∙ again (get_or items 6 (pos 0)) f6)
    (c.to_le_bytes-8.ensures ∙ again (get_or items 7 (pos 0)) f7)
    c.as_flattened.ensures.value c.in_ok-put_slice.ensures.ok

pub returns-in_err-put_slice-clause-room : goal.returns-in_err-put_slice-clause-room
returns-in_err-put_slice-clause-room g c = refused _ _ _ _ c.from_residual.ensures.0 (omega (arith, eight_long I64 (λ n. n) c.args.items.now _ _ _ _ _ _ _ _ _ c.requires c.as_flattened.ensures.value (ap length c.to_le_bytes.ensures) (ap length c.to_le_bytes-2.ensures) (ap length c.to_le_bytes-3.ensures) (ap length c.to_le_bytes-4.ensures) (ap length c.to_le_bytes-5.ensures) (ap length c.to_le_bytes-6.ensures) (ap length c.to_le_bytes-7.ensures) (ap length c.to_le_bytes-8.ensures), c.in_err-put_slice.ensures.spare.0))

pub returns-clause-room : goal.returns-clause-room
returns-clause-room g c = omega (arith, eight_long I64 (λ n. n) c.args.items.now _ _ _ _ _ _ _ _ _ c.requires c.as_flattened.ensures.value (ap length c.to_le_bytes.ensures) (ap length c.to_le_bytes-2.ensures) (ap length c.to_le_bytes-3.ensures) (ap length c.to_le_bytes-4.ensures) (ap length c.to_le_bytes-5.ensures) (ap length c.to_le_bytes-6.ensures) (ap length c.to_le_bytes-7.ensures) (ap length c.to_le_bytes-8.ensures), c.in_ok-put_slice.ensures.spare)
