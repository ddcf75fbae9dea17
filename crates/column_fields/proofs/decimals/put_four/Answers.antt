use Rattle.std.proofs.Common.{◌≡◌, ◌∙◌, ℤ, pos, get_or, ap, rules, FitsSigned, arith, length}
use Rattle.std.specs.Int.{w128, cast_signed, cast_unsigned}
use Rattle.std.proofs.lemmas.Int.{to_z-of_z}
use Rattle.column_fields.specs.DecimalBytes.{decimal_bytes}
use Rattle.column_fields.proofs.DecimalLaws.{four_put, four_all, pairs_shown, length-decimals_bytes}
use Rattle.column_fields.proofs.RoomLaws.{refused, flat_long}
use Rattle.column_fields.proofs.decimals.put_four.Goals as goal

pub returns-clause-fits : goal.returns-clause-fits
returns-clause-fits g c =
    let ns = c.args.numbers.now in
    let f0 : FitsSigned w128 (get_or ns 0 (pos 0)) = search rules in
    let f1 : FitsSigned w128 (get_or ns 1 (pos 0)) = search rules in
    let f2 : FitsSigned w128 (get_or ns 2 (pos 0)) = search rules in
    let f3 : FitsSigned w128 (get_or ns 3 (pos 0)) = search rules in
    four_all (λ n. FitsSigned w128 n) ns c.requires f0 f1 f2 f3

pub returns-in_err-put_slice-clause-fits : goal.returns-in_err-put_slice-clause-fits
returns-in_err-put_slice-clause-fits g c =
    let ns = c.args.numbers.now in
    let f0 : FitsSigned w128 (get_or ns 0 (pos 0)) = search rules in
    let f1 : FitsSigned w128 (get_or ns 1 (pos 0)) = search rules in
    let f2 : FitsSigned w128 (get_or ns 2 (pos 0)) = search rules in
    let f3 : FitsSigned w128 (get_or ns 3 (pos 0)) = search rules in
    four_all (λ n. FitsSigned w128 n) ns c.requires f0 f1 f2 f3

pub returns-clause-ok : goal.returns-clause-ok
returns-clause-ok g c =
    let ns = c.args.numbers.now in
    let f0 : FitsSigned w128 (get_or ns 0 (pos 0)) = search rules in
    let f1 : FitsSigned w128 (get_or ns 1 (pos 0)) = search rules in
    let f2 : FitsSigned w128 (get_or ns 2 (pos 0)) = search rules in
    let f3 : FitsSigned w128 (get_or ns 3 (pos 0)) = search rules in
    let again : (n : ℤ) → FitsSigned w128 n → decimal_bytes (cast_signed w128 (cast_unsigned w128 n)) ≡ decimal_bytes n = λ n f. ap decimal_bytes (to_z-of_z w128 n f) in
    four_put ns (g.W.BufMut.written c.args.out.now) _ _ c.to_le_bytes.result c.to_le_bytes-2.result c.to_le_bytes-3.result c.to_le_bytes-4.result c.to_le_bytes-5.result c.to_le_bytes-6.result c.to_le_bytes-7.result c.to_le_bytes-8.result c.requires
    (pairs_shown _ _ _ _ _ c.to_le_bytes.ensures c.to_le_bytes-2.ensures (c.words_of-first_low.ensures ∙ again (get_or ns 0 (pos 0)) f0))
    (pairs_shown _ _ _ _ _ c.to_le_bytes-3.ensures c.to_le_bytes-4.ensures (c.words_of-second_low.ensures ∙ again (get_or ns 1 (pos 0)) f1))
    (pairs_shown _ _ _ _ _ c.to_le_bytes-5.ensures c.to_le_bytes-6.ensures (c.words_of-third_low.ensures ∙ again (get_or ns 2 (pos 0)) f2))
    (pairs_shown _ _ _ _ _ c.to_le_bytes-7.ensures c.to_le_bytes-8.ensures (c.words_of-fourth_low.ensures ∙ again (get_or ns 3 (pos 0)) f3))
    c.as_flattened.ensures.value c.in_ok-put_slice.ensures.ok

pub returns-in_err-put_slice-clause-room : goal.returns-in_err-put_slice-clause-room
returns-in_err-put_slice-clause-room g c = refused _ _ _ _ c.from_residual.ensures.0 (omega (arith, flat_long _ c.to_le_bytes.result c.to_le_bytes-2.result c.to_le_bytes-3.result c.to_le_bytes-4.result c.to_le_bytes-5.result c.to_le_bytes-6.result c.to_le_bytes-7.result c.to_le_bytes-8.result c.as_flattened.ensures.value, ap length c.to_le_bytes.ensures, ap length c.to_le_bytes-2.ensures, ap length c.to_le_bytes-3.ensures, ap length c.to_le_bytes-4.ensures, ap length c.to_le_bytes-5.ensures, ap length c.to_le_bytes-6.ensures, ap length c.to_le_bytes-7.ensures, ap length c.to_le_bytes-8.ensures, length-decimals_bytes c.args.numbers.now, c.requires, c.in_err-put_slice.ensures.spare.0))

pub returns-clause-room : goal.returns-clause-room
returns-clause-room g c = omega (arith, flat_long _ c.to_le_bytes.result c.to_le_bytes-2.result c.to_le_bytes-3.result c.to_le_bytes-4.result c.to_le_bytes-5.result c.to_le_bytes-6.result c.to_le_bytes-7.result c.to_le_bytes-8.result c.as_flattened.ensures.value, ap length c.to_le_bytes.ensures, ap length c.to_le_bytes-2.ensures, ap length c.to_le_bytes-3.ensures, ap length c.to_le_bytes-4.ensures, ap length c.to_le_bytes-5.ensures, ap length c.to_le_bytes-6.ensures, ap length c.to_le_bytes-7.ensures, ap length c.to_le_bytes-8.ensures, length-decimals_bytes c.args.numbers.now, c.requires, c.in_ok-put_slice.ensures.spare)
