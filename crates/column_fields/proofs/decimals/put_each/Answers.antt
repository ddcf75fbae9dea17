use Rattle.std.proofs.Common.{◌≡◌, refl, ℤ, pos, rules, ap, ◌∙◌, sym, get_or, take, arith, List, ℕ, ◌++◌}
use Rattle.std.proofs.lemmas.List.{take_more, take_all, append-nil}
use Rattle.std.proofs.lemmas.List.Elements.{All-more, All-nil, All-same}
use Rattle.std.specs.Int.{w128, cast_signed, cast_unsigned}
use Rattle.std.proofs.lemmas.Int.{to_z-of_z}
use Rattle.std.specs.Int.RustNames.{FitsSigned}
use Rattle.column_fields.specs.DecimalBytes.{decimal_bytes, decimals_bytes}
use Rattle.column_fields.proofs.DecimalLaws.{put_step, decimals_none, length-decimal_bytes, length-decimals_bytes}
use Rattle.column_fields.proofs.KeptLaws.{kept_same, kept_on}
use Rattle.column_fields.proofs.RoomLaws.{refused}
use Rattle.column_fields.proofs.decimals.put_each.Goals as goal

pub loop-number-init : goal.loop-number-init
loop-number-init g c = record {
  shows = sym (ap (λ (t : List ℕ). (g.W.BufMut.written c.args.out.now) ++ t) decimals_none ∙ append-nil (g.W.BufMut.written c.args.out.now));
  fits = All-nil (λ n. FitsSigned w128 n);
  kept = kept_same _ _ refl;
  room = omega arith;
  within = omega arith;
}

pub loop-number-preserved : goal.loop-number-preserved
loop-number-preserved g c =
    let at : ℕ = c.loop-number.number-index in
    let number : ℤ = get_or c.args.numbers.now at (pos 0) in
    let front : List ℤ = take at c.args.numbers.now in
    let fits : FitsSigned w128 number = search rules in
    let again : cast_signed w128 (cast_unsigned w128 number) ≡ number = to_z-of_z w128 number fits in
    let ok : (g.W.BufMut.written c.put_decimal.new.out) ≡ (g.W.BufMut.written c.loop-number.out) ++ decimal_bytes number = c.in_ok-put_decimal.ensures.ok ∙ ap (λ (z : ℤ). (g.W.BufMut.written c.loop-number.out) ++ decimal_bytes z) again in
    record {
      shows = put_step _ _ _ front _ number c.loop-number.invariant.shows ok (take_more c.args.numbers.now at (pos 0) c.loop-number-test.true);
      fits = All-more (λ n. FitsSigned w128 n) c.args.numbers.now at (pos 0) c.loop-number-test.true c.loop-number.invariant.fits fits;
      kept = kept_on _ _ _ c.loop-number.invariant.kept c.in_ok-put_decimal.ensures.kept;
      room = omega (arith, length-decimal_bytes, c.loop-number.invariant.room, c.in_ok-put_decimal.ensures.room);
      within = omega arith;
    }

pub returns-clause-ok : goal.returns-clause-ok
returns-clause-ok g c = c.loop-number.invariant.shows ∙ ap (λ xs. (g.W.BufMut.written c.args.out.now) ++ decimals_bytes xs) (take_all c.loop-number.number-index c.args.numbers.now (omega arith))

pub returns-clause-fits : goal.returns-clause-fits
returns-clause-fits g c =
    All-same (λ n. FitsSigned w128 n) _ _ (sym (take_all c.loop-number.number-index c.args.numbers.now (omega arith))) c.loop-number.invariant.fits

pub returns-in_err-put_decimal-clause-room : goal.returns-in_err-put_decimal-clause-room
returns-in_err-put_decimal-clause-room g c = refused _ _ _ _ c.from_residual.ensures.0 (omega (arith, length-decimal_bytes, length-decimals_bytes c.args.numbers.now, c.loop-number.invariant.room, c.in_err-put_decimal.ensures.room))

pub returns-clause-room : goal.returns-clause-room
returns-clause-room g c = omega (arith, length-decimals_bytes c.args.numbers.now, c.loop-number.invariant.room)
