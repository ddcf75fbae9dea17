use Rattle.std.proofs.Common.{◌≡◌, ap, ◌∙◌, List, ℕ, ℤ, ◌++◌, arith, length}
use Rattle.std.proofs.lemmas.List.Elements.{All-append, All-same}
use Rattle.std.proofs.lemmas.Result.{on_ok_weaker}
use Rattle.std.specs.Int.{w128}
use Rattle.std.specs.Int.RustNames.{FitsSigned}
use Rattle.std.proofs.lemmas.List.{length-append}
use Rattle.column_fields.specs.DecimalBytes.{decimals_bytes}
use Rattle.column_fields.proofs.EightLaws.{cut_items}
use Rattle.column_fields.proofs.DecimalLaws.{put_front_step, length-decimals_bytes}
use Rattle.column_fields.proofs.KeptLaws.{kept_same, kept_on}
use Rattle.column_fields.proofs.RoomLaws.{refused, last_part}
use Rattle.column_fields.proofs.decimals.put_decimals.Goals as goal

pub loop-rest-init : goal.loop-rest-init
loop-rest-init g c = record {
  shows = ap (λ (b : List ℕ). b ++ decimals_bytes c.args.numbers.now) c.in_ok-reserve.ensures.kept;
  fits = λ h. h;
  kept = kept_same _ _ c.in_ok-reserve.ensures.kept;
  room = omega (arith, c.in_ok-reserve.ensures.spare.0);
}

pub loop-rest-preserved : goal.loop-rest-preserved
loop-rest-preserved g c =
    let front : List ℤ = c.split_at.result.0.now in
    let back : List ℤ = c.split_at.result.1.now in
    let parts : c.loop-rest.rest.now ≡ front ++ back = cut_items 4 c.loop-rest.rest.now front back c.split_at.ensures.front c.split_at.ensures.back in
    record {
      shows = put_front_step (g.W.BufMut.written c.args.out.now) (g.W.BufMut.written c.loop-rest.out) _ c.args.numbers.now c.loop-rest.rest.now front back c.loop-rest.invariant.shows c.in_ok-put_four.ensures.ok parts;
      fits = λ left. c.loop-rest.invariant.fits (All-same (λ n. FitsSigned w128 n) _ _ parts (All-append (λ n. FitsSigned w128 n) front back c.in_ok-put_four.ensures.fits left));
      kept = kept_on _ _ _ c.loop-rest.invariant.kept c.in_ok-put_four.ensures.kept;
      room = omega (arith, ap length parts ∙ length-append front back, length-decimals_bytes front, c.loop-rest.invariant.room, c.in_ok-put_four.ensures.room);
    }

pub returns-clause-ok : goal.returns-clause-ok
returns-clause-ok g c = on_ok_weaker c.put_each.result (λ ok. ok ∙ c.loop-rest.invariant.shows) c.put_each.ensures.ok

pub returns-clause-fits : goal.returns-clause-fits
returns-clause-fits g c = on_ok_weaker c.put_each.result c.loop-rest.invariant.fits c.put_each.ensures.fits

pub returns-in_err-reserve-clause-room : goal.returns-in_err-reserve-clause-room
returns-in_err-reserve-clause-room g c = refused _ _ _ _ c.from_residual.ensures.0 (omega (arith, length-decimals_bytes c.args.numbers.now, c.saturating_mul.ensures, c.in_err-reserve.ensures.spare.1))

pub returns-in_err-put_four-clause-room : goal.returns-in_err-put_four-clause-room
returns-in_err-put_four-clause-room g c =
    let parts = cut_items 4 c.loop-rest.rest.now c.split_at.result.0.now c.split_at.result.1.now c.split_at.ensures.front c.split_at.ensures.back in
    let more = ap length parts ∙ length-append c.split_at.result.0.now c.split_at.result.1.now in
    refused _ _ _ _ c.from_residual-in_err-put_four.ensures.0 (omega (arith, more, length-decimals_bytes c.args.numbers.now, length-decimals_bytes c.split_at.result.0.now, c.loop-rest.invariant.room, c.in_err-put_four.ensures.room))

pub returns-clause-room : goal.returns-clause-room
returns-clause-room g c = last_part _ _ _ _ _ _ (omega (arith, length-decimals_bytes c.args.numbers.now, length-decimals_bytes c.loop-rest.rest.now, c.loop-rest.invariant.room)) c.put_each.ensures.room
