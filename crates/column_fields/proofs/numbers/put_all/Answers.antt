use Rattle.std.proofs.Common.{◌≡◌, ap, ◌∙◌, map, List, ℕ, ◌++◌, sym, arith, length}
use Rattle.std.proofs.lemmas.List.{map-append, length-map}
use Rattle.std.proofs.lemmas.List.Elements.{All-append, All-same}
use Rattle.std.proofs.lemmas.Result.{on_ok_weaker}
use Rattle.column_base.specs.Types.{HasNumber}
use Rattle.column_fields.specs.NumberBytes.{numbers_bytes}
use Rattle.column_fields.proofs.EightLaws.{cut_items}
use Rattle.column_fields.proofs.NumberLaws.{put_front_step}
use Rattle.column_fields.proofs.KeptLaws.{kept_same, kept_on}
use Rattle.column_fields.proofs.RoomLaws.{refused, last_part, numbers_cut, all_numbers_long}
use Rattle.column_fields.proofs.numbers.put_all.Goals as goal

pub loop-rest-init : goal.loop-rest-init
loop-rest-init g c = record {
  shows = ap (λ (b : List ℕ). b ++ numbers_bytes g.T.NativePType.PTYPE (map g.T.NativePType.number c.args.items.now)) c.in_ok-reserve.ensures.kept;
  fits = λ h. h;
  kept = kept_same _ _ c.in_ok-reserve.ensures.kept;
  room = omega (arith, c.in_ok-reserve.ensures.spare.0);
}

pub loop-rest-preserved : goal.loop-rest-preserved
loop-rest-preserved g c =
    let t = g.T.NativePType.PTYPE in
    let number = g.T.NativePType.number in
    let front = c.split_at.result.0.now in
    let back = c.split_at.result.1.now in
    let parts : map number c.loop-rest.rest.now ≡ map number front ++ map number back = ap (map number) (cut_items 8 c.loop-rest.rest.now front back c.split_at.ensures.front c.split_at.ensures.back) ∙ map-append number front back in
    record {
      shows = put_front_step t (g.W.BufMut.written c.args.out.now) (g.W.BufMut.written c.loop-rest.out) _ (map number c.args.items.now) (map number c.loop-rest.rest.now) (map number front) (map number back) c.loop-rest.invariant.shows c.in_ok-put_eight.ensures.ok parts;
      fits = λ left. c.loop-rest.invariant.fits (All-same (λ n. HasNumber t n) _ _ parts (All-append (λ n. HasNumber t n) (map number front) (map number back) c.in_ok-put_eight.ensures.fits left));
      kept = kept_on _ _ _ c.loop-rest.invariant.kept c.in_ok-put_eight.ensures.kept;
      room = omega (arith, numbers_cut t (map number c.loop-rest.rest.now) (map number front) (map number back) parts, c.loop-rest.invariant.room, c.in_ok-put_eight.ensures.room);
    }

pub returns-clause-ok : goal.returns-clause-ok
returns-clause-ok g c = on_ok_weaker c.put_each.result (λ ok. ok ∙ c.loop-rest.invariant.shows) c.put_each.ensures.ok

pub returns-clause-fits : goal.returns-clause-fits
returns-clause-fits g c = on_ok_weaker c.put_each.result c.loop-rest.invariant.fits c.put_each.ensures.fits

pub returns-in_err-reserve-clause-room : goal.returns-in_err-reserve-clause-room
returns-in_err-reserve-clause-room g c = refused _ _ _ _ c.from_residual.ensures.0 (omega (arith, all_numbers_long g.T.NativePType.PTYPE (map g.T.NativePType.number c.args.items.now) (length c.args.items.now) _ c.size.ensures (sym (length-map c.args.items.now g.T.NativePType.number)), c.saturating_mul.ensures, c.in_err-reserve.ensures.spare.1))

pub returns-in_err-put_eight-clause-room : goal.returns-in_err-put_eight-clause-room
returns-in_err-put_eight-clause-room g c =
    let number = g.T.NativePType.number in
    let parts : map number c.loop-rest.rest.now ≡ map number c.split_at.result.0.now ++ map number c.split_at.result.1.now = ap (map number) (cut_items 8 c.loop-rest.rest.now c.split_at.result.0.now c.split_at.result.1.now c.split_at.ensures.front c.split_at.ensures.back) ∙ map-append number c.split_at.result.0.now c.split_at.result.1.now in
    refused _ _ _ _ c.from_residual-in_err-put_eight.ensures.0 (omega (arith, numbers_cut g.T.NativePType.PTYPE (map number c.loop-rest.rest.now) (map number c.split_at.result.0.now) (map number c.split_at.result.1.now) parts, c.loop-rest.invariant.room, c.in_err-put_eight.ensures.room))

pub returns-clause-room : goal.returns-clause-room
returns-clause-room g c = last_part _ _ _ _ _ _ c.loop-rest.invariant.room c.put_each.ensures.room
