use Rattle.std.proofs.Common.{◌≡◌, ap, ◌∙◌, map, ◌++◌, arith}
use Rattle.std.proofs.lemmas.Result.{on_ok_weaker}
use Rattle.std.proofs.lemmas.List.{map-append}
use Rattle.column_fields.specs.Lengths.{lengths_bytes}
use Rattle.column_fields.proofs.OneByteLaws.{runs_ahead, put_ahead, long_ahead}
use Rattle.column_fields.proofs.KeptLaws.{kept_on}
use Rattle.column_fields.proofs.RoomLaws.{refused, last_part, first_lengths}
use Rattle.column_fields.proofs.EightLaws.{cut_items}
use Rattle.column_fields.proofs.lengths.put_eights.Goals as goal

pub loop-rest-preserved : goal.loop-rest-preserved
loop-rest-preserved g c =
    let natural = g.E.UnsignedPType.natural in
    let front = c.split_at.result.0.now in
    let back = c.split_at.result.1.now in
    let start = c.loop-rest.start in
    let parts : lengths_bytes start (map natural c.loop-rest.rest.now) ≡ lengths_bytes start (map natural front) ++ lengths_bytes c.end-start.result (map natural back) =
    runs_ahead natural c.index-front-7.result start c.end-start.result 7 c.loop-rest.rest.now front back c.split_at.ensures.front c.split_at.ensures.back c.split_at.ensures.front_len (c.end-start.ensures.value ∙ ap natural c.index-front-7.is) in
    record {
      shows = put_ahead (g.W.BufMut.written c.loop-rest.out) _ _ _ _ _ c.loop-rest.invariant.shows c.in_ok-put_eight.ensures.ok parts;
      kept = kept_on _ _ _ c.loop-rest.invariant.kept c.in_ok-put_eight.ensures.kept;
      room = omega (arith, long_ahead (lengths_bytes start (map natural c.loop-rest.rest.now)) (lengths_bytes start (map natural front)) (lengths_bytes c.end-start.result (map natural back)) parts, c.loop-rest.invariant.room, c.in_ok-put_eight.ensures.room);
    }

pub returns-clause-ok : goal.returns-clause-ok
returns-clause-ok g c = on_ok_weaker c.put_each.result (λ ok. ok ∙ c.loop-rest.invariant.shows) c.put_each.ensures.ok

pub returns-in_err-put_eight-clause-room : goal.returns-in_err-put_eight-clause-room
returns-in_err-put_eight-clause-room g c =
    let natural = g.E.UnsignedPType.natural in
    let front = c.split_at.result.0.now in
    let back = c.split_at.result.1.now in
    let parts : map natural c.loop-rest.rest.now ≡ map natural front ++ map natural back = ap (map natural) (cut_items 8 c.loop-rest.rest.now front back c.split_at.ensures.front c.split_at.ensures.back) ∙ map-append natural front back in
    refused _ _ _ _ c.from_residual.ensures.0 (omega (arith, first_lengths c.loop-rest.start (map natural c.loop-rest.rest.now) (map natural front) (map natural back) parts, c.loop-rest.invariant.room, c.in_err-put_eight.ensures.room))

pub returns-clause-room : goal.returns-clause-room
returns-clause-room g c = last_part _ _ _ _ _ _ c.loop-rest.invariant.room c.put_each.ensures.room
