use Rattle.std.proofs.Common.{◌≡◌, refl, ◌+◌, ap, ◌∙◌, sym, map, take, arith, List, ℕ, ◌++◌, [], ◌∷◌}
use Rattle.std.proofs.lemmas.List.{map_more, take_all, append-nil}
use Rattle.std.proofs.lemmas.List.Elements.{All-push, All-nil, All-same}
use Rattle.column_base.specs.Types.{HasNumber}
use Rattle.column_fields.specs.NumberBytes.{numbers_bytes}
use Rattle.column_fields.proofs.NumberLaws.{put_step, numbers_none}
use Rattle.column_fields.proofs.KeptLaws.{kept_same, kept_on}
use Rattle.column_fields.proofs.RoomLaws.{refused, numbers_left}
use Rattle.column_fields.proofs.numbers.put_each.Goals as goal

pub loop-item-init : goal.loop-item-init
loop-item-init g c = record {
  shows = sym (ap (λ (t : List ℕ). (g.W.BufMut.written c.args.out.now) ++ t) (numbers_none g.T.NativePType.PTYPE) ∙ append-nil (g.W.BufMut.written c.args.out.now));
  fits = All-nil (λ n. HasNumber g.T.NativePType.PTYPE n);
  kept = kept_same _ _ refl;
  room = omega arith;
}

pub loop-item-preserved : goal.loop-item-preserved
loop-item-preserved g c =
    let t = g.T.NativePType.PTYPE in
    let number = g.T.NativePType.number in
    let front = map number (take c.loop-item.item-index c.args.items.now) in
    let more : map number (take (c.loop-item.item-index + 1) c.args.items.now) ≡ front ++ number c.item-item.result ∷ [] = map_more number c.args.items.now c.loop-item.item-index c.item-item.result c.loop-item-test.true ∙ ap (λ x. front ++ number x ∷ []) (sym c.item-item.is) in
    record {
      shows = put_step t _ _ _ front _ (number c.item-item.result) c.loop-item.invariant.shows c.in_ok-put.ensures.ok more;
      fits = All-same (λ n. HasNumber t n) _ _ more (All-push (λ n. HasNumber t n) front (number c.item-item.result) c.loop-item.invariant.fits c.in_ok-put.ensures.fits);
      kept = kept_on _ _ _ c.loop-item.invariant.kept c.in_ok-put.ensures.kept;
      room = omega (arith, numbers_left g.T.NativePType.PTYPE g.T.NativePType.number c.args.items.now c.loop-item.item-index c.item-item.result c.loop-item-test.true c.item-item.is, c.loop-item.invariant.room, c.in_ok-put.ensures.room);
    }

pub returns-clause-ok : goal.returns-clause-ok
returns-clause-ok g c = c.loop-item.invariant.shows ∙ ap (λ xs. (g.W.BufMut.written c.args.out.now) ++ numbers_bytes g.T.NativePType.PTYPE (map g.T.NativePType.number xs)) (take_all c.loop-item.item-index c.args.items.now (omega arith))

pub returns-clause-fits : goal.returns-clause-fits
returns-clause-fits g c =
    All-same (λ n. HasNumber g.T.NativePType.PTYPE n) _ _ (ap (map g.T.NativePType.number) (sym (take_all c.loop-item.item-index c.args.items.now (omega arith)))) c.loop-item.invariant.fits

pub returns-in_err-put-clause-room : goal.returns-in_err-put-clause-room
returns-in_err-put-clause-room g c = refused _ _ _ _ c.from_residual.ensures.0 (omega (arith, numbers_left g.T.NativePType.PTYPE g.T.NativePType.number c.args.items.now c.loop-item.item-index c.item-item.result c.loop-item-test.true c.item-item.is, c.loop-item.invariant.room, c.in_err-put.ensures.room))

pub returns-clause-room : goal.returns-clause-room
returns-clause-room g c = omega (arith, c.loop-item.invariant.room)
