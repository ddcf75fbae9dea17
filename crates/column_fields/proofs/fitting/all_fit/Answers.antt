use Rattle.std.proofs.Common.{◌≡◌, ◌+◌, ap, ◌∙◌, sym, map, take, arith, ◌++◌, [], ◌∷◌}
use Rattle.std.proofs.lemmas.List.{map_more, take_all}
use Rattle.std.proofs.lemmas.List.Elements.{All-push, All-nil, All-same}
use Rattle.column_base.specs.Types.{HasNumber}
use Rattle.column_fields.proofs.fitting.all_fit.Goals as goal

pub loop-item-init : goal.loop-item-init
loop-item-init g c = All-nil (λ n. HasNumber g.T.NativePType.PTYPE n)

pub loop-item-preserved : goal.loop-item-preserved
loop-item-preserved g c =
    let t = g.T.NativePType.PTYPE in
    let number = g.T.NativePType.number in
    let front = map number (take c.loop-item.item-index c.args.items.now) in
    let more : map number (take (c.loop-item.item-index + 1) c.args.items.now) ≡ front ++ number c.item-item.result ∷ [] = map_more number c.args.items.now c.loop-item.item-index c.item-item.result c.loop-item-test.true ∙ ap (λ x. front ++ number x ∷ []) (sym c.item-item.is) in
    All-same (λ n. HasNumber t n) _ _ more (All-push (λ n. HasNumber t n) front (number c.item-item.result) c.loop-item.invariant c.fits.ensures)

pub returns : goal.returns
returns g c =
    All-same (λ n. HasNumber g.T.NativePType.PTYPE n) _ _ (ap (map g.T.NativePType.number) (sym (take_all c.loop-item.item-index c.args.items.now (omega arith)))) c.loop-item.invariant
