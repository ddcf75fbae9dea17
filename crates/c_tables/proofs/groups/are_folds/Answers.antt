use Rattle.std.proofs.Common.{arith, refl, subst}
use Rattle.std.specs.Prelude.{All}
use Rattle.std.proofs.lemmas.List.{take_all}
use Rattle.std.proofs.lemmas.List.Elements.{All-more}
use Rattle.c_tables.specs.Groups.{IsFold}
use Rattle.c_tables.proofs.AskedNames.{fold_here}
use Rattle.c_tables.proofs.groups.are_folds.Goals as goal

pub loop-place-preserved : goal.loop-place-preserved
loop-place-preserved c =
    let here = fold_here c.fold_named.result _ c.fold_named.ensures c.if-is_none.ensures in
    All-more IsFold c.args.numbers.now c.loop-place.place 0 (omega arith) c.loop-place.invariant here

pub returns : goal.returns
returns c =
    let all = subst (All IsFold) (take_all c.loop-place.place c.args.numbers.now (omega arith)) c.loop-place.invariant in
    (λ _. all, λ _. refl)
