use Rattle.std.proofs.Common.{ℕ, List, arith, get_or, length, map, subst, sym}
use Rattle.std.specs.Prelude.{unsigned_abs}
use Rattle.std.proofs.lemmas.List.{get_or_default, take_all}
use Rattle.row_stretches.specs.declared.stretches.Stretch.{Stretch}
use Rattle.row_stretches.specs.Pieces.{AreCut, runs_of}
use Rattle.row_stretches.specs.Stretches.{stretch_rows}
use Rattle.row_stretches.proofs.Places.{count_more, places_fit, rows_more}
use Rattle.row_stretches.proofs.pieces.pieces_in.Goals as goal

pub push_stretch-requires-clause-within : goal.push_stretch-requires-clause-within
push_stretch-requires-clause-within g c =
    let blank : Stretch = record { start = 0; stop = 0 } in
    c.requires.within c.loop-stretch.stretch-index blank c.loop-stretch-test.true

pub push_stretch-requires-clause-small : goal.push_stretch-requires-clause-small
push_stretch-requires-clause-small g c =
    let order = c.args.order.now in
    let k = c.loop-stretch.stretch-index in
    let blank : Stretch = record { start = 0; stop = 0 } in
    let s = get_or order k blank in
    let fit = places_fit order k s c.loop-stretch-test.true (get_or_default order k blank s c.loop-stretch-test.true) in
    omega (arith, fit, c.requires.small, c.loop-stretch.invariant.counted)

pub loop-stretch-preserved : goal.loop-stretch-preserved
loop-stretch-preserved g c =
    let ends = map unsigned_abs (map g.E.NativePType.number c.args.ends.now) in
    let shown = runs_of ends c.args.offset c.args.count in
    let order = c.args.order.now in
    let k = c.loop-stretch.stretch-index in
    let blank : Stretch = record { start = 0; stop = 0 } in
    let s = get_or order k blank in
    let is = get_or_default order k blank s c.loop-stretch-test.true in
    let inv = c.loop-stretch.invariant in
    let next = c.push_stretch.new.pieces in
    record {
      cut = subst (λ (rows : List ℕ). AreCut (length ends) rows next.ends.items next.runs.items next.count) (sym (rows_more shown order k s c.loop-stretch-test.true is)) (c.in_ok-push_stretch.ensures.cut _ inv.cut);
      counted = let more = count_more order k s c.loop-stretch-test.true is in omega (arith, more, inv.counted, c.in_ok-push_stretch.ensures.count);
    }

pub returns-clause-cut : goal.returns-clause-cut
returns-clause-cut g c =
    let ends = map unsigned_abs (map g.E.NativePType.number c.args.ends.now) in
    let p = c.loop-stretch.pieces in
    subst (λ (order : List Stretch). AreCut (length ends) (stretch_rows (runs_of ends c.args.offset c.args.count) order) p.ends.items p.runs.items p.count)
    (take_all c.loop-stretch.stretch-index c.args.order.now (omega arith)) c.loop-stretch.invariant.cut
