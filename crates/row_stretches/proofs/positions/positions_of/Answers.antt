use Rattle.std.proofs.Common.{◌∙◌, ◌-◌, ◌++◌, ℕ, List, ap, arith, get_or, sym}
use Rattle.std.specs.List.{range_with_len}
use Rattle.std.proofs.lemmas.List.{get_or_default, take_all}
use Rattle.row_stretches.specs.declared.stretches.Stretch.{Stretch}
use Rattle.row_stretches.specs.Stretches.{stretch_places}
use Rattle.row_stretches.proofs.Places.{places_more}
use Rattle.row_stretches.proofs.positions.positions_of.Goals as goal

pub loop-stretch-preserved : goal.loop-stretch-preserved
loop-stretch-preserved g c =
    let order = c.args.order.now in
    let k = c.loop-stretch.stretch-index in
    let blank : Stretch = record { start = 0; stop = 0 } in
    let s = get_or order k blank in
    c.in_ok-push_rows.ensures.pushed ∙ ap (λ (ps : List ℕ). ps ++ range_with_len s.start (s.stop - s.start)) c.loop-stretch.invariant
    ∙ sym (places_more order k s c.loop-stretch-test.true (get_or_default order k blank s c.loop-stretch-test.true))

pub returns-clause-places : goal.returns-clause-places
returns-clause-places g c = c.loop-stretch.invariant ∙ ap stretch_places (take_all c.loop-stretch.stretch-index c.args.order.now (omega arith))
