use Rattle.std.proofs.Common.{◌∙◌, ◌+◌, ℤ, Option, Some, None, pos, map, ap, arith}
use Rattle.std.specs.Prelude.{if◌then◌else◌, unwrap_or}
use Rattle.std.proofs.lemmas.List.{length-map}
use Rattle.column_core.specs.Optionals.{optionals}
use Rattle.column_core.proofs.OptionalRows.{optionals-at}
use Rattle.column_ops.specs.Take.{index_fault}
use Rattle.column_ops.proofs.IndexPositions.{first_error-here, first_fault-next}
use Rattle.column_ops.proofs.Passed.{passed_all}
use Rattle.column_ops.proofs.PositionRows.{number-at, positions-more}
use Rattle.column_ops.proofs.positions.shown_positions.Goals as goal

pub returns-in-Err-clause-refused : goal.returns-in-Err-clause-refused
returns-in-Err-clause-refused g c =
    let number = g.T.NativePType.number in
    let indices = c.args.indices.now in
    let place = c.loop-place.place in
    let item = c.index-indices-place.result in
    let row : Option ℤ = if c.value.result then Some (number item) else None in
    let here = optionals-at (map number indices) c.args.marks.now place (number item) c.value.result (number-at number indices place item c.loop-place-test.true c.index-indices-place.is) c.value.ensures in
    first_error-here (index_fault c.args.count) (optionals (map number indices) c.args.marks.now) place row c.in-Err.error c.loop-place.invariant.sound here c.in-Err.ensures.refused

pub loop-place-preserved : goal.loop-place-preserved
loop-place-preserved g c =
    let number = g.T.NativePType.number in
    let indices = c.args.indices.now in
    let place = c.loop-place.place in
    let item = c.index-indices-place.result in
    let rows = optionals (map number indices) c.args.marks.now in
    let row : Option ℤ = if c.value.result then Some (number item) else None in
    let here = optionals-at (map number indices) c.args.marks.now place (number item) c.value.result (number-at number indices place item c.loop-place-test.true c.index-indices-place.is) c.value.ensures in
    let old = c.loop-place.invariant in
    record {
      same = ap (map pos) c.push_reserved.ensures.items ∙ positions-more c.loop-place.positions.items rows place c.in-Ok.position row old.same here c.in-Ok.ensures.same;
      sound = first_fault-next (index_fault c.args.count) rows place row old.sound here c.in-Ok.ensures.refused;
      len = c.push_reserved.ensures.len ∙ ap (λ n. n + 1) old.len;
      room = rw c.push_reserved.ensures.capacity old.room;
    }

pub returns-clause-refused : goal.returns-clause-refused
returns-clause-refused g c =
    let numbers = map g.T.NativePType.number c.args.indices.now in
    let long = length-map c.args.indices.now g.T.NativePType.number in
    rw (passed_all numbers c.args.marks.now c.loop-place.place (omega (arith, long))) at c.loop-place.invariant.sound

pub returns-clause-same : goal.returns-clause-same
returns-clause-same g c =
    let numbers = map g.T.NativePType.number c.args.indices.now in
    let long = length-map c.args.indices.now g.T.NativePType.number in
    c.loop-place.invariant.same ∙ ap (map (λ row. unwrap_or row (pos 0))) (passed_all numbers c.args.marks.now c.loop-place.place (omega (arith, long)))
