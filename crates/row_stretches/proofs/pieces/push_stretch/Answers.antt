use Rattle.std.proofs.Common.{◌≡◌, ◌∙◌, ◌+◌, ◌-◌, ◌<◌, ℕ, List, ap, arith, length, map, min, rules, slice_index, subst, sym}
use Rattle.std.specs.Prelude.{unsigned_abs}
use Rattle.std.specs.List.Sorted.{IsStrictlyIncreasing}
use Rattle.column_core.specs.Counted.{Counted}
use Rattle.runend_encode.proofs.Fitting.{naturals-of}
use Rattle.runend_windows.specs.Window.{run_at}
use Rattle.runend_windows.proofs.RunAt.{run_of_row_within}
use Rattle.runend_windows.proofs.StoredNumbers.{length-naturals}
use Rattle.row_stretches.specs.Pieces.{runs_of}
use Rattle.row_stretches.proofs.Cuts.{none_of_stretch, piece_of_stretch, reach_past, reach_stop, rows_reached, run_next, run_within}
use Rattle.row_stretches.proofs.pieces.push_stretch.Goals as goal

pub first_past-run-requires : goal.first_past-run-requires
first_past-run-requires g c =
    let same = naturals-of g.E.NativePType.number g.E.UnsignedPType.natural g.met.E.UnsignedPType.natural_law c.args.ends.now in
    let here = ap (λ (counted : Counted). counted.ends) c.new-counted.ensures in
    subst IsStrictlyIncreasing (same ∙ sym here) c.requires.window.increasing

pub loop-row-init : goal.loop-row-init
loop-row-init g c =
    let same = naturals-of g.E.NativePType.number g.E.UnsignedPType.natural g.met.E.UnsignedPType.natural_law c.args.ends.now in
    let here = ap (λ (counted : Counted). counted.ends) c.new-counted.ensures in
    let ends = map unsigned_abs (map g.E.NativePType.number c.args.ends.now) in
    let p = c.args.pieces.now in
    record {
      from = omega arith;
      to = omega arith;
      at = λ h. c.first_past-run.ensures.place ∙ ap (λ (es : List ℕ). run_at es (c.args.offset + c.args.stretch.start)) (here ∙ sym same);
      counted = omega arith;
      cut = λ rows cut. none_of_stretch (length ends) rows p.ends.items p.runs.items p.count (runs_of ends c.args.offset c.args.count) c.args.stretch.start cut;
    }

pub reach_of-requires : goal.reach_of-requires
reach_of-requires g c =
    let ends = map unsigned_abs (map g.E.NativePType.number c.args.ends.now) in
    let inv = c.loop-row.invariant in
    let s = c.args.stretch in
    let own = length-naturals g.E.NativePType.number c.args.ends.now in
    let h = run_of_row_within ends c.args.offset c.args.count c.loop-row.row c.requires.window (omega (arith, c.loop-row-test.true, c.requires.within.inside)) in
    omega (arith, own, h, inv.at c.loop-row-test.true)

pub push_piece-requires : goal.push_piece-requires
push_piece-requires g c =
    let inv = c.loop-row.invariant in
    record { small = omega (arith, c.requires.small, inv.counted, inv.from, c.min-reach.ensures) }

pub loop-row-preserved : goal.loop-row-preserved
loop-row-preserved g c =
    let ends = map unsigned_abs (map g.E.NativePType.number c.args.ends.now) in
    let offset = c.args.offset in
    let count = c.args.count in
    let window = c.requires.window in
    let start = c.args.stretch.start in
    let stop = c.args.stretch.stop in
    let row = c.loop-row.row in
    let run = c.loop-row.run in
    let inv = c.loop-row.invariant in
    let reach = c.min-reach.result in
    let below = c.loop-row-test.true in
    let high = c.requires.within.inside in
    let is = inv.at below in
    let reach_is : reach ≡ min (min (slice_index ends run - offset) count) stop = c.min-reach.ensures ∙ ap (λ (n : ℕ). min n stop) c.reach_of.ensures in
    let past = reach_past ends offset count window start row stop run reach inv.from below high is reach_is in
    let last = reach_stop ends offset count window start row stop run reach inv.from below high is reach_is in
    let p = c.loop-row.pieces in
    let next = c.push_piece.new.pieces in
    record {
      from = omega (arith, inv.from, past);
      to = last;
      at = λ more. run_next ends offset count window start row stop run reach inv.from below high is reach_is more;
      counted = omega (arith, c.in_ok-push_piece.ensures.count, inv.counted, inv.from, past);
      cut = λ rows cut.
          piece_of_stretch (length ends) rows p.ends.items p.runs.items p.count (reach - row) run (runs_of ends offset count) start row reach next.ends.items next.runs.items next.count
          (inv.cut rows cut) (omega (arith, past)) (omega (arith, c.requires.small, inv.counted, inv.from, past, last))
          (run_within ends offset count window start row stop run reach inv.from below high is reach_is) (rows_reached ends offset count window start row stop run reach inv.from below high is reach_is)
          c.in_ok-push_piece.ensures.ends c.in_ok-push_piece.ensures.runs c.in_ok-push_piece.ensures.count;
    }

pub overflow_sub-reach : goal.overflow_sub-reach
overflow_sub-reach g c =
    let ends = map unsigned_abs (map g.E.NativePType.number c.args.ends.now) in
    let start = c.args.stretch.start in
    let stop = c.args.stretch.stop in
    let row = c.loop-row.row in
    let run = c.loop-row.run in
    let inv = c.loop-row.invariant in
    let reach = c.min-reach.result in
    let below = c.loop-row-test.true in
    let reach_is : reach ≡ min (min (slice_index ends run - c.args.offset) c.args.count) stop = c.min-reach.ensures ∙ ap (λ (n : ℕ). min n stop) c.reach_of.ensures in
    let past = reach_past ends c.args.offset c.args.count c.requires.window start row stop run reach inv.from below c.requires.within.inside (inv.at below) reach_is in
    omega (arith, past)

pub overflow_add-run : goal.overflow_add-run
overflow_add-run g c =
    let ends = map unsigned_abs (map g.E.NativePType.number c.args.ends.now) in
    let own = length-naturals g.E.NativePType.number c.args.ends.now in
    let h = run_of_row_within ends c.args.offset c.args.count c.loop-row.row c.requires.window (omega (arith, c.loop-row-test.true, c.requires.within.inside)) in
    let there : c.loop-row.run < length c.args.ends.now = omega (arith, own, h, c.loop-row.invariant.at c.loop-row-test.true) in
    search rules

pub loop-row-smaller : goal.loop-row-smaller
loop-row-smaller g c =
    let ends = map unsigned_abs (map g.E.NativePType.number c.args.ends.now) in
    let start = c.args.stretch.start in
    let stop = c.args.stretch.stop in
    let row = c.loop-row.row in
    let run = c.loop-row.run in
    let inv = c.loop-row.invariant in
    let reach = c.min-reach.result in
    let below = c.loop-row-test.true in
    let reach_is : reach ≡ min (min (slice_index ends run - c.args.offset) c.args.count) stop = c.min-reach.ensures ∙ ap (λ (n : ℕ). min n stop) c.reach_of.ensures in
    let past = reach_past ends c.args.offset c.args.count c.requires.window start row stop run reach inv.from below c.requires.within.inside (inv.at below) reach_is in
    omega (arith, past, below)
