use Rattle.std.proofs.Common.{◌≡◌, ◌∙◌, ◌+◌, ℤ, pos, Some, ap, arith}
use Rattle.std.specs.Prelude.{option_map}
use Rattle.column_sums.specs.Reach.{IsSized}
use Rattle.column_sums.specs.SumRange.{sum_range}
use Rattle.column_sums.proofs.Lanes.{begun_lanes, lanes-is_within, lanes_added, lanes_of_nulls, one_lane}
use Rattle.column_sums.proofs.Reaches.{few_rows, null-mapped, run-addable, sized_some, sized-wider}
use Rattle.column_sums.proofs.RunSums.{run-at}
use Rattle.column_sums.proofs.known_runs.add_eight.Goals as goal
use Rattle.column_sums.proofs.known_runs.add_eight.Goals.{then-not-all_null, else-not-all_null}

pub loop-lane-init : goal.loop-lane-init
loop-lane-init g c =
    let here : c.args.from + 0 ≡ c.args.from = omega arith in
    let zero : g.V.NativePType.number c.default-lanes.result ≡ pos 0 = g.met.V.NativePType.law.zeroth c.default-lanes.result c.default-lanes.ensures in
    record {
      to = omega arith;
      laid = rw (here, zero) (begun_lanes (sum_range g.V.NativePType.PTYPE) c.args.size (g.R.Runs.runs c.args.runs.now) c.args.from (g.S.RunSum.state c.args.sum.now) c.args.is_empty c.requires.stays);
    }

pub lane_added-lanes-requires-clause-few : goal.lane_added-lanes-requires-clause-few
lane_added-lanes-requires-clause-few g c =
    let runs = g.R.Runs.runs c.args.runs.now in
    let run = c.args.from + c.loop-lane.lane in
    let value = option_map g.V.NativePType.number c.value_of_lane-value.result in
    let count = c.inner_row_count-len.result in
    let at = run-at runs run value count c.value_of_lane-value.ensures c.inner_row_count-len.ensures.counted in
    omega (arith, few_rows runs run value count at, c.requires.few)

pub lane_added-lanes-requires-clause-short : goal.lane_added-lanes-requires-clause-short
lane_added-lanes-requires-clause-short g c =
    let range = sum_range g.V.NativePType.PTYPE in
    let run = c.args.from + c.loop-lane.lane in
    let value = option_map g.V.NativePType.number c.value_of_lane-value.result in
    let sized : (n : ℤ) → value ≡ Some n → IsSized range c.args.size n = λ n is. c.requires.sized run n (omega arith) (omega (arith, c.loop-lane-test.true)) (c.value_of_lane-value.ensures ∙ ap Some is) in
    λ short. sized_some range _ value (λ n is. sized-wider range c.args.size _ n (c.requires.short short) (sized n is))

pub lane_added-lanes-requires-clause-addable : goal.lane_added-lanes-requires-clause-addable
lane_added-lanes-requires-clause-addable g c =
    let range = sum_range g.V.NativePType.PTYPE in
    let runs = g.R.Runs.runs c.args.runs.now in
    let run = c.args.from + c.loop-lane.lane in
    let value = option_map g.V.NativePType.number c.value_of_lane-value.result in
    let count = c.inner_row_count-len.result in
    let at = run-at runs run value count c.value_of_lane-value.ensures c.inner_row_count-len.ensures.counted in
    let sized : (n : ℤ) → value ≡ Some n → IsSized range c.args.size n = λ n is. c.requires.sized run n (omega arith) (omega (arith, c.loop-lane-test.true)) (c.value_of_lane-value.ensures ∙ ap Some is) in
    run-addable range c.args.size (g.V.NativePType.number c.loop-lane.lanes) runs run value count at sized c.loop-lane.invariant.laid.own

pub loop-lane-preserved : goal.loop-lane-preserved
loop-lane-preserved g c =
    let range = sum_range g.V.NativePType.PTYPE in
    let runs = g.R.Runs.runs c.args.runs.now in
    let state = g.S.RunSum.state in
    let run = c.args.from + c.loop-lane.lane in
    let number = g.V.NativePType.number in
    let value = option_map number c.value_of_lane-value.result in
    let count = c.inner_row_count-len.result in
    let at = run-at runs run value count c.value_of_lane-value.ensures c.inner_row_count-len.ensures.counted in
    let sized : (n : ℤ) → value ≡ Some n → IsSized range c.args.size n = λ n is. c.requires.sized run n (omega arith) (omega (arith, c.loop-lane-test.true)) (c.value_of_lane-value.ensures ∙ ap Some is) in
    let next : c.args.from + (c.loop-lane.lane + 1) ≡ run + 1 = omega arith in
    let null = null-mapped number c.value_of_lane-value.result c.is_none-all_null.result c.is_none-all_null.ensures in
    record {
      to = omega (arith, c.loop-lane-test.true);
      laid = rw (next, c.list.ensures, c.lane_added-lanes.ensures, null)
          (one_lane range c.args.size runs c.args.from (state c.args.sum.now) c.args.is_empty run (state c.loop-lane.sum) (number c.loop-lane.lanes) c.loop-lane.all_null
          value count at c.inner_row_count-len.ensures.shown sized c.loop-lane.invariant.laid);
    }

pub add_lanes-requires : goal.add_lanes-requires
add_lanes-requires g c =
    lanes-is_within (sum_range g.V.NativePType.PTYPE) c.args.size (g.R.Runs.runs c.args.runs.now) c.args.from (g.S.RunSum.state c.args.sum.now) c.args.is_empty
    (c.args.from + c.loop-lane.lane) (g.S.RunSum.state c.loop-lane.sum) (g.V.NativePType.number c.loop-lane.lanes) c.loop-lane.all_null c.loop-lane.invariant.laid

pub returns-clause-stays : goal.returns-clause-stays
returns-clause-stays g c =
    let laid = c.loop-lane.invariant.laid in
    let here : c.args.from + c.loop-lane.lane ≡ c.args.from + 8 = omega (arith, c.loop-lane.invariant.to, c.loop-lane-test.false) in
    elim c.if-not-all_null.branch [
      | then-not-all_null w ↦ rw (w.sum-is, w.add_lanes.ensures) (rw here at (lanes_added _ _ _ _ _ _ _ _ _ _ w.if-not-all_null.true laid).0)
      | else-not-all_null w ↦ rw w.sum-is (rw here at (lanes_of_nulls _ _ _ _ _ _ _ _ _ _ w.if-not-all_null.false laid).0)
    ]

pub returns-clause-summed : goal.returns-clause-summed
returns-clause-summed g c =
    let laid = c.loop-lane.invariant.laid in
    let here : c.args.from + c.loop-lane.lane ≡ c.args.from + 8 = omega (arith, c.loop-lane.invariant.to, c.loop-lane-test.false) in
    elim c.if-not-all_null.branch [
      | then-not-all_null w ↦ λ before h. rw (w.sum-is, w.add_lanes.ensures) (rw here at (laid.summed before h))
      | else-not-all_null w ↦ λ before h. rw w.sum-is (rw here at ((lanes_of_nulls _ _ _ _ _ _ _ _ _ _ w.if-not-all_null.false laid).1.0 before h))
    ]

pub returns-clause-counted : goal.returns-clause-counted
returns-clause-counted g c =
    let laid = c.loop-lane.invariant.laid in
    elim c.if-not-all_null.branch [
      | then-not-all_null w ↦ rw (w.sum-is, w.add_lanes.ensures) (lanes_added _ _ _ _ _ _ _ _ _ _ w.if-not-all_null.true laid).1
      | else-not-all_null w ↦ rw w.sum-is (lanes_of_nulls _ _ _ _ _ _ _ _ _ _ w.if-not-all_null.false laid).1.1
    ]
