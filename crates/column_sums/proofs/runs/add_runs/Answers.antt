use Rattle.std.proofs.Common.{length, false, None, Some, arith}
use Rattle.column_sums.specs.SumRange.{sum_range}
use Rattle.column_sums.proofs.RunSums.{answered, few_additions, few_calls, finished}
use Rattle.column_sums.proofs.runs.add_runs.Goals as goal

pub returns-in-Some : goal.returns-in-Some
returns-in-Some g c =
    let range = sum_range g.V.NativePType.PTYPE in
    let runs = g.R.Runs.runs c.args.runs.now in
    let before = (g.S.RunSum.state c.args.sum.now).calls in
    let sum = g.S.RunSum.state c.add_parts.new.sum in
    let whole = finished range before runs (length runs) sum c.in-Some.is_empty (omega arith) c.in-Some.ensures.summed in
    record {
      answer = rw c.total.ensures (answered range before sum.calls runs (Some sum.value) c.in-Some.is_empty whole);
      calls = whole.made;
      few = few_calls range before sum.calls runs whole.made;
      additions = few_additions runs (g.S.RunSum.state c.args.sum.now) sum (few_calls range before sum.calls runs whole.made) c.add_parts.ensures.counted;
      value = c.total.ensures;
    }

pub returns-in-None : goal.returns-in-None
returns-in-None g c =
    let range = sum_range g.V.NativePType.PTYPE in
    let runs = g.R.Runs.runs c.args.runs.now in
    let before = (g.S.RunSum.state c.args.sum.now).calls in
    let sum = g.S.RunSum.state c.add_parts.new.sum in
    let whole = c.add_parts.ensures.left c.in-None.is in
    record {
      answer = answered range before sum.calls runs None false whole;
      calls = whole.made;
      few = few_calls range before sum.calls runs whole.made;
      additions = few_additions runs (g.S.RunSum.state c.args.sum.now) sum (few_calls range before sum.calls runs whole.made) c.add_parts.ensures.counted;
      value = tt;
    }
