use Rattle.std.proofs.Common.{refl}
use Rattle.column_sums.specs.SumRange.{sum_range}
use Rattle.column_sums.proofs.RunSums.{begun}
use Rattle.column_sums.proofs.runs.add_parts.Goals as goal

pub returns-in_err-start_empty-clause-left : goal.returns-in_err-start_empty-clause-left
returns-in_err-start_empty-clause-left g c =
    let sum = g.S.RunSum.state c.args.sum.now in
    λ none. c.in_err-start_empty.ensures.left refl sum.calls (begun (sum_range g.V.NativePType.PTYPE) (g.R.Runs.runs c.args.runs.now) sum c.requires)

pub returns-in_err-inner_empty-clause-left : goal.returns-in_err-inner_empty-clause-left
returns-in_err-inner_empty-clause-left g c =
    let sum = g.S.RunSum.state c.args.sum.now in
    λ none. c.in_err-inner_empty.ensures.left refl sum.calls
    (c.in_ok-start_empty.ensures.summed sum.calls (begun (sum_range g.V.NativePType.PTYPE) (g.R.Runs.runs c.args.runs.now) sum c.requires))

pub returns-clause-left : goal.returns-clause-left
returns-clause-left g c =
    let sum = g.S.RunSum.state c.args.sum.now in
    λ none. c.add_between-2.ensures.left none sum.calls (c.in_ok-inner_empty.ensures.summed sum.calls
    (c.in_ok-start_empty.ensures.summed sum.calls (begun (sum_range g.V.NativePType.PTYPE) (g.R.Runs.runs c.args.runs.now) sum c.requires)))
