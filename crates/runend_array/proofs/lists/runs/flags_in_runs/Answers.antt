use Rattle.runend_array.proofs.ListRuns.{AreParts-truths}
use Rattle.runend_array.proofs.lists.runs.flags_in_runs.Goals as goal

pub new_unchecked-runs-requires : goal.new_unchecked-runs-requires
new_unchecked-runs-requires g c =
    AreParts-truths c.args.ends.now c.in-Ok.ends c.new_unchecked-values.result c.args.flags c.args.offset c.args.count c.requires.plain c.requires.window
    c.in-Ok.ensures.form c.new_unchecked-values.ensures c.requires.paired
