use Rattle.runend_array.specs.Array.{column_of}
use Rattle.runend_array.proofs.RunParts.{AreParts-between, runs-between}
use Rattle.runend_array.proofs.array.RunEndArray.runs_over.Goals as goal

pub new_unchecked-requires : goal.new_unchecked-requires
new_unchecked-requires g c =
    AreParts-between c.args.self.now c.args.runs.start c.args.runs.end c.args.start c.args.stop c.requires.first c.requires.stop
    c.in-Ok.ends (column_of c.args.values) c.position_of-offset.result c.requires.ordered c.requires.in_bounds c.in-Ok.ensures.plain c.in-Ok.ensures.ends c.requires.paired c.position_of-offset.ensures c.requires.window

pub returns-clause-form : goal.returns-clause-form
returns-clause-form g c =
    runs-between c.args.self.now c.args.runs.start c.args.runs.end c.args.start c.args.stop c.requires.first c.requires.stop
    c.in-Ok.ends (column_of c.args.values) c.position_of-offset.result c.new_unchecked.result c.new_unchecked.ensures c.in-Ok.ensures.ends c.in-Ok.ensures.typed c.position_of-offset.ensures
