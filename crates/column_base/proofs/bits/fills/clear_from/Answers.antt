use Rattle.column_base.proofs.WordClears.{IsClearedFrom-masked, IsClearedFrom-full}
use Rattle.column_base.proofs.bits.fills.clear_from.Goals as goal

pub returns-then-count-ne0 : goal.returns-then-count-ne0
returns-then-count-ne0 c = IsClearedFrom-masked c.args.words.now c.args.count c.low_mask.result c.requires c.if-count-ne0.true c.low_mask.ensures

pub returns-else-count-ne0 : goal.returns-else-count-ne0
returns-else-count-ne0 c = IsClearedFrom-full c.args.words.now c.args.count c.requires c.if-count-ne0.false
