use Rattle.std.proofs.Common.{◌∙◌}
use Rattle.column_core.specs.FlatColumn.{leaf_of}
use Rattle.runend_windows.proofs.NullRows.{HasNullsAlone-by_length, HasNullsAlone-by_count}
use Rattle.runend_windows.proofs.flat.has_nulls_alone.Goals as goal

pub returns-then-valid_count-eq0-clause-nulls : goal.returns-then-valid_count-eq0-clause-nulls
returns-then-valid_count-eq0-clause-nulls g c =
    HasNullsAlone-by_length (leaf_of c.args.values.now) c.valid_count.ensures.fits c.valid_count.result c.len.result c.valid_count.ensures.count c.if-valid_count-eq0.true
    (c.len.ensures ∙ c.valid_count.ensures.rows)

pub returns-else-valid_count-eq0-clause-nulls : goal.returns-else-valid_count-eq0-clause-nulls
returns-else-valid_count-eq0-clause-nulls g c =
    HasNullsAlone-by_count (leaf_of c.args.values.now) c.valid_count.ensures.fits c.valid_count.result c.valid_count.ensures.count c.if-valid_count-eq0.false
