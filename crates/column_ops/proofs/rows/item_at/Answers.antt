use Rattle.column_base.specs.Validity.{form_of}
use Rattle.column_ops.proofs.RowItems.{row-valid, row-null}
use Rattle.column_ops.proofs.rows.item_at.Goals as goal

pub returns-then-is_valid-clause-row : goal.returns-then-is_valid-clause-row
returns-then-is_valid-clause-row g c =
    row-valid c.args.items.now (form_of c.args.validity.now) c.args.row c.index-items-row.result c.is_valid.result c.requires.fits c.requires.within c.is_valid.ensures c.if-is_valid.true c.index-items-row.is

pub returns-else-is_valid-clause-row : goal.returns-else-is_valid-clause-row
returns-else-is_valid-clause-row g c =
    row-null c.args.items.now (form_of c.args.validity.now) c.args.row c.is_valid.result c.requires.fits c.requires.within c.is_valid.ensures c.if-is_valid.false
