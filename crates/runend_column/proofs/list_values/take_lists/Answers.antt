use Rattle.column_base.specs.Validity.{form_of}
use Rattle.runend_column.proofs.ComputedRows.{ok_then2}
use Rattle.runend_column.proofs.ListsTaken.{ArePlacesOf-lists, IsComputedAs-lists}
use Rattle.runend_column.proofs.list_values.take_lists.Goals as goal

pub take_at-requires-clause-within : goal.take_at-requires-clause-within
take_at-requires-clause-within g c = ArePlacesOf-lists c.args.lists.now c.args.positions.now (form_of c.args.places.now) c.requires.counted c.requires.within

pub returns-clause-made : goal.returns-clause-made
returns-clause-made g c =
    ok_then2 c.take_at.result _ _ _ (λ taken rows dtype. IsComputedAs-lists c.args.lists.now c.args.positions.now (form_of c.args.places.now) c.requires.counted c.requires.within taken rows dtype)
    c.take_at.ensures.rows c.take_at.ensures.dtype
