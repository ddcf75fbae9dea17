use Rattle.std.proofs.Common.{◌∙◌, map, pos, ap}
use Rattle.column_ops.proofs.Blanked.{items_or, items_or-mapped}
use Rattle.column_ops.proofs.NoFaults.{no_fault-optional}
use Rattle.column_ops.proofs.positions.marked_positions.Goals as goal

pub returns-in-Ok-clause-refused : goal.returns-in-Ok-clause-refused
returns-in-Ok-clause-refused g c = no_fault-optional c.args.count (map g.T.NativePType.number c.args.indices.now) c.args.marks.now c.in-Ok.ensures.refused

pub returns-in-Ok-clause-same : goal.returns-in-Ok-clause-same
returns-in-Ok-clause-same g c =
    ap (map pos) c.with_item_at_nulls.ensures ∙ items_or-mapped (λ n. pos n) c.in-Ok.positions.items c.args.marks.now 0
    ∙ ap (λ numbers. items_or numbers c.args.marks.now (pos 0)) c.in-Ok.ensures.same
