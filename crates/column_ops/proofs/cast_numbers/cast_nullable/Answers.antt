use Rattle.std.proofs.Common.{◌∙◌, map, pos, ap}
use Rattle.column_base.specs.declared.dtype.DType.TheVariants as column
use Rattle.column_base.specs.declared.dtype.Nullability.TheVariants.{NonNullable}
use Rattle.column_ops.specs.Cast.{number_fault}
use Rattle.column_ops.proofs.Blanked.{items_or, items_or-mapped}
use Rattle.column_ops.proofs.NoFaults.{zero-fits, no_fault-blanked}
use Rattle.column_ops.proofs.cast_numbers.cast_nullable.Goals as goal

pub returns-in-Ok-clause-refused : goal.returns-in-Ok-clause-refused
returns-in-Ok-clause-refused g c =
    no_fault-blanked (number_fault (column.Primitive g.T.NativePType.PTYPE NonNullable)) (map g.S.NativePType.number c.args.items.now) c.args.bits.now (pos 0)
    (zero-fits g.T.NativePType.PTYPE) c.in-Ok.ensures.refused

pub returns-in-Ok-clause-cast : goal.returns-in-Ok-clause-cast
returns-in-Ok-clause-cast g c =
    let number = g.T.NativePType.number in
    ap (map number) c.with_item_at_nulls.ensures
    ∙ items_or-mapped number c.in-Ok.cast.items c.args.bits.now c.default.result
    ∙ ap (items_or (map number c.in-Ok.cast.items) c.args.bits.now) (g.met.T.NativePType.law.zeroth c.default.result c.default.ensures)
    ∙ ap (λ numbers. items_or numbers c.args.bits.now (pos 0)) c.in-Ok.ensures.cast
