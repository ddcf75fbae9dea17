use Rattle.std.proofs.Common.{map}
use Rattle.column_base.specs.Validity.{form_of}
use Rattle.column_core.specs.PrimitiveForm.{optional_numbers, primitive_with}
use Rattle.column_ops.proofs.CastRows.{IsMade-cast_numbers}
use Rattle.column_ops.proofs.cast_numbers.cast_column.Goals as goal

pub returns-clause-made : goal.returns-clause-made
returns-clause-made g c =
    let own = primitive_with g.S.NativePType.PTYPE (map g.S.NativePType.number c.args.items.now) (form_of c.args.validity.now) in
    let numbers = map g.T.NativePType.number c.in_ok-cast.cast.items in
    rw (c.new_unchecked.ensures, c.wrap.ensures.shows, c.wrap.ensures.typed)
    (IsMade-cast_numbers g.T.NativePType.PTYPE (optional_numbers own) c.args.nullability numbers (form_of c.in_ok-cast.rows) c.in_ok-cast.ensures.cast)
