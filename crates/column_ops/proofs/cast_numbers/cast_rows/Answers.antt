use Rattle.std.proofs.Common.{◌∙◌, ◌+◌, map, pos, ap, arith}
use Rattle.std.specs.Prelude.{option_map, unwrap_or}
use Rattle.std.proofs.lemmas.List.{length-map}
use Rattle.column_base.specs.declared.dtype.DType.TheVariants as column
use Rattle.column_base.specs.Validity.{form_of}
use Rattle.column_core.specs.Leaf.{OfNumbers, single_rows}
use Rattle.column_core.specs.PrimitiveForm.{optional_numbers, primitive_with}
use Rattle.column_ops.specs.Cast.{cast_row_fault}
use Rattle.column_ops.proofs.Blanked.{cast-more}
use Rattle.column_ops.proofs.CastRows.{single_number-at, single_numbers_all}
use Rattle.column_ops.proofs.IndexPositions.{first_error-here, first_fault-next, indices_all, number-of_row}
use Rattle.column_ops.proofs.cast_numbers.cast_rows.Goals as goal

pub returns-in-Err-clause-refused : goal.returns-in-Err-clause-refused
returns-in-Err-clause-refused g c =
    let number = g.S.NativePType.number in
    let own = primitive_with g.S.NativePType.PTYPE (map number c.args.items.now) (form_of c.args.validity.now) in
    let fault = cast_row_fault (column.Primitive g.T.NativePType.PTYPE c.args.nullability) in
    let row = c.loop-row.row in
    let shown = number-of_row g.S.NativePType.PTYPE number c.args.items.now (form_of c.args.validity.now) row c.item_at-item.result c.item_at-item.ensures.row in
    let here = single_number-at own row (option_map number c.item_at-item.result) shown in
    first_error-here fault (single_rows (OfNumbers own)) row _ c.in-Err.error c.loop-row.invariant.sound here c.in-Err.ensures.refused

pub returns-clause-refused : goal.returns-clause-refused
returns-clause-refused g c =
    let number = g.S.NativePType.number in
    let long = length-map c.args.items.now number in
    let own = primitive_with g.S.NativePType.PTYPE (map number c.args.items.now) (form_of c.args.validity.now) in
    rw (single_numbers_all own c.loop-row.row (omega arith)) at c.loop-row.invariant.sound

pub returns-clause-cast : goal.returns-clause-cast
returns-clause-cast g c =
    let all = indices_all g.S.NativePType.PTYPE g.S.NativePType.number c.args.items.now (form_of c.args.validity.now) c.loop-row.row (omega arith) in
    c.loop-row.invariant.cast ∙ ap (map (λ row. unwrap_or row (pos 0))) all

pub loop-row-preserved : goal.loop-row-preserved
loop-row-preserved g c =
    let number = g.S.NativePType.number in
    let own = primitive_with g.S.NativePType.PTYPE (map number c.args.items.now) (form_of c.args.validity.now) in
    let fault = cast_row_fault (column.Primitive g.T.NativePType.PTYPE c.args.nullability) in
    let row = c.loop-row.row in
    let item = option_map number c.item_at-item.result in
    let shown = number-of_row g.S.NativePType.PTYPE number c.args.items.now (form_of c.args.validity.now) row c.item_at-item.result c.item_at-item.ensures.row in
    let here = single_number-at own row item shown in
    let zeroth = g.met.T.NativePType.law.zeroth c.default.result c.default.ensures in
    let old = c.loop-row.invariant in
    record {
      cast = cast-more g.T.NativePType.number c.loop-row.cast.items c.push_reserved.new.self.items (optional_numbers own) row c.in-Ok.number c.default.result c.unwrap_or.result item
          old.cast c.push_reserved.ensures.items c.unwrap_or.ensures zeroth c.in-Ok.ensures.same shown;
      sound = first_fault-next fault (single_rows (OfNumbers own)) row _ old.sound here c.in-Ok.ensures.refused;
      len = c.push_reserved.ensures.len ∙ ap (λ n. n + 1) old.len;
      room = rw c.push_reserved.ensures.capacity old.room;
    }
