use Rattle.std.proofs.Common.{◌≡◌, ◌∙◌, ◌+◌, ◌++◌, ◌∷◌, [], map, take, sym, ap}
use Rattle.std.proofs.lemmas.Bool.{and_parts}
use Rattle.std.proofs.lemmas.List.{map_more, map_push}
use Rattle.column_base.specs.declared.dtype.Nullability.TheVariants.{NonNullable}
use Rattle.column_base.specs.declared.dtype.DType.TheVariants as column
use Rattle.column_base.specs.declared.error.VortexError.TheVariants.{CastOutOfRange}
use Rattle.column_ops.specs.Cast.{number_fault}
use Rattle.column_ops.specs.Fault.{first_fault}
use Rattle.column_ops.proofs.Nulls.{first_fault-tested}
use Rattle.column_ops.proofs.cast_numbers.cast_valid.Goals as goal

pub loop-item-preserved : goal.loop-item-preserved
loop-item-preserved g c =
    let from = g.S.NativePType.number in
    let to = g.T.NativePType.number in
    let inv = c.loop-item.invariant in
    let item = c.item-item.result in
    let cast = c.cast_or_zero-number.result in
    let passed = map from (take c.loop-item.item-index c.args.items.now) in
    let fault = number_fault (column.Primitive g.T.NativePType.PTYPE NonNullable) in
    let next : map from (take (c.loop-item.item-index + 1) c.args.items.now) ≡ passed ++ from item ∷ [] =
    map_more from c.args.items.now c.loop-item.item-index item c.loop-item-test.true ∙ ap (λ x. passed ++ from x ∷ []) (sym c.item-item.is) in
    record {
      fault = ap (first_fault fault) next ∙ first_fault-tested fault passed (from item) CastOutOfRange c.loop-item.all_fit cast.1 inv.fault c.cast_or_zero-number.ensures.fault;
      cast = λ fit.
          let both = and_parts c.loop-item.all_fit cast.1 fit in
          ap (map to) c.push_reserved.ensures.items ∙ map_push to c.loop-item.cast.items cast.0 ∙ ap (λ xs. xs ++ to cast.0 ∷ []) (inv.cast both.0)
          ∙ ap (λ n. passed ++ n ∷ []) (c.cast_or_zero-number.ensures.same both.1) ∙ sym next;
      len = c.push_reserved.ensures.len ∙ ap (λ n. n + 1) inv.len;
      room = rw c.push_reserved.ensures.capacity inv.room;
    }
