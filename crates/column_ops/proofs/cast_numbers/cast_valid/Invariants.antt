use Rattle.std.proofs.Common.{◌≡◌, ◌≤◌, true, None, Some, cond, length, map, take, vec_capacity, vec_len}
use Rattle.column_base.specs.declared.dtype.Nullability.TheVariants.{NonNullable}
use Rattle.column_base.specs.declared.dtype.DType.TheVariants as column
use Rattle.column_base.specs.declared.error.VortexError.TheVariants.{CastOutOfRange}
use Rattle.column_ops.specs.Cast.{number_fault}
use Rattle.column_ops.specs.Fault.{first_fault}
use Rattle.column_ops.proofs.cast_numbers.cast_valid.Given as goal

abbrev pub invariant-loop-item : goal.invariant-loop-item
invariant-loop-item g l =
    let passed = map g.S.NativePType.number (take l.item-index l.items) in
    record {
      fault : first_fault (number_fault (column.Primitive g.T.NativePType.PTYPE NonNullable)) passed ≡ cond l.all_fit None (Some CastOutOfRange);
      cast : l.all_fit ≡ true → map g.T.NativePType.number l.cast.items ≡ passed;
      len : vec_len l.cast ≡ l.item-index;
      room : length l.items ≤ vec_capacity l.cast;
    }
