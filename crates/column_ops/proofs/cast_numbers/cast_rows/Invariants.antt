use Rattle.std.proofs.Common.{◌≡◌, ◌≤◌, length, map, take, pos, None, vec_capacity, vec_len}
use Rattle.std.specs.Prelude.{unwrap_or}
use Rattle.column_base.specs.declared.dtype.DType.TheVariants as column
use Rattle.column_base.specs.Validity.{form_of}
use Rattle.column_core.specs.Leaf.{OfNumbers, single_rows}
use Rattle.column_core.specs.PrimitiveForm.{optional_numbers, primitive_with}
use Rattle.column_ops.specs.Cast.{cast_row_fault}
use Rattle.column_ops.specs.Fault.{first_fault}
use Rattle.column_ops.proofs.cast_numbers.cast_rows.Given as goal

abbrev pub invariant-loop-row : goal.invariant-loop-row
invariant-loop-row g l =
    let own = primitive_with g.S.NativePType.PTYPE (map g.S.NativePType.number l.items) (form_of l.validity) in
    record {
      cast : map g.T.NativePType.number l.cast.items ≡ map (λ row. unwrap_or row (pos 0)) (take l.row (optional_numbers own));
      sound : first_fault (cast_row_fault (column.Primitive g.T.NativePType.PTYPE l.nullability)) (take l.row (single_rows (OfNumbers own))) ≡ None;
      len : vec_len l.cast ≡ l.row;
      room : length l.items ≤ vec_capacity l.cast;
    }
