use Rattle.std.proofs.Common.{map, sym, subst}
use Rattle.std.specs.Prelude.{IfOk}
use Rattle.column_base.specs.declared.dtype.PType.{PType}
use Rattle.column_base.specs.declared.dtype.DType.TheVariants as column
use Rattle.column_base.specs.Validity.{form_of}
use Rattle.column_core.specs.Leaf.{OfNumbers, single_rows}
use Rattle.column_core.specs.PrimitiveForm.{primitive_rows, primitive_with}
use Rattle.column_core.specs.Refusal.{IsRefusedBy}
use Rattle.column_ops.specs.Cast.{cast_row_fault}
use Rattle.column_ops.specs.Computed.{IsMade}
use Rattle.column_ops.specs.Fault.{first_fault}
use Rattle.column_ops.proofs.cast_numbers.cast_native.Goals as goal

pub cast_column-requires : goal.cast_column-requires
cast_column-requires g c = c.requires

pub returns-in-U8-clause-refused : goal.returns-in-U8-clause-refused
returns-in-U8-clause-refused g c =
    let own = primitive_with g.S.NativePType.PTYPE (map g.S.NativePType.number c.args.items.now) (form_of c.args.validity.now) in
    subst (λ (ptype : PType). IsRefusedBy (first_fault (cast_row_fault (column.Primitive ptype c.args.nullability)) (single_rows (OfNumbers own))) c.cast_column.result) (sym c.in-U8.is) c.cast_column.ensures.refused

pub returns-in-U8-clause-made : goal.returns-in-U8-clause-made
returns-in-U8-clause-made g c =
    let own = primitive_with g.S.NativePType.PTYPE (map g.S.NativePType.number c.args.items.now) (form_of c.args.validity.now) in
    subst (λ (ptype : PType). IfOk c.cast_column.result (λ array. IsMade (primitive_rows own) (column.Primitive ptype c.args.nullability) (OfNumbers array))) (sym c.in-U8.is) c.cast_column.ensures.made

pub cast_column-requires-in-U16 : goal.cast_column-requires-in-U16
cast_column-requires-in-U16 g c = c.requires

pub returns-in-U16-clause-refused : goal.returns-in-U16-clause-refused
returns-in-U16-clause-refused g c =
    let own = primitive_with g.S.NativePType.PTYPE (map g.S.NativePType.number c.args.items.now) (form_of c.args.validity.now) in
    subst (λ (ptype : PType). IsRefusedBy (first_fault (cast_row_fault (column.Primitive ptype c.args.nullability)) (single_rows (OfNumbers own))) c.cast_column-in-U16.result) (sym c.in-U16.is) c.cast_column-in-U16.ensures.refused

pub returns-in-U16-clause-made : goal.returns-in-U16-clause-made
returns-in-U16-clause-made g c =
    let own = primitive_with g.S.NativePType.PTYPE (map g.S.NativePType.number c.args.items.now) (form_of c.args.validity.now) in
    subst (λ (ptype : PType). IfOk c.cast_column-in-U16.result (λ array. IsMade (primitive_rows own) (column.Primitive ptype c.args.nullability) (OfNumbers array))) (sym c.in-U16.is) c.cast_column-in-U16.ensures.made

pub cast_column-requires-in-U32 : goal.cast_column-requires-in-U32
cast_column-requires-in-U32 g c = c.requires

pub returns-in-U32-clause-refused : goal.returns-in-U32-clause-refused
returns-in-U32-clause-refused g c =
    let own = primitive_with g.S.NativePType.PTYPE (map g.S.NativePType.number c.args.items.now) (form_of c.args.validity.now) in
    subst (λ (ptype : PType). IsRefusedBy (first_fault (cast_row_fault (column.Primitive ptype c.args.nullability)) (single_rows (OfNumbers own))) c.cast_column-in-U32.result) (sym c.in-U32.is) c.cast_column-in-U32.ensures.refused

pub returns-in-U32-clause-made : goal.returns-in-U32-clause-made
returns-in-U32-clause-made g c =
    let own = primitive_with g.S.NativePType.PTYPE (map g.S.NativePType.number c.args.items.now) (form_of c.args.validity.now) in
    subst (λ (ptype : PType). IfOk c.cast_column-in-U32.result (λ array. IsMade (primitive_rows own) (column.Primitive ptype c.args.nullability) (OfNumbers array))) (sym c.in-U32.is) c.cast_column-in-U32.ensures.made

pub cast_column-requires-in-U64 : goal.cast_column-requires-in-U64
cast_column-requires-in-U64 g c = c.requires

pub returns-in-U64-clause-refused : goal.returns-in-U64-clause-refused
returns-in-U64-clause-refused g c =
    let own = primitive_with g.S.NativePType.PTYPE (map g.S.NativePType.number c.args.items.now) (form_of c.args.validity.now) in
    subst (λ (ptype : PType). IsRefusedBy (first_fault (cast_row_fault (column.Primitive ptype c.args.nullability)) (single_rows (OfNumbers own))) c.cast_column-in-U64.result) (sym c.in-U64.is) c.cast_column-in-U64.ensures.refused

pub returns-in-U64-clause-made : goal.returns-in-U64-clause-made
returns-in-U64-clause-made g c =
    let own = primitive_with g.S.NativePType.PTYPE (map g.S.NativePType.number c.args.items.now) (form_of c.args.validity.now) in
    subst (λ (ptype : PType). IfOk c.cast_column-in-U64.result (λ array. IsMade (primitive_rows own) (column.Primitive ptype c.args.nullability) (OfNumbers array))) (sym c.in-U64.is) c.cast_column-in-U64.ensures.made

pub cast_column-requires-in-I8 : goal.cast_column-requires-in-I8
cast_column-requires-in-I8 g c = c.requires

pub returns-in-I8-clause-refused : goal.returns-in-I8-clause-refused
returns-in-I8-clause-refused g c =
    let own = primitive_with g.S.NativePType.PTYPE (map g.S.NativePType.number c.args.items.now) (form_of c.args.validity.now) in
    subst (λ (ptype : PType). IsRefusedBy (first_fault (cast_row_fault (column.Primitive ptype c.args.nullability)) (single_rows (OfNumbers own))) c.cast_column-in-I8.result) (sym c.in-I8.is) c.cast_column-in-I8.ensures.refused

pub returns-in-I8-clause-made : goal.returns-in-I8-clause-made
returns-in-I8-clause-made g c =
    let own = primitive_with g.S.NativePType.PTYPE (map g.S.NativePType.number c.args.items.now) (form_of c.args.validity.now) in
    subst (λ (ptype : PType). IfOk c.cast_column-in-I8.result (λ array. IsMade (primitive_rows own) (column.Primitive ptype c.args.nullability) (OfNumbers array))) (sym c.in-I8.is) c.cast_column-in-I8.ensures.made

pub cast_column-requires-in-I16 : goal.cast_column-requires-in-I16
cast_column-requires-in-I16 g c = c.requires

pub returns-in-I16-clause-refused : goal.returns-in-I16-clause-refused
returns-in-I16-clause-refused g c =
    let own = primitive_with g.S.NativePType.PTYPE (map g.S.NativePType.number c.args.items.now) (form_of c.args.validity.now) in
    subst (λ (ptype : PType). IsRefusedBy (first_fault (cast_row_fault (column.Primitive ptype c.args.nullability)) (single_rows (OfNumbers own))) c.cast_column-in-I16.result) (sym c.in-I16.is) c.cast_column-in-I16.ensures.refused

pub returns-in-I16-clause-made : goal.returns-in-I16-clause-made
returns-in-I16-clause-made g c =
    let own = primitive_with g.S.NativePType.PTYPE (map g.S.NativePType.number c.args.items.now) (form_of c.args.validity.now) in
    subst (λ (ptype : PType). IfOk c.cast_column-in-I16.result (λ array. IsMade (primitive_rows own) (column.Primitive ptype c.args.nullability) (OfNumbers array))) (sym c.in-I16.is) c.cast_column-in-I16.ensures.made

pub cast_column-requires-in-I32 : goal.cast_column-requires-in-I32
cast_column-requires-in-I32 g c = c.requires

pub returns-in-I32-clause-refused : goal.returns-in-I32-clause-refused
returns-in-I32-clause-refused g c =
    let own = primitive_with g.S.NativePType.PTYPE (map g.S.NativePType.number c.args.items.now) (form_of c.args.validity.now) in
    subst (λ (ptype : PType). IsRefusedBy (first_fault (cast_row_fault (column.Primitive ptype c.args.nullability)) (single_rows (OfNumbers own))) c.cast_column-in-I32.result) (sym c.in-I32.is) c.cast_column-in-I32.ensures.refused

pub returns-in-I32-clause-made : goal.returns-in-I32-clause-made
returns-in-I32-clause-made g c =
    let own = primitive_with g.S.NativePType.PTYPE (map g.S.NativePType.number c.args.items.now) (form_of c.args.validity.now) in
    subst (λ (ptype : PType). IfOk c.cast_column-in-I32.result (λ array. IsMade (primitive_rows own) (column.Primitive ptype c.args.nullability) (OfNumbers array))) (sym c.in-I32.is) c.cast_column-in-I32.ensures.made

pub cast_column-requires-in-I64 : goal.cast_column-requires-in-I64
cast_column-requires-in-I64 g c = c.requires

pub returns-in-I64-clause-refused : goal.returns-in-I64-clause-refused
returns-in-I64-clause-refused g c =
    let own = primitive_with g.S.NativePType.PTYPE (map g.S.NativePType.number c.args.items.now) (form_of c.args.validity.now) in
    subst (λ (ptype : PType). IsRefusedBy (first_fault (cast_row_fault (column.Primitive ptype c.args.nullability)) (single_rows (OfNumbers own))) c.cast_column-in-I64.result) (sym c.in-I64.is) c.cast_column-in-I64.ensures.refused

pub returns-in-I64-clause-made : goal.returns-in-I64-clause-made
returns-in-I64-clause-made g c =
    let own = primitive_with g.S.NativePType.PTYPE (map g.S.NativePType.number c.args.items.now) (form_of c.args.validity.now) in
    subst (λ (ptype : PType). IfOk c.cast_column-in-I64.result (λ array. IsMade (primitive_rows own) (column.Primitive ptype c.args.nullability) (OfNumbers array))) (sym c.in-I64.is) c.cast_column-in-I64.ensures.made
