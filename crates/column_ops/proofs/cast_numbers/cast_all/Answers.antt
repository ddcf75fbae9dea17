use Rattle.std.proofs.Common.{◌≡◌, ◌∙◌, map, pos, sym, ap, subst}
use Rattle.std.specs.Prelude.{IfOk, unwrap_or}
use Rattle.column_base.specs.declared.dtype.DType.TheVariants as column
use Rattle.column_base.specs.Validity.{form_of}
use Rattle.column_core.specs.Leaf.{OfNumbers, single_rows}
use Rattle.column_core.specs.PrimitiveForm.{optional_numbers, primitive_with}
use Rattle.column_core.specs.Refusal.{IsRefusedBy}
use Rattle.column_ops.specs.Cast.{cast_row_fault}
use Rattle.column_ops.specs.Fault.{first_fault}
use Rattle.column_ops.proofs.Blanked.{items_or-valid}
use Rattle.column_base.specs.declared.dtype.Nullability.{Nullability}
use Rattle.column_base.specs.declared.dtype.Nullability.TheVariants.{Nullable}
use Rattle.column_ops.proofs.Nulls.{faults-blanked, faults-valid}
use Rattle.column_ops.proofs.cast_numbers.cast_all.Goals as goal

pub returns-in-NonNullable-clause-refused : goal.returns-in-NonNullable-clause-refused
returns-in-NonNullable-clause-refused g c =
    let numbers = map g.S.NativePType.number c.args.items.now in
    let fault = sym (faults-valid g.T.NativePType.PTYPE c.args.nullability numbers) in
    let told = sym (ap (λ own. first_fault (cast_row_fault (column.Primitive g.T.NativePType.PTYPE c.args.nullability)) (single_rows (OfNumbers (primitive_with g.S.NativePType.PTYPE numbers (form_of own))))) c.in-NonNullable.is) in
    subst (λ why. IsRefusedBy why c.cast_valid.result) (fault ∙ told) c.cast_valid.ensures.refused

pub returns-in-AllValid-clause-refused : goal.returns-in-AllValid-clause-refused
returns-in-AllValid-clause-refused g c =
    let numbers = map g.S.NativePType.number c.args.items.now in
    let fault = sym (faults-valid g.T.NativePType.PTYPE c.args.nullability numbers) in
    let told = sym (ap (λ own. first_fault (cast_row_fault (column.Primitive g.T.NativePType.PTYPE c.args.nullability)) (single_rows (OfNumbers (primitive_with g.S.NativePType.PTYPE numbers (form_of own))))) c.in-AllValid.is) in
    subst (λ why. IsRefusedBy why c.cast_valid-in-AllValid.result) (fault ∙ told) c.cast_valid-in-AllValid.ensures.refused

pub returns-in-NonNullable-clause-cast : goal.returns-in-NonNullable-clause-cast
returns-in-NonNullable-clause-cast g c =
    let numbers = map g.S.NativePType.number c.args.items.now in
    let told = sym (ap (λ own. map (λ row. unwrap_or row (pos 0)) (optional_numbers (primitive_with g.S.NativePType.PTYPE numbers (form_of own)))) c.in-NonNullable.is) in
    subst (λ wanted. IfOk c.cast_valid.result (λ cast. map g.T.NativePType.number cast.items ≡ wanted)) (sym (items_or-valid numbers (pos 0)) ∙ told) c.cast_valid.ensures.cast

pub returns-in-AllValid-clause-cast : goal.returns-in-AllValid-clause-cast
returns-in-AllValid-clause-cast g c =
    let numbers = map g.S.NativePType.number c.args.items.now in
    let told = sym (ap (λ own. map (λ row. unwrap_or row (pos 0)) (optional_numbers (primitive_with g.S.NativePType.PTYPE numbers (form_of own)))) c.in-AllValid.is) in
    subst (λ wanted. IfOk c.cast_valid-in-AllValid.result (λ cast. map g.T.NativePType.number cast.items ≡ wanted)) (sym (items_or-valid numbers (pos 0)) ∙ told) c.cast_valid-in-AllValid.ensures.cast

pub returns-in-Nullable-clause-refused : goal.returns-in-Nullable-clause-refused
returns-in-Nullable-clause-refused g c =
    let numbers = map g.S.NativePType.number c.args.items.now in
    let fault = sym (faults-blanked g.T.NativePType.PTYPE numbers c.in-Bits.bits) in
    let bits = sym (ap (λ own. first_fault (cast_row_fault (column.Primitive g.T.NativePType.PTYPE Nullable)) (single_rows (OfNumbers (primitive_with g.S.NativePType.PTYPE numbers (form_of own))))) c.in-Bits.is) in
    let rows = single_rows (OfNumbers (primitive_with g.S.NativePType.PTYPE numbers (form_of c.args.validity.now))) in
    let nullable = sym (ap (λ (n : Nullability). first_fault (cast_row_fault (column.Primitive g.T.NativePType.PTYPE n)) rows) c.in-Nullable.is) in
    subst (λ why. IsRefusedBy why c.cast_nullable.result) (fault ∙ bits ∙ nullable) c.cast_nullable.ensures.refused
