use Rattle.std.proofs.Common.{◌≡◌, ◌∙◌, length, map, pos, replicate, sym, ap, subst}
use Rattle.std.specs.Prelude.{IfOk, unwrap_or}
use Rattle.std.proofs.lemmas.List.{length-map}
use Rattle.column_base.specs.Validity.{form_of}
use Rattle.column_core.specs.PrimitiveForm.{optional_numbers, primitive_with}
use Rattle.column_core.specs.Refusal.{IsRefusedBy}
use Rattle.column_ops.specs.Take.{take_fault}
use Rattle.column_ops.proofs.Arms.{if_ok, no_fault}
use Rattle.column_ops.proofs.Blanked.{items_or-valid, items_or-null}
use Rattle.column_ops.proofs.PositionRows.{faults-null, faults-valid, map-zeros}
use Rattle.column_ops.proofs.positions.position_items.Goals as goal

pub returns-in-NonNullable-clause-refused : goal.returns-in-NonNullable-clause-refused
returns-in-NonNullable-clause-refused g c =
    let numbers = map g.T.NativePType.number c.args.indices.now in
    let told = sym (ap (λ own. take_fault (optional_numbers (primitive_with g.T.NativePType.PTYPE numbers (form_of own))) c.args.count) c.in-NonNullable.is) in
    subst (λ why. IsRefusedBy why c.valid_positions.result) (sym (faults-valid c.args.count numbers) ∙ told) c.valid_positions.ensures.refused

pub returns-in-AllValid-clause-refused : goal.returns-in-AllValid-clause-refused
returns-in-AllValid-clause-refused g c =
    let numbers = map g.T.NativePType.number c.args.indices.now in
    let told = sym (ap (λ own. take_fault (optional_numbers (primitive_with g.T.NativePType.PTYPE numbers (form_of own))) c.args.count) c.in-AllValid.is) in
    subst (λ why. IsRefusedBy why c.valid_positions-in-AllValid.result) (sym (faults-valid c.args.count numbers) ∙ told) c.valid_positions-in-AllValid.ensures.refused

pub returns-in-NonNullable-clause-same : goal.returns-in-NonNullable-clause-same
returns-in-NonNullable-clause-same g c =
    let numbers = map g.T.NativePType.number c.args.indices.now in
    let told = sym (ap (λ own. map (λ row. unwrap_or row (pos 0)) (optional_numbers (primitive_with g.T.NativePType.PTYPE numbers (form_of own)))) c.in-NonNullable.is) in
    subst (λ wanted. IfOk c.valid_positions.result (λ positions. map pos positions.items ≡ wanted)) (sym (items_or-valid numbers (pos 0)) ∙ told) c.valid_positions.ensures.same

pub returns-in-AllValid-clause-same : goal.returns-in-AllValid-clause-same
returns-in-AllValid-clause-same g c =
    let numbers = map g.T.NativePType.number c.args.indices.now in
    let told = sym (ap (λ own. map (λ row. unwrap_or row (pos 0)) (optional_numbers (primitive_with g.T.NativePType.PTYPE numbers (form_of own)))) c.in-AllValid.is) in
    subst (λ wanted. IfOk c.valid_positions-in-AllValid.result (λ positions. map pos positions.items ≡ wanted)) (sym (items_or-valid numbers (pos 0)) ∙ told) c.valid_positions-in-AllValid.ensures.same

pub returns-in-AllInvalid-clause-refused : goal.returns-in-AllInvalid-clause-refused
returns-in-AllInvalid-clause-refused g c =
    let numbers = map g.T.NativePType.number c.args.indices.now in
    let told = sym (ap (λ own. take_fault (optional_numbers (primitive_with g.T.NativePType.PTYPE numbers (form_of own))) c.args.count) c.in-AllInvalid.is) in
    no_fault _ c.filled_vec.result (sym told ∙ faults-null c.args.count numbers) c.filled_vec.ensures.only

pub returns-in-AllInvalid-clause-same : goal.returns-in-AllInvalid-clause-same
returns-in-AllInvalid-clause-same g c =
    let numbers = map g.T.NativePType.number c.args.indices.now in
    let told = sym (ap (λ own. map (λ row. unwrap_or row (pos 0)) (optional_numbers (primitive_with g.T.NativePType.PTYPE numbers (form_of own)))) c.in-AllInvalid.is) in
    let wanted = map-zeros (length c.args.indices.now) ∙ ap (λ n. replicate n (pos 0)) (sym (length-map c.args.indices.now g.T.NativePType.number)) ∙ sym (items_or-null numbers (pos 0)) ∙ told in
    if_ok c.filled_vec.result _ _ (λ copies are. ap (map pos) are ∙ wanted) c.filled_vec.ensures.items

pub returns-in-Bits-clause-refused : goal.returns-in-Bits-clause-refused
returns-in-Bits-clause-refused g c =
    let numbers = map g.T.NativePType.number c.args.indices.now in
    let told = sym (ap (λ own. take_fault (optional_numbers (primitive_with g.T.NativePType.PTYPE numbers (form_of own))) c.args.count) c.in-Bits.is) in
    subst (λ why. IsRefusedBy why c.marked_positions.result) told c.marked_positions.ensures.refused

pub returns-in-Bits-clause-same : goal.returns-in-Bits-clause-same
returns-in-Bits-clause-same g c =
    let numbers = map g.T.NativePType.number c.args.indices.now in
    let told = sym (ap (λ own. map (λ row. unwrap_or row (pos 0)) (optional_numbers (primitive_with g.T.NativePType.PTYPE numbers (form_of own)))) c.in-Bits.is) in
    subst (λ wanted. IfOk c.marked_positions.result (λ positions. map pos positions.items ≡ wanted)) told c.marked_positions.ensures.same
