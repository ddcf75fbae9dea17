use Rattle.std.proofs.Common.{Bool, length, sym, ap, subst, ◌∙◌}
use Rattle.column_base.specs.ValidityForm.{nullability_in}
use Rattle.column_base.specs.Validity.{form_of, validity_flags}
use Rattle.column_core.specs.Value.{Truth}
use Rattle.column_base.specs.declared.dtype.DType.TheVariants as column
use Rattle.column_core.specs.BoolForm.{BoolForm, bool_rows, optional_truths}
use Rattle.column_core.specs.Leaf.{OfTruths}
use Rattle.column_ops.specs.Computed.{IsMade}
use Rattle.column_core.specs.Optionals.{optionals}
use Rattle.column_ops.specs.Nullable.{either_nullable}
use Rattle.column_ops.specs.Take.{ArePositions, position_numbers, take_rows}
use Rattle.column_ops.proofs.Arms.{length-rows}
use Rattle.column_ops.proofs.Made.{take_rows-map}
use Rattle.column_ops.proofs.Columns.{IsMade-truths}
use Rattle.column_ops.proofs.truths.BoolArrayColumnOps.take_at.Goals as goal

pub take_bits-requires-clause-within : goal.take_bits-requires-clause-within
take_bits-requires-clause-within g c =
    subst (ArePositions (optionals c.args.positions.now (validity_flags c.args.validity.now (length c.args.positions.now))))
    (length-rows (λ (b : Bool). Truth b) c.args.self.now.bits c.args.self.now.validity c.validity-own.ensures.counted ∙ sym (ap length c.values.ensures)) c.requires.within

pub returns-clause-made : goal.returns-clause-made
returns-clause-made g c =
    let own = c.args.self.now in
    let indices = position_numbers (optionals c.args.positions.now (validity_flags c.args.validity.now (length c.args.positions.now))) in
    let wanted = either_nullable (nullability_in own.validity) (nullability_in (form_of c.args.validity.now)) in
    let written = rw (c.values.ensures, c.validity-own.ensures.form) at c.in_ok-bits.ensures.taken in
    subst (λ (made : BoolForm). IsMade (take_rows (bool_rows own) indices) (column.Bool wanted) (OfTruths made)) (sym c.new_unchecked.ensures)
    (rw (take_rows-map (λ (b : Bool). Truth b) (optional_truths own) indices)
    (IsMade-truths (take_rows (optional_truths own) indices) wanted c.in_ok-bits.bits (form_of c.in_ok-bits.rows) written))
