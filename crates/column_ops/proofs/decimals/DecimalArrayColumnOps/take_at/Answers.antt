use Rattle.std.proofs.Common.{ℤ, length, sym, ap, subst, ◌∙◌}
use Rattle.column_base.specs.ValidityForm.{nullability_in}
use Rattle.column_base.specs.Validity.{form_of, validity_flags}
use Rattle.column_core.specs.Value.{DecimalNumber}
use Rattle.column_core.specs.DecimalForm.{optional_decimals}
use Rattle.column_core.specs.Optionals.{optionals}
use Rattle.column_ops.specs.Nullable.{either_nullable}
use Rattle.column_ops.specs.Take.{ArePositions, position_numbers, take_rows}
use Rattle.column_ops.proofs.Made.{take_rows-map}
use Rattle.column_ops.proofs.Columns.{IsMade-decimals}
use Rattle.column_ops.proofs.Arms.{HasLength-arm, length-rows}
use Rattle.column_ops.proofs.decimals.DecimalArrayColumnOps.take_at.Goals as goal

pub returns-clause-made : goal.returns-clause-made
returns-clause-made g c =
    let own = c.args.self.now in
    let indices = position_numbers (optionals c.args.positions.now (validity_flags c.args.validity.now (length c.args.positions.now))) in
    let wanted = either_nullable (nullability_in own.validity) (nullability_in (form_of c.args.validity.now)) in
    let written = rw (c.values.ensures, c.validity-own.ensures.form) at c.in_ok-taken.ensures.taken in
    rw (c.new_unchecked.ensures, c.decimal_dtype.ensures, take_rows-map (λ (n : ℤ). DecimalNumber n) (optional_decimals own) indices)
    (IsMade-decimals own.decimal (take_rows (optional_decimals own) indices) wanted c.in_ok-taken.taken.items (form_of c.in_ok-taken.rows) written)

pub take_items-requires-clause-fits : goal.take_items-requires-clause-fits
take_items-requires-clause-fits g c = HasLength-arm _ _ _ _ c.validity-own.ensures.form (ap length c.values.ensures) c.validity-own.ensures.counted

pub take_items-requires-clause-counted : goal.take_items-requires-clause-counted
take_items-requires-clause-counted g c = c.requires.counted

pub take_items-requires-clause-within : goal.take_items-requires-clause-within
take_items-requires-clause-within g c =
    subst (ArePositions (optionals c.args.positions.now (validity_flags c.args.validity.now (length c.args.positions.now))))
    (length-rows (λ (n : ℤ). DecimalNumber n) c.args.self.now.numbers c.args.self.now.validity c.validity-own.ensures.counted ∙ sym (ap length c.values.ensures)) c.requires.within

pub new_unchecked-requires : goal.new_unchecked-requires
new_unchecked-requires g c = c.in_ok-taken.ensures.taken.fits
