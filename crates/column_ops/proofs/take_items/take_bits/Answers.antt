use Rattle.std.proofs.Common.{◌≡◌, ◌∙◌, ℕ, Bool, false, List, length, map, sym, ap, subst}
use Rattle.column_base.specs.declared.dtype.Nullability.{Nullability}
use Rattle.column_base.specs.ValidityForm.{nullability_in}
use Rattle.column_base.specs.Validity.{form_of, validity_flags}
use Rattle.column_base.proofs.ValidityRows.{length-flags}
use Rattle.column_core.specs.Optionals.{optionals}
use Rattle.column_ops.specs.Nullable.{either_nullable}
use Rattle.column_ops.specs.Take.{position_numbers, take_rows, taken_bit}
use Rattle.column_ops.specs.Written.{IsValidityOf}
use Rattle.column_ops.proofs.TakenRows.{AreStoredAs-rows, bits-taken, flags-taken, length-taken}
use Rattle.column_ops.proofs.take_items.take_bits.Goals as goal

pub returns-in-Ok-clause-taken : goal.returns-in-Ok-clause-taken
returns-in-Ok-clause-taken g c =
    let items = c.args.bits.now in
    let positions = c.args.positions.now in
    let bits = validity_flags c.args.validity.now (length items) in
    let rows = optionals items bits in
    let marks = validity_flags c.args.places.now (length positions) in
    let wanted : c.either-nullability.result ≡ either_nullable (nullability_in (form_of c.args.validity.now)) (nullability_in (form_of c.args.places.now)) =
    c.either-nullability.ensures ∙ ap (λ (n : Nullability). either_nullable n c.nullability-2.result) c.nullability.ensures
    ∙ ap (either_nullable (nullability_in (form_of c.args.validity.now))) c.nullability-2.ensures in
    let told = flags-taken items bits (optionals positions marks) (length-flags (form_of c.args.validity.now) (length items) c.requires.fits) in
    let sized = subst (λ (n : ℕ). IsValidityOf (map (taken_bit (validity_flags c.args.validity.now n)) (optionals positions marks)) c.either-nullability.result (length positions) (form_of c.in_ok-rows.rows)) c.len.ensures c.in_ok-rows.ensures.flags in
    let made = subst (λ (shown : List Bool). IsValidityOf shown c.either-nullability.result (length positions) (form_of c.in_ok-rows.rows)) (sym told) sized in
    rw (← wanted)
    (AreStoredAs-rows false (take_rows rows (position_numbers (optionals positions marks))) c.either-nullability.result c.in-Ok.taken (length positions) (form_of c.in_ok-rows.rows)
    (sym (length-taken rows positions marks (length-flags (form_of c.args.places.now) (length positions) c.requires.counted)))
    (c.in-Ok.ensures.bits ∙ bits-taken items bits positions marks (validity_flags c.in_ok-rows.rows (length positions)) (length-flags (form_of c.args.validity.now) (length items) c.requires.fits) sized.shown) made)
