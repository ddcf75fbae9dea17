use Rattle.std.proofs.Common.{◌≡◌, ◌⊎◌, length, map, [], inl, inr, refl}
use Rattle.column_base.specs.Numbers.{numbers}
use Rattle.column_base.specs.Validity.{form_of, validity_flags}
use Rattle.column_base.specs.ValidityForm.{NeverNull}
use Rattle.column_base.specs.declared.dtype.Nullability.TheVariants.{NonNullable}
use Rattle.column_base.proofs.ValidityRows.{nullable-of_bits}
use Rattle.column_core.specs.Optionals.{optionals}
use Rattle.runend_script.proofs.ListedRows.{behind_none, flagged}
use Rattle.runend_script.proofs.values.read_natives.Goals.{in-NonNullable, in-Nullable}
use Rattle.runend_script.proofs.values.read_natives.Goals as goal

pub returns-in-Ok-true-clause-nullable : goal.returns-in-Ok-true-clause-nullable
returns-in-Ok-true-clause-nullable g c =
    elim c.match-nullability.branch [
      | in-NonNullable w ↦ rw (w.validity-is, w.in-NonNullable.is) refl
      | in-Nullable w ↦ rw (w.validity-is, w.in-Nullable.is) (nullable-of_bits (form_of w.from_bits-validity.result) w.freeze.result w.from_bits-validity.ensures.flags w.from_bits-validity.ensures.all_valid)
    ]

pub returns-in-Ok-true-clause-rows : goal.returns-in-Ok-true-clause-rows
returns-in-Ok-true-clause-rows g c taken given =
    let items = c.push_rows-read.new.items.items in
    let valid = c.push_rows-read.new.valid in
    let before = optionals (map g.T.NativePType.number c.new-items.result.items) c.in_ok-valid.valid in
    let none : before ≡ [] = rw c.new-items.ensures.items refl in
    let read = behind_none c.args.reading c.args.nullability taken before (optionals (map g.T.NativePType.number items) valid) (rw c.in-Ok-true.field-0-test at (c.in-Ok-true.ensures.rows taken given)) none in
    let told : ((c.args.nullability ≡ NonNullable) × (form_of c.match-nullability.validity ≡ NeverNull)) ⊎ (validity_flags c.match-nullability.validity (length valid) ≡ valid) =
    elim c.match-nullability.branch [
      | in-NonNullable w ↦ inl (w.in-NonNullable.is, rw w.validity-is refl)
      | in-Nullable w ↦ inr (rw w.validity-is (rw w.freeze.ensures at w.from_bits-validity.ensures.flags))
    ] in
    flagged g.T.NativePType.number c.args.reading c.args.nullability taken items valid (form_of c.match-nullability.validity) (numbers c.wrap-numbers.result) c.in-Ok-true.ensures.counted told
    c.wrap-numbers.ensures.shows read
