use Rattle.std.proofs.Common.{◌≡◌, ◌∙◌, ◌<◌, ◌≤◌, ℕ, List, Option, Some, None, length, refl, sym, ap, subst, arith}
use Rattle.std.specs.Prelude.{◌↔◌, slice_get, slice_range, IsTrue}
use Rattle.column_base.specs.ValidityForm.{flag_at, flags}
use Rattle.column_base.specs.Validity.{form_of, validity_flags}
use Rattle.column_base.proofs.ValidityRows.{flags-at, length-flags}
use Rattle.column_core.specs.Value.{Value}
use Rattle.column_ops.specs.Items.{flagged_rows}
use Rattle.column_ops.specs.OrderFacts.{IsConstant}
use Rattle.column_ops.proofs.ItemOrder.{IsConstant-nulls}
use Rattle.column_ops.proofs.ItemRows.{length-flagged_rows, no-nulls, null-here, All-null}
use Rattle.column_ops.proofs.item_order.is_constant_of.Goals as goal

pub returns-in-NonNullable : goal.returns-in-NonNullable
returns-in-NonNullable g c =
    let items = c.args.items.now in
    let same = no-nulls g.T.FlatItem.value items (validity_flags c.args.validity.now (length items)) c.args.range.start c.args.range.end (ap (λ v. validity_flags v (length items)) c.in-NonNullable.is) in
    subst (λ (rows : List (Option Value)). IsTrue c.is_constant_valid.result ↔ IsConstant rows) (sym same) c.is_constant_valid.ensures

pub returns-in-AllValid : goal.returns-in-AllValid
returns-in-AllValid g c =
    let items = c.args.items.now in
    let same = no-nulls g.T.FlatItem.value items (validity_flags c.args.validity.now (length items)) c.args.range.start c.args.range.end (ap (λ v. validity_flags v (length items)) c.in-AllValid.is) in
    subst (λ (rows : List (Option Value)). IsTrue c.is_constant_valid-in-AllValid.result ↔ IsConstant rows) (sym same) c.is_constant_valid-in-AllValid.ensures

pub returns-in-AllInvalid : goal.returns-in-AllInvalid
returns-in-AllInvalid g c =
    let value = g.T.FlatItem.value in
    let items = c.args.items.now in
    let form = form_of c.args.validity.now in
    let marks = flags form (length items) in
    let rows = flagged_rows value items marks in
    let start = c.args.range.start in
    let stop = c.args.range.end in
    let long = length-flagged_rows value items marks (length-flags form (length items) c.requires.fits) in
    let nulls : (k : ℕ) → start ≤ k → k < stop → slice_get rows k ≡ Some None =
    λ k low high. null-here value items marks k (omega arith) (flags-at form (length items) k c.requires.fits (omega arith) ∙ ap (λ v. Some (flag_at (form_of v) k)) c.in-AllInvalid.is) in
    (λ _. IsConstant-nulls (slice_range rows start stop) (All-null rows start stop c.requires.ordered (omega arith) nulls), λ _. refl)

pub returns-in-Bits : goal.returns-in-Bits
returns-in-Bits g c = rw c.in-Bits.is c.is_constant_flagged.ensures
