use Rattle.std.proofs.Common.{◌∙◌, List, Option, Some, length, sym, ap, subst, arith}
use Rattle.std.specs.Prelude.{IfSome}
use Rattle.column_base.specs.ValidityForm.{flag_at, flags}
use Rattle.column_base.specs.Validity.{form_of, validity_flags}
use Rattle.column_base.proofs.ValidityRows.{flags-at, length-flags}
use Rattle.column_core.specs.Value.{Value}
use Rattle.column_ops.specs.Items.{flagged_rows, item_row}
use Rattle.column_ops.specs.OrderFacts.{IsGreatest, IsLeast}
use Rattle.column_ops.proofs.ItemRows.{length-flagged_rows, no-nulls, null-here, All-null}
use Rattle.column_ops.proofs.item_ends.item_ends.Goals as goal

pub returns-in-NonNullable-clause-least : goal.returns-in-NonNullable-clause-least
returns-in-NonNullable-clause-least g c =
    let value = g.T.FlatItem.value in
    let items = c.args.items.now in
    let same = no-nulls value items (validity_flags c.args.validity.now (length items)) c.args.start c.args.stop (ap (λ v. validity_flags v (length items)) c.in-NonNullable.is) in
    subst (λ (rows : List (Option Value)). IfSome c.ends_of_valid.result (λ ends. IsLeast rows (item_row value ends.0))) (sym same) c.ends_of_valid.ensures.least

pub returns-in-NonNullable-clause-greatest : goal.returns-in-NonNullable-clause-greatest
returns-in-NonNullable-clause-greatest g c =
    let value = g.T.FlatItem.value in
    let items = c.args.items.now in
    let same = no-nulls value items (validity_flags c.args.validity.now (length items)) c.args.start c.args.stop (ap (λ v. validity_flags v (length items)) c.in-NonNullable.is) in
    subst (λ (rows : List (Option Value)). IfSome c.ends_of_valid.result (λ ends. IsGreatest rows (item_row value ends.1))) (sym same) c.ends_of_valid.ensures.greatest

pub returns-in-AllValid-clause-least : goal.returns-in-AllValid-clause-least
returns-in-AllValid-clause-least g c =
    let value = g.T.FlatItem.value in
    let items = c.args.items.now in
    let same = no-nulls value items (validity_flags c.args.validity.now (length items)) c.args.start c.args.stop (ap (λ v. validity_flags v (length items)) c.in-AllValid.is) in
    subst (λ (rows : List (Option Value)). IfSome c.ends_of_valid-in-AllValid.result (λ ends. IsLeast rows (item_row value ends.0))) (sym same) c.ends_of_valid-in-AllValid.ensures.least

pub returns-in-AllValid-clause-greatest : goal.returns-in-AllValid-clause-greatest
returns-in-AllValid-clause-greatest g c =
    let value = g.T.FlatItem.value in
    let items = c.args.items.now in
    let same = no-nulls value items (validity_flags c.args.validity.now (length items)) c.args.start c.args.stop (ap (λ v. validity_flags v (length items)) c.in-AllValid.is) in
    subst (λ (rows : List (Option Value)). IfSome c.ends_of_valid-in-AllValid.result (λ ends. IsGreatest rows (item_row value ends.1))) (sym same) c.ends_of_valid-in-AllValid.ensures.greatest

pub returns-in-AllInvalid-clause-none : goal.returns-in-AllInvalid-clause-none
returns-in-AllInvalid-clause-none g c =
    let value = g.T.FlatItem.value in
    let items = c.args.items.now in
    let form = form_of c.args.validity.now in
    let marks = flags form (length items) in
    let long = length-flagged_rows value items marks (length-flags form (length items) c.requires.fits) in
    All-null (flagged_rows value items marks) c.args.start c.args.stop c.requires.ordered (omega arith)
    (λ k low high. null-here value items marks k (omega arith)
    (flags-at form (length items) k c.requires.fits (omega arith) ∙ ap (λ v. Some (flag_at (form_of v) k)) c.in-AllInvalid.is))

pub returns-in-Bits-clause-none : goal.returns-in-Bits-clause-none
returns-in-Bits-clause-none g c = rw c.in-Bits.is c.ends_of_flagged.ensures.none
