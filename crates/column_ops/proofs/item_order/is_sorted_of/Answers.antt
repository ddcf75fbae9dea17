use Rattle.std.proofs.Common.{◌≡◌, ◌∙◌, ◌+◌, ◌-◌, ◌<◌, ◌≤◌, ℕ, List, Option, Some, None, length, sym, ap, subst, not, arith, inl, inr}
use Rattle.std.specs.Prelude.{◌↔◌, slice_get, IsTrue}
use Rattle.column_base.specs.ValidityForm.{flag_at, flags}
use Rattle.column_base.specs.Validity.{form_of, validity_flags}
use Rattle.column_base.proofs.ValidityRows.{flags-at, length-flags}
use Rattle.column_core.specs.Value.{Value}
use Rattle.column_ops.specs.Items.{flagged_rows}
use Rattle.column_ops.specs.OrderFacts.{IsSorted}
use Rattle.std.proofs.lemmas.Bool.{cases_lt, false≢true, le-leb, leb-true}
use Rattle.column_ops.proofs.ItemOrder.{sorted-behind, two-nulls, AreSteps-sorted}
use Rattle.column_ops.proofs.RowRanges.{IsSorted-steps}
use Rattle.column_ops.proofs.ItemRows.{length-flagged_rows, no-nulls, null-here}
use Rattle.column_ops.proofs.item_order.is_sorted_of.Goals as goal

pub returns-in-NonNullable : goal.returns-in-NonNullable
returns-in-NonNullable g c =
    let items = c.args.items.now in
    let same = no-nulls g.T.FlatItem.value items (validity_flags c.args.validity.now (length items)) c.args.range.start c.args.range.end (ap (λ v. validity_flags v (length items)) c.in-NonNullable.is) in
    subst (λ (rows : List (Option Value)). IsTrue c.is_sorted_valid.result ↔ IsSorted c.args.strict rows) (sym same) c.is_sorted_valid.ensures

pub returns-in-AllValid : goal.returns-in-AllValid
returns-in-AllValid g c =
    let items = c.args.items.now in
    let same = no-nulls g.T.FlatItem.value items (validity_flags c.args.validity.now (length items)) c.args.range.start c.args.range.end (ap (λ v. validity_flags v (length items)) c.in-AllValid.is) in
    subst (λ (rows : List (Option Value)). IsTrue c.is_sorted_valid-in-AllValid.result ↔ IsSorted c.args.strict rows) (sym same) c.is_sorted_valid-in-AllValid.ensures

pub returns-then-not-strict : goal.returns-then-not-strict
returns-then-not-strict g c =
    let value = g.T.FlatItem.value in
    let items = c.args.items.now in
    let form = form_of c.args.validity.now in
    let marks = flags form (length items) in
    let rows = flagged_rows value items marks in
    let start = c.args.range.start in
    let stop = c.args.range.end in
    let long = length-flagged_rows value items marks (length-flags form (length items) c.requires.fits) in
    let nulls : (k : ℕ) → start ≤ k → k < stop → slice_get rows k ≡ Some None =
    λ k low high. null-here value items marks k (omega arith) (flags-at form (length items) k c.requires.fits (omega arith) ∙ ap (λ v. Some (flag_at (form_of v) k)) c.in-AllInvalid.is) in
    let none = IsSorted-steps c.args.strict rows stop stop stop (omega arith) (omega arith) (omega arith) (λ k above below. absurd (omega arith)) in
    let behind = sorted-behind c.args.strict rows start stop stop c.requires.ordered (omega arith) (omega arith) nulls
    (λ asked. absurd (false≢true (sym c.if-not-strict.true ∙ asked))) (λ before. absurd (omega arith)) in
    (λ _. behind.0 none, λ _. ap not c.if-not-strict.true)

pub returns-else-not-strict : goal.returns-else-not-strict
returns-else-not-strict g c =
    let value = g.T.FlatItem.value in
    let items = c.args.items.now in
    let form = form_of c.args.validity.now in
    let marks = flags form (length items) in
    let rows = flagged_rows value items marks in
    let start = c.args.range.start in
    let stop = c.args.range.end in
    let long = length-flagged_rows value items marks (length-flags form (length items) c.requires.fits) in
    let nulls : (k : ℕ) → start ≤ k → k < stop → slice_get rows k ≡ Some None =
    λ k low high. null-here value items marks k (omega arith) (flags-at form (length items) k c.requires.fits (omega arith) ∙ ap (λ v. Some (flag_at (form_of v) k)) c.in-AllInvalid.is) in
    let none = IsSorted-steps c.args.strict rows stop stop stop (omega arith) (omega arith) (omega arith) (λ k above below. absurd (omega arith)) in (
      λ few.
          let fewer = leb-true (stop - start) 1 few in
          (sorted-behind c.args.strict rows start stop stop c.requires.ordered (omega arith) (omega arith) nulls (λ asked. omega arith) (λ before. absurd (omega arith))).0 none,
      λ sorted. elim (cases_lt 1 (stop - start)) [
        | inl many ↦ absurd (two-nulls c.args.strict rows start (stop - 1) c.if-not-strict.false (omega arith) (nulls start (omega arith) (omega arith)) (nulls (start + 1) (omega arith) (omega arith))
            (AreSteps-sorted c.args.strict rows start stop c.requires.ordered (omega arith) sorted))
        | inr few ↦ le-leb (stop - start) 1 few
      ],
    )
