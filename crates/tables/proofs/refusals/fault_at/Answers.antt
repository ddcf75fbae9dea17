use Rattle.std.proofs.Common.{◌∙◌, ℤ, List, Bool, Err, FitsSigned, None, Some, ap, refl, rules, sym, ⊎_elim}
use Rattle.std.specs.Int.{w128}
use Rattle.std.proofs.lemmas.Int.{to_z-of_z}
use Rattle.std.specs.Prelude.{if◌then◌else◌, slice_get}
use Rattle.column_base.specs.ValidityForm.{ValidityForm, flag_at}
use Rattle.tables.proofs.IndexFaults.{shown_at}
use Rattle.tables.proofs.refusals.fault_at.Goals as goal

pub returns-then-not-is_valid : goal.returns-then-not-is_valid
returns-then-not-is_valid g c =
    let place = c.args.place in
    let index = c.get-index.result in
    let item = ap (λ (xs : List ℤ). slice_get xs place) (sym c.values.ensures.shows) ∙ c.get-index.ensures in
    let valid = c.is_valid.ensures ∙ ap (λ (form : ValidityForm). flag_at form place) c.validity.ensures.form in
    let here = shown_at c.args.indices.now place index c.is_valid.result c.validity.ensures.counted c.requires item valid in
    (None, here ∙ ap (λ (b : Bool). Some (if b then Some index else None)) c.if-not-is_valid.true, refl)

pub returns-in-Ok : goal.returns-in-Ok
returns-in-Ok g c =
    let place = c.args.place in
    let index = c.get-index.result in
    let item = ap (λ (xs : List ℤ). slice_get xs place) (sym c.values.ensures.shows) ∙ c.get-index.ensures in
    let valid = c.is_valid.ensures ∙ ap (λ (form : ValidityForm). flag_at form place) c.validity.ensures.form in
    let here = shown_at c.args.indices.now place index c.is_valid.result c.validity.ensures.counted c.requires item valid in
    let fits : FitsSigned w128 index = search rules in
    (Some index, here ∙ ap (λ (b : Bool). Some (if b then Some index else None)) c.if-not-is_valid.false, sym (rw (to_z-of_z w128 index fits) at c.in-Ok.ensures.refused))

pub returns-in-Err : goal.returns-in-Err
returns-in-Err g c =
    let place = c.args.place in
    let index = c.get-index.result in
    let item = ap (λ (xs : List ℤ). slice_get xs place) (sym c.values.ensures.shows) ∙ c.get-index.ensures in
    let valid = c.is_valid.ensures ∙ ap (λ (form : ValidityForm). flag_at form place) c.validity.ensures.form in
    let here = shown_at c.args.indices.now place index c.is_valid.result c.validity.ensures.counted c.requires item valid in
    let fits : FitsSigned w128 index = search rules in
    let told = ⊎_elim (λ memory. absurd (c.in-Err.ensures.no_memory (ap Err memory))) (λ found. found) c.in-Err.ensures.refused in
    (Some index, here ∙ ap (λ (b : Bool). Some (if b then Some index else None)) c.if-not-is_valid.false, sym (rw (to_z-of_z w128 index fits) at told))
