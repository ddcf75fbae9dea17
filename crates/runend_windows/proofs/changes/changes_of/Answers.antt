use Rattle.std.proofs.Common.{◌≡◌, ◌∙◌, length, map, sym, subst, arith}
use Rattle.std.proofs.lemmas.List.{length-map}
use Rattle.column_base.specs.ValidityForm.{flags}
use Rattle.column_base.specs.Validity.{form_of}
use Rattle.column_base.proofs.ValidityRows.{length-flags}
use Rattle.column_core.specs.PrimitiveForm.{optionals}
use Rattle.column_core.proofs.OptionalRows.{length-optionals}
use Rattle.runend_windows.specs.Starts.{AreChanges}
use Rattle.runend_windows.proofs.ChangedRows.{AreChanges-of_words}
use Rattle.runend_windows.proofs.changes.changes_of.Goals as goal

pub returns-clause-changes : goal.returns-clause-changes
returns-clause-changes g c =
    let number = g.T.NativePType.number in
    let items = c.args.items.now in
    let form = form_of c.args.validity.now in
    let rows = optionals (map number items) (flags form (length items)) in
    let long = length-map items number in
    let marked = length-flags form (length items) c.requires in
    let counted : length rows ≡ length items = length-optionals (map number items) (flags form (length items)) (omega arith) ∙ long in
    subst (AreChanges rows) (sym (c.freeze.ensures ∙ c.from_words.ensures))
    (AreChanges-of_words rows c.in_ok-words.words.items (length items) (sym counted)
    (λ row within. c.in_ok-words.ensures.digits row (omega arith)))
