use Rattle.std.proofs.Common.{◌≡◌, ◌∙◌, ◌<◌, ◌^◌, ◌++◌, ◌∷◌, [], None, length, map, refl, sym, ap, subst, arith}
use Rattle.std.proofs.lemmas.List.{length-map}
use Rattle.column_base.specs.Bits.{set_indices_of}
use Rattle.column_base.specs.ValidityForm.{flags}
use Rattle.column_base.specs.Validity.{form_of, validity_flags}
use Rattle.column_base.proofs.ValidityRows.{length-flags}
use Rattle.column_core.specs.PrimitiveForm.{optionals}
use Rattle.column_core.proofs.OptionalRows.{length-optionals}
use Rattle.runend_windows.specs.Cover.{IsTightCover}
use Rattle.runend_windows.specs.Starts.{items_at, starts_from}
use Rattle.runend_windows.proofs.ChangedRows.{IsTightCover-of_changes}
use Rattle.runend_windows.proofs.Grow.{IsTightCover-of_none}
use Rattle.runend_windows.proofs.encode.encode_nullable.Goals as goal

pub returns-clause-cover : goal.returns-clause-cover
returns-clause-cover g c =
    let number = g.T.NativePType.number in
    let items = c.args.items.now in
    let form = form_of c.args.validity.now in
    let marks = flags form (length items) in
    let rows = optionals (map number items) marks in
    let bits = c.in_ok-changes.changes in
    let changes = c.in_ok-changes.ensures.changes in
    let long = length-map items number in
    let marked = length-flags form (length items) c.requires in
    let counted : length rows ≡ length items = length-optionals (map number items) marks (omega arith) ∙ long in
    let some : 0 < length rows = omega arith in
    let small : length rows < 2 ^ 64 = omega arith in
    let ends = c.in_ok-runs.runs.ends.items in
    let last : length bits ≡ length items = changes.counted ∙ counted in
    let are : set_indices_of bits ++ length bits ∷ [] ≡ ends = ap (λ n. set_indices_of bits ++ n ∷ []) last ∙ sym c.in_ok-runs.ensures.ends in
    let cover = subst (λ es. IsTightCover rows es (items_at None rows (starts_from 0 es))) are (IsTightCover-of_changes None rows bits changes some small) in
    subst (IsTightCover rows ends) (sym c.in_ok-runs.ensures.values) cover

pub first_rows-requires-clause-long : goal.first_rows-requires-clause-long
first_rows-requires-clause-long g c =
    let number = g.T.NativePType.number in
    let items = c.args.items.now in
    let marks = validity_flags c.args.validity.now (length items) in
    let long = length-map items number in
    let marked = length-flags (form_of c.args.validity.now) (length items) c.requires in
    c.in_ok-changes.ensures.changes.counted ∙ length-optionals (map number items) marks (omega arith) ∙ long

pub returns-then-total-eq0-clause-cover : goal.returns-then-total-eq0-clause-cover
returns-then-total-eq0-clause-cover g c =
    let items = c.args.items.now in
    let marks = validity_flags c.args.validity.now (length items) in
    let long = length-map items g.T.NativePType.number in
    let marked = length-flags (form_of c.args.validity.now) (length items) c.requires in
    let none : length (optionals (map g.T.NativePType.number items) marks) ≡ 0 = length-optionals (map g.T.NativePType.number items) marks (omega arith) ∙ long ∙ c.if-total-eq0.true in
    rw (c.in_ok-none.ensures.ends, c.in_ok-none.ensures.values) (IsTightCover-of_none _ none)

pub returns-then-total-eq0-clause-paired : goal.returns-then-total-eq0-clause-paired
returns-then-total-eq0-clause-paired g c = rw (c.in_ok-none.ensures.flags, c.in_ok-none.ensures.values) refl

pub returns-then-total-eq0-clause-zeroed : goal.returns-then-total-eq0-clause-zeroed
returns-then-total-eq0-clause-zeroed g c = rw c.in_ok-none.ensures.values tt
