use Rattle.std.proofs.Common.{◌≡◌, ◌∙◌, ◌<◌, ◌^◌, ◌++◌, ◌∷◌, [], pos, length, map, sym, ap, subst, arith}
use Rattle.std.proofs.lemmas.List.{length-map}
use Rattle.column_base.specs.Bits.{set_indices_of}
use Rattle.runend_windows.specs.Cover.{IsTightCover}
use Rattle.runend_windows.specs.Starts.{items_at, starts_from}
use Rattle.runend_windows.proofs.ChangedNumbers.{AreChanges-of_valid, numbers-taken}
use Rattle.runend_windows.proofs.ChangedRows.{IsTightCover-of_changes}
use Rattle.runend_windows.proofs.encode.valid_runs.Goals as goal

pub returns-clause-cover : goal.returns-clause-cover
returns-clause-cover g c =
    let number = g.T.NativePType.number in
    let items = c.args.items.now in
    let rows = map number items in
    let bits = c.in_ok-changes.changes in
    let counted : length rows ≡ length items = length-map items number in
    let changes = AreChanges-of_valid rows (length items) bits (sym counted) c.in_ok-changes.ensures.changes in
    let some : 0 < length rows = omega arith in
    let small : length rows < 2 ^ 64 = omega arith in
    let ends = c.in_ok-ends.ends.items in
    let last : length bits ≡ length items = changes.counted ∙ counted in
    let are : set_indices_of bits ++ length bits ∷ [] ≡ ends = ap (λ n. set_indices_of bits ++ n ∷ []) last ∙ sym c.in_ok-ends.ensures.ends in
    let cover = subst (λ es. IsTightCover rows es (items_at (pos 0) rows (starts_from 0 es))) are (IsTightCover-of_changes (pos 0) rows bits changes some small) in
    subst (IsTightCover rows ends) (sym (numbers-taken number items (starts_from 0 ends) c.in_ok-ends.values.items c.in_ok-ends.ensures.values)) cover

pub first_items-requires-clause-long : goal.first_items-requires-clause-long
first_items-requires-clause-long g c =
    let items = c.args.items.now in
    let rows = map g.T.NativePType.number items in
    let long = length-map items g.T.NativePType.number in
    let changes = AreChanges-of_valid rows (length items) c.in_ok-changes.changes (sym long) c.in_ok-changes.ensures.changes in
    changes.counted ∙ long
