use Rattle.std.proofs.Common.{◌≡◌, ◌∙◌, ℕ, ℤ, Option, None, ap, false, length, map, replicate, subst, sym}
use Rattle.std.proofs.lemmas.List.{length-map}
use Rattle.column_base.specs.Validity.{validity_flags}
use Rattle.column_core.specs.Optionals.{optionals}
use Rattle.column_sums.proofs.StoredItems.{optionals-none}
use Rattle.runend_aggregate.proofs.visible_sums.sum_items.Goals as goal

pub sum_numbers-requires-clause-numbers : goal.sum_numbers-requires-clause-numbers
sum_numbers-requires-clause-numbers g c =
    let items = c.args.items.now in
    let numbers = map g.T.NativePType.number items in
    let count = length items in
    let null : Option ℤ = None in
    let none : replicate count null ≡ optionals numbers (replicate count false) =
    subst (λ (n : ℕ). replicate n null ≡ optionals numbers (replicate n false)) (length-map items g.T.NativePType.number) (sym (optionals-none numbers)) in
    none ∙ ap (λ v. optionals numbers (validity_flags v count)) (sym c.in-AllInvalid.is) ∙ c.requires.items
