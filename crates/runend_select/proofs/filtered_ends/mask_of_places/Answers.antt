use Rattle.std.proofs.Common.{◌≡◌, ◌↔◌, ◌∙◌, ◌<◌, ℕ, List, true, Some, arith, subst}
use Rattle.std.specs.Prelude.{Contains, IfOk, slice_get}
use Rattle.std.proofs.lemmas.List.{take_all}
use Rattle.column_base.specs.Mask.{mask_bits}
use Rattle.runend_select.proofs.filtered_ends.mask_of_places.Goals as goal

pub returns-clause-selected : goal.returns-clause-selected
returns-clause-selected g c =
    let same = c.as_slice.ensures.value ∙ c.loop-place.invariant.items ∙ take_all c.loop-place.place-index c.args.places.now (omega arith) in
    subst (λ (places : List ℕ). IfOk c.from_indices-mask.result (λ mask. (run : ℕ) → run < c.args.runs → ((slice_get (mask_bits mask) run ≡ Some true) ↔ Contains places run))) same
    c.from_indices-mask.ensures.selected
