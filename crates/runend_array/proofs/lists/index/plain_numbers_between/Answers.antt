use Rattle.std.proofs.Common.{map, ap, sym, ◌∙◌}
use Rattle.std.specs.Prelude.{slice_range, unsigned_abs}
use Rattle.column_base.specs.Numbers.{numbers}
use Rattle.runend_windows.proofs.StoredNumbers.{naturals-of_pos}
use Rattle.runend_array.proofs.lists.index.plain_numbers_between.Goals as goal

pub returns-clause-numbers : goal.returns-clause-numbers
returns-clause-numbers g c =
    let items = c.in-U64.items.items in
    let stored = sym (naturals-of_pos items) ∙ ap (map unsigned_abs) (ap numbers (sym c.in-U64.is) ∙ c.values.ensures.shows) in
    rw c.in-Primitive.is (c.in_ok-slice-in-U64.ensures ∙ ap (λ xs. slice_range xs c.args.start c.args.stop) stored)
