use Rattle.std.proofs.Common.{map, ap, sym, ◌∙◌}
use Rattle.std.specs.Prelude.{unsigned_abs}
use Rattle.column_base.specs.Numbers.{numbers}
use Rattle.runend_windows.proofs.StoredNumbers.{naturals-of_pos}
use Rattle.runend_array.specs.Lists.{PlainIndex}
use Rattle.runend_array.proofs.lists.index.plain_numbers.Goals as goal

pub returns-in-U64 : goal.returns-in-U64
returns-in-U64 g c =
    let items = c.in-U64.items.items in
    let stored = ap (map unsigned_abs) (sym c.values.ensures.shows ∙ ap numbers c.in-U64.is) ∙ naturals-of_pos items in
    rw c.in-Primitive.is (ap PlainIndex (stored ∙ sym c.as_slice.ensures.value))
