use Rattle.std.proofs.Common.{◌≡◌, ℕ, pos, map, ap, sym, ◌∙◌}
use Rattle.column_base.specs.Numbers.{numbers}
use Rattle.runend_array.proofs.ListItems.{number-read}
use Rattle.runend_array.proofs.lists.index.plain_number_at.Goals as goal

pub returns : goal.returns
returns g c =
    let stored : map (λ (n : ℕ). pos n) c.in-U64.items.items ≡ c.in-Primitive.numbers.numbers = ap numbers (sym c.in-U64.is) ∙ c.values.ensures.shows in
    rw c.in-Primitive.is (number-read c.in-Primitive.numbers.numbers c.in-U64.items.items c.args.index c.index.result.now stored (rw c.in-Primitive.is at c.requires.within) c.index.ensures)
