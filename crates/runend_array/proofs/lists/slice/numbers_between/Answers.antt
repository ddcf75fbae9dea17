use Rattle.std.proofs.Common.{◌≡◌, subst}
use Rattle.std.specs.Prelude.{IfOk}
use Rattle.runend_array.specs.Array.{column_of}
use Rattle.runend_array.specs.Column.{IsPlainIndex}
use Rattle.runend_array.proofs.ListWalks.{plain_numbers}
use Rattle.runend_array.proofs.lists.slice.numbers_between.Goals as goal

pub returns-in-Primitive-clause-numbers : goal.returns-in-Primitive-clause-numbers
returns-in-Primitive-clause-numbers g c =
    let index = column_of c.args.index.now in
    let plain : IsPlainIndex index = rw c.in-Primitive.is (rw c.in-Primitive.is at c.requires.index) in
    subst (λ xs. IfOk c.plain_numbers_between.result (λ numbers. numbers.items ≡ xs)) (plain_numbers index c.args.start c.args.stop plain c.requires.ordered c.requires.in_bounds)
    c.plain_numbers_between.ensures.numbers
