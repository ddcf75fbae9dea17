-- The column of these numbers.
use Rattle.std.proofs.Common.{◌∙◌, ℕ, List, map, pos, ap}
use Rattle.column_core.specs.PrimitiveForm.{PrimitiveForm}
use Rattle.runend_column.proofs.ListParts.{index_of_numbers}
use Rattle.runend_column.proofs.lists.index_column.Goals as goal

pub returns-clause-index : goal.returns-clause-index
returns-clause-index g c =
    let is = c.new_unchecked-array.ensures in
    index_of_numbers c.args.numbers.now c.new_unchecked-array.result
    (ap (λ (f : PrimitiveForm). f.ptype) is ∙ c.wrap-values.ensures.typed)
    (ap (λ (f : PrimitiveForm). f.numbers) is ∙ (c.wrap-values.ensures.shows ∙ ap (λ (ns : List ℕ). map (λ (n : ℕ). pos n) ns) c.in_ok-from_slice.ensures.items))
    (ap (λ (f : PrimitiveForm). f.validity) is)
