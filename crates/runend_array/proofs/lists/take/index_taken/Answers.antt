use Rattle.std.proofs.Common.{◌∙◌}
use Rattle.runend_array.proofs.FlatForms.{of_u64}
use Rattle.runend_array.proofs.ListTake.{PlainIndex-taken}
use Rattle.runend_array.proofs.lists.take.index_taken.Goals as goal

pub returns-clause-form : goal.returns-clause-form
returns-clause-form g c = PlainIndex-taken c.new_unchecked-flat.result c.in_ok-numbers.numbers.items _
    (c.new_unchecked-flat.ensures ∙ of_u64 c.from_vec-values.result c.in_ok-numbers.numbers.items c.from_vec-values.ensures.shows c.from_vec-values.ensures.typed) c.in_ok-numbers.ensures.numbers
