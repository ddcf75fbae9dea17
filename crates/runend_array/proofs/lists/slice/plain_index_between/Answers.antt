use Rattle.std.specs.Prelude.{slice_range}
use Rattle.runend_array.specs.Array.{column_of}
use Rattle.runend_array.specs.Column.{end_numbers}
use Rattle.runend_array.proofs.ListSlice.{PlainIndex-numbers}
use Rattle.runend_array.proofs.lists.slice.plain_index_between.Goals as goal

pub returns-clause-form : goal.returns-clause-form
returns-clause-form g c =
    PlainIndex-numbers c.new_unchecked-flat.result c.in_ok-numbers.numbers.items (slice_range (end_numbers (column_of c.args.index.now)) c.args.start c.args.stop)
    c.new_unchecked-flat.ensures c.in_ok-numbers.ensures.numbers
