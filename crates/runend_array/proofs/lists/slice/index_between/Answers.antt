use Rattle.runend_array.specs.Array.{column_of}
use Rattle.runend_array.specs.Column.{IsPlainIndex, index_of}
use Rattle.runend_array.proofs.ListSlice.{IsIndexInRange-flat}
use Rattle.runend_array.proofs.lists.slice.index_between.Goals as goal

pub returns-in_ok-flat-in-Primitive-clause-form : goal.returns-in_ok-flat-in-Primitive-clause-form
returns-in_ok-flat-in-Primitive-clause-form g c =
    let index = column_of c.args.index.now in
    let plain : IsPlainIndex index = rw c.in-Primitive.is (rw c.in-Primitive.is at c.requires.index) in
    IsIndexInRange-flat index (index_of (column_of c.in_ok-flat-in-Primitive.flat)) c.args.start c.args.stop plain c.requires.ordered c.requires.in_bounds c.in_ok-flat-in-Primitive.ensures.form
