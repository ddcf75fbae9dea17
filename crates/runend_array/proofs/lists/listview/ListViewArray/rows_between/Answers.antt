use Rattle.std.proofs.Common.{sym, ◌∙◌, ap, subst}
use Rattle.column_core.specs.FlatColumn.{leaf_of}
use Rattle.runend_array.specs.Array.{lists_of, validity_of}
use Rattle.runend_array.specs.Lists.{AreLists, HasRows, list_count, list_dtype, list_rows}
use Rattle.runend_array.proofs.ListSlice.{AreLists-in_range, AreListsInRange-of_parts, list_dtype-in_range, list_rows-in_range}
use Rattle.runend_array.proofs.lists.listview.ListViewArray.rows_between.Goals as goal

pub validity_between-requires-clause-counted : goal.validity_between-requires-clause-counted
validity_between-requires-clause-counted g c =
    subst (λ n. HasRows (validity_of c.self.inside.validity) n) (ap list_count c.self.view_is ∙ sym c.len.ensures.offsets) c.self.invariant.lists.flagged

pub new_unchecked-requires : goal.new_unchecked-requires
new_unchecked-requires g c =
    let whole = c.args.self.now in
    let same = lists_of c.self.inside.elements.value c.self.inside.offsets c.self.inside.sizes c.self.inside.validity in
    let part = lists_of c.in_ok-elements.elements.value c.in_ok-offsets.offsets c.in-Ok.sizes c.in-Ok-validity_between.validity in
    let cut = AreListsInRange-of_parts whole same part c.args.start c.args.stop c.self.view_is (ap leaf_of c.in_ok-elements.ensures.cases) c.in_ok-offsets.ensures.form c.in-Ok.ensures.form c.in-Ok-validity_between.ensures.form in
    record {
      types = record { first_elements = c.in_ok-offsets.ensures.index; counts = c.in-Ok.ensures.index; flags = c.in-Ok-validity_between.ensures.plain };
      lists = AreLists-in_range whole part c.args.start c.args.stop c.requires.ordered c.requires.in_bounds (subst AreLists c.self.view_is c.self.invariant.lists) cut;
    }

pub returns-in-Ok-validity_between-clause-rows : goal.returns-in-Ok-validity_between-clause-rows
returns-in-Ok-validity_between-clause-rows g c =
    let whole = c.args.self.now in
    let same = lists_of c.self.inside.elements.value c.self.inside.offsets c.self.inside.sizes c.self.inside.validity in
    let part = lists_of c.in_ok-elements.elements.value c.in_ok-offsets.offsets c.in-Ok.sizes c.in-Ok-validity_between.validity in
    let cut = AreListsInRange-of_parts whole same part c.args.start c.args.stop c.self.view_is (ap leaf_of c.in_ok-elements.ensures.cases) c.in_ok-offsets.ensures.form c.in-Ok.ensures.form c.in-Ok-validity_between.ensures.form in
    ap list_rows c.new_unchecked.ensures
    ∙ list_rows-in_range whole part c.args.start c.args.stop c.requires.ordered c.requires.in_bounds (subst AreLists c.self.view_is c.self.invariant.lists) cut

pub returns-in-Ok-validity_between-clause-dtype : goal.returns-in-Ok-validity_between-clause-dtype
returns-in-Ok-validity_between-clause-dtype g c =
    let whole = c.args.self.now in
    let same = lists_of c.self.inside.elements.value c.self.inside.offsets c.self.inside.sizes c.self.inside.validity in
    let part = lists_of c.in_ok-elements.elements.value c.in_ok-offsets.offsets c.in-Ok.sizes c.in-Ok-validity_between.validity in
    let cut = AreListsInRange-of_parts whole same part c.args.start c.args.stop c.self.view_is (ap leaf_of c.in_ok-elements.ensures.cases) c.in_ok-offsets.ensures.form c.in-Ok.ensures.form c.in-Ok-validity_between.ensures.form in
    ap list_dtype c.new_unchecked.ensures
    ∙ list_dtype-in_range whole part c.args.start c.args.stop c.requires.ordered c.requires.in_bounds (subst AreLists c.self.view_is c.self.invariant.lists) cut

pub returns-in-Ok-validity_between-clause-form : goal.returns-in-Ok-validity_between-clause-form
returns-in-Ok-validity_between-clause-form g c =
    let whole = c.args.self.now in
    let same = lists_of c.self.inside.elements.value c.self.inside.offsets c.self.inside.sizes c.self.inside.validity in
    let part = lists_of c.in_ok-elements.elements.value c.in_ok-offsets.offsets c.in-Ok.sizes c.in-Ok-validity_between.validity in
    let cut = AreListsInRange-of_parts whole same part c.args.start c.args.stop c.self.view_is (ap leaf_of c.in_ok-elements.ensures.cases) c.in_ok-offsets.ensures.form c.in-Ok.ensures.form c.in-Ok-validity_between.ensures.form in
    rw c.new_unchecked.ensures cut
