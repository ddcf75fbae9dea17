use Rattle.std.proofs.Common.{sym, ◌∙◌, ap, subst}
use Rattle.column_base.specs.Validity.{form_of}
use Rattle.column_core.specs.FlatColumn.{leaf_of}
use Rattle.runend_array.specs.Array.{lists_of, validity_of}
use Rattle.runend_array.specs.Lists.{AreLists, HasRows, list_count, list_dtype, list_rows}
use Rattle.runend_array.proofs.ListTake.{AreLists-taken, AreListsAt-of_parts, list_dtype-taken, list_rows-taken}
use Rattle.runend_array.proofs.lists.listview.ListViewArray.take_at.Goals as goal

pub validity_taken-requires-clause-counted : goal.validity_taken-requires-clause-counted
validity_taken-requires-clause-counted g c =
    subst (λ n. HasRows (validity_of c.self.inside.validity) n) (ap list_count c.self.view_is ∙ sym c.len.ensures.offsets) c.self.invariant.lists.flagged

pub new_unchecked-requires : goal.new_unchecked-requires
new_unchecked-requires g c =
    let whole = c.args.self.now in
    let same = lists_of c.self.inside.elements.value c.self.inside.offsets c.self.inside.sizes c.self.inside.validity in
    let part = lists_of c.in_ok-elements.elements.value c.in_ok-offsets.offsets c.in-Ok.sizes c.in-Ok-validity_taken.validity in
    let cut = AreListsAt-of_parts whole same part c.args.positions.now (form_of c.args.places.now) c.self.view_is (ap leaf_of c.in_ok-elements.ensures.cases) c.in_ok-offsets.ensures.form c.in-Ok.ensures.form c.in-Ok-validity_taken.ensures.form in
    record {
      types = record { first_elements = c.in_ok-offsets.ensures.index; counts = c.in-Ok.ensures.index; flags = c.in-Ok-validity_taken.ensures.plain };
      lists = AreLists-taken whole part c.args.positions.now (form_of c.args.places.now) (subst AreLists c.self.view_is c.self.invariant.lists) c.requires.within cut;
    }

pub returns-in-Ok-validity_taken-clause-rows : goal.returns-in-Ok-validity_taken-clause-rows
returns-in-Ok-validity_taken-clause-rows g c =
    let whole = c.args.self.now in
    let same = lists_of c.self.inside.elements.value c.self.inside.offsets c.self.inside.sizes c.self.inside.validity in
    let part = lists_of c.in_ok-elements.elements.value c.in_ok-offsets.offsets c.in-Ok.sizes c.in-Ok-validity_taken.validity in
    let cut = AreListsAt-of_parts whole same part c.args.positions.now (form_of c.args.places.now) c.self.view_is (ap leaf_of c.in_ok-elements.ensures.cases) c.in_ok-offsets.ensures.form c.in-Ok.ensures.form c.in-Ok-validity_taken.ensures.form in
    ap list_rows c.new_unchecked.ensures
    ∙ list_rows-taken whole part c.args.positions.now (form_of c.args.places.now) (subst AreLists c.self.view_is c.self.invariant.lists) c.requires.within cut

pub returns-in-Ok-validity_taken-clause-dtype : goal.returns-in-Ok-validity_taken-clause-dtype
returns-in-Ok-validity_taken-clause-dtype g c =
    let whole = c.args.self.now in
    let same = lists_of c.self.inside.elements.value c.self.inside.offsets c.self.inside.sizes c.self.inside.validity in
    let part = lists_of c.in_ok-elements.elements.value c.in_ok-offsets.offsets c.in-Ok.sizes c.in-Ok-validity_taken.validity in
    let cut = AreListsAt-of_parts whole same part c.args.positions.now (form_of c.args.places.now) c.self.view_is (ap leaf_of c.in_ok-elements.ensures.cases) c.in_ok-offsets.ensures.form c.in-Ok.ensures.form c.in-Ok-validity_taken.ensures.form in
    ap list_dtype c.new_unchecked.ensures
    ∙ list_dtype-taken whole part c.args.positions.now (form_of c.args.places.now) (subst AreLists c.self.view_is c.self.invariant.lists) c.requires.within cut

pub returns-in-Ok-validity_taken-clause-form : goal.returns-in-Ok-validity_taken-clause-form
returns-in-Ok-validity_taken-clause-form g c =
    let whole = c.args.self.now in
    let same = lists_of c.self.inside.elements.value c.self.inside.offsets c.self.inside.sizes c.self.inside.validity in
    let part = lists_of c.in_ok-elements.elements.value c.in_ok-offsets.offsets c.in-Ok.sizes c.in-Ok-validity_taken.validity in
    let cut = AreListsAt-of_parts whole same part c.args.positions.now (form_of c.args.places.now) c.self.view_is (ap leaf_of c.in_ok-elements.ensures.cases) c.in_ok-offsets.ensures.form c.in-Ok.ensures.form c.in-Ok-validity_taken.ensures.form in
    rw c.new_unchecked.ensures cut
