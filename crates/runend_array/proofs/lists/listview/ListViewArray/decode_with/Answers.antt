use Rattle.std.proofs.Common.{◌≡◌, length, sym, ◌∙◌, ap, subst}
use Rattle.column_core.specs.FlatColumn.{leaf_of}
use Rattle.runend_array.specs.Array.{lists_of, validity_of}
use Rattle.runend_windows.specs.Ends.{ends_of}
use Rattle.runend_windows.specs.Window.{run_rows}
use Rattle.runend_array.specs.Lists.{HasRows, list_count, list_dtype, list_rows}
use Rattle.runend_windows.proofs.Ends.{length_ends_of}
use Rattle.runend_array.proofs.ShownLists.{AreLists-in_runs, AreListsInRuns-of_parts, list_dtype-in_runs, list_rows-in_runs}
use Rattle.runend_array.proofs.lists.listview.ListViewArray.decode_with.Goals as goal

pub run_validity_of_lists-requires-clause-counted : goal.run_validity_of_lists-requires-clause-counted
run_validity_of_lists-requires-clause-counted g c =
    subst (λ n. HasRows (validity_of c.self.inside.validity) n) (ap list_count c.self.view_is ∙ c.requires.paired) c.self.invariant.lists.flagged

pub new_unchecked-requires : goal.new_unchecked-requires
new_unchecked-requires g c =
    let old = lists_of c.self.inside.elements.value c.self.inside.offsets c.self.inside.sizes c.self.inside.validity in
    let new = lists_of c.in_ok-elements.elements.value c.in_ok-offsets.offsets c.in-Ok.sizes c.in-Ok-run_validity_of_lists.validity in
    let paired : list_count old ≡ length c.args.ends.now.numbers = ap list_count c.self.view_is ∙ c.requires.paired in
    let shown = AreListsInRuns-of_parts c.args.ends.now c.args.offset c.args.count old new paired (ap leaf_of c.in_ok-elements.ensures.cases) c.in_ok-offsets.ensures.form c.in-Ok.ensures.form c.in-Ok-run_validity_of_lists.ensures.form in
    record {
      types = record { first_elements = c.in_ok-offsets.ensures.index; counts = c.in-Ok.ensures.index; flags = c.in-Ok-run_validity_of_lists.ensures.plain };
      lists = AreLists-in_runs c.args.ends.now.ptype (ends_of c.args.ends.now) c.args.offset c.args.count old new c.requires.window (paired ∙ sym (length_ends_of c.args.ends.now)) c.self.invariant.lists shown;
    }

pub returns-in-Ok-run_validity_of_lists-clause-rows : goal.returns-in-Ok-run_validity_of_lists-clause-rows
returns-in-Ok-run_validity_of_lists-clause-rows g c =
    let old = lists_of c.self.inside.elements.value c.self.inside.offsets c.self.inside.sizes c.self.inside.validity in
    let new = lists_of c.in_ok-elements.elements.value c.in_ok-offsets.offsets c.in-Ok.sizes c.in-Ok-run_validity_of_lists.validity in
    let paired : list_count old ≡ length c.args.ends.now.numbers = ap list_count c.self.view_is ∙ c.requires.paired in
    let shown = AreListsInRuns-of_parts c.args.ends.now c.args.offset c.args.count old new paired (ap leaf_of c.in_ok-elements.ensures.cases) c.in_ok-offsets.ensures.form c.in-Ok.ensures.form c.in-Ok-run_validity_of_lists.ensures.form in
    ap list_rows c.new_unchecked.ensures
    ∙ list_rows-in_runs c.args.ends.now.ptype (ends_of c.args.ends.now) c.args.offset c.args.count old new c.requires.window (paired ∙ sym (length_ends_of c.args.ends.now)) c.self.invariant.lists shown
    ∙ ap (λ l. run_rows (ends_of c.args.ends.now) (list_rows l) c.args.offset c.args.count) c.self.view_is

pub returns-in-Ok-run_validity_of_lists-clause-dtype : goal.returns-in-Ok-run_validity_of_lists-clause-dtype
returns-in-Ok-run_validity_of_lists-clause-dtype g c =
    let old = lists_of c.self.inside.elements.value c.self.inside.offsets c.self.inside.sizes c.self.inside.validity in
    let new = lists_of c.in_ok-elements.elements.value c.in_ok-offsets.offsets c.in-Ok.sizes c.in-Ok-run_validity_of_lists.validity in
    let paired : list_count old ≡ length c.args.ends.now.numbers = ap list_count c.self.view_is ∙ c.requires.paired in
    let shown = AreListsInRuns-of_parts c.args.ends.now c.args.offset c.args.count old new paired (ap leaf_of c.in_ok-elements.ensures.cases) c.in_ok-offsets.ensures.form c.in-Ok.ensures.form c.in-Ok-run_validity_of_lists.ensures.form in
    ap list_dtype c.new_unchecked.ensures
    ∙ list_dtype-in_runs c.args.ends.now.ptype (ends_of c.args.ends.now) c.args.offset c.args.count old new c.requires.window (paired ∙ sym (length_ends_of c.args.ends.now)) c.self.invariant.lists shown
    ∙ ap list_dtype c.self.view_is

pub returns-in-Ok-run_validity_of_lists-clause-form : goal.returns-in-Ok-run_validity_of_lists-clause-form
returns-in-Ok-run_validity_of_lists-clause-form g c =
    let old = lists_of c.self.inside.elements.value c.self.inside.offsets c.self.inside.sizes c.self.inside.validity in
    let new = lists_of c.in_ok-elements.elements.value c.in_ok-offsets.offsets c.in-Ok.sizes c.in-Ok-run_validity_of_lists.validity in
    let paired : list_count old ≡ length c.args.ends.now.numbers = ap list_count c.self.view_is ∙ c.requires.paired in
    let shown = AreListsInRuns-of_parts c.args.ends.now c.args.offset c.args.count old new paired (ap leaf_of c.in_ok-elements.ensures.cases) c.in_ok-offsets.ensures.form c.in-Ok.ensures.form c.in-Ok-run_validity_of_lists.ensures.form in
    rw (c.new_unchecked.ensures, ← c.self.view_is) shown
