use Rattle.std.proofs.Common.{◌∙◌, ap, sym, subst, length}
use Rattle.std.proofs.lemmas.Result.{IfOk-weaker}
use Rattle.runend_array.specs.Array.{column_of, validity_of}
use Rattle.column_core.specs.FlatView.{leaf_in}
use Rattle.runend_array.specs.Column.{OfLeaf, OfLists, end_numbers, end_ptype, runs_of}
use Rattle.runend_array.specs.Lists.{HasRows, ByRows, AreLists}
use Rattle.runend_array.specs.RowFlags.{IsValidityOf}
use Rattle.runend_windows.proofs.Ends.{length_ends_of}
use Rattle.runend_array.proofs.FlatForms.{IsLeaf-of_rest}
use Rattle.runend_array.proofs.RowFlags.{IsValidityForm-runs, IsValidityOf-leaf, IsValidityOf-lists, IsValidityOf-runs}
use Rattle.runend_array.proofs.+run_validity.Goals as goal

pub array::RunEndArray::run_validity-run_validity_of_lists-shown-requires-clause-counted : goal.array::RunEndArray::run_validity-run_validity_of_lists-shown-requires-clause-counted
array::RunEndArray::run_validity-run_validity_of_lists-shown-requires-clause-counted g t c =
    let plain = c.in-Some.ends.now in
    subst (λ n. HasRows (validity_of c.in_ok-values.values) n) (c.self.invariant.runs.paired ∙ ap (λ e. length (end_numbers e)) c.in-Some.ensures.1 ∙ length_ends_of plain) c.in_ok-values.ensures.rows.counted

pub array::RunEndArray::run_validity-returns-clause-rows : goal.array::RunEndArray::run_validity-returns-clause-rows
array::RunEndArray::run_validity-returns-clause-rows g t c =
    let plain = c.in-Some.ends.now in
    let runs = runs_of (column_of c.self.inside.ends) (column_of c.self.inside.values) c.self.inside.offset c.self.inside.length in
    rw (← c.self.view_is) (IfOk-weaker c.run_validity_of_lists-shown.result _ _ (λ rows shown. IsValidityOf-runs runs plain (validity_of c.in_ok-values.values) (validity_of rows)
    c.self.invariant.runs (ap end_numbers c.in-Some.ensures.1) c.in_ok-values.ensures.rows shown) c.run_validity_of_lists-shown.ensures.form)

pub array::RunEndArray::run_validity-returns-clause-form : goal.array::RunEndArray::run_validity-returns-clause-form
array::RunEndArray::run_validity-returns-clause-form g t c =
    let plain = c.in-Some.ends.now in
    let runs = runs_of (column_of c.self.inside.ends) (column_of c.self.inside.values) c.self.inside.offset c.self.inside.length in
    rw (← c.self.view_is) (IfOk-weaker c.run_validity_of_lists-shown.result _ _ (λ rows shown. IsValidityForm-runs runs plain (validity_of c.in_ok-values.values) (validity_of rows)
    (ap end_ptype c.in-Some.ensures.1) (ap end_numbers c.in-Some.ensures.1) c.in_ok-values.ensures.form shown) c.run_validity_of_lists-shown.ensures.form)

pub array_ref::ArrayRef::run_validity-returns-in-ListView-clause-rows : goal.array_ref::ArrayRef::run_validity-returns-in-ListView-clause-rows
array_ref::ArrayRef::run_validity-returns-in-ListView-clause-rows g t c =
    let lists = c.in-ListView.lists.value in
    let are : AreLists lists = rw c.deref.ensures at c.validity.ensures.lists in
    let stored = c.validity.ensures.form ∙ ap (λ l. l.validity) c.deref.ensures in
    rw c.in-ListView.is (IfOk-weaker c.clone_in.result _ _ (λ copy same. subst (λ form. IsValidityOf (OfLists lists) form) (sym (same ∙ stored)) (IsValidityOf-lists lists are)) c.clone_in.ensures.form)

pub array_ref::ArrayRef::run_validity-as_flat-requires : goal.array_ref::ArrayRef::run_validity-as_flat-requires
array_ref::ArrayRef::run_validity-as_flat-requires g t c = IsLeaf-of_rest c.args.self.now c.in_default.not-ListView c.in_default.not-Constant c.in_default.not-RunEnd

pub array_ref::ArrayRef::run_validity-returns-in_default-clause-rows : goal.array_ref::ArrayRef::run_validity-returns-in_default-clause-rows
array_ref::ArrayRef::run_validity-returns-in_default-clause-rows g t c =
    let leaf = leaf_in c.as_flat.result in
    let whole = IsValidityOf-leaf leaf c.validity-in_default.ensures.counted in
    rw c.as_flat.ensures
    (IfOk-weaker c.copy_told.result _ _ (λ rows same. subst (λ form. IsValidityOf (OfLeaf leaf) form) (sym (same ∙ ap ByRows c.validity-in_default.ensures.form)) whole) c.copy_told.ensures.form)

pub array_ref::ArrayRef::run_validity-returns-in_default-clause-form : goal.array_ref::ArrayRef::run_validity-returns-in_default-clause-form
array_ref::ArrayRef::run_validity-returns-in_default-clause-form g t c = rw c.as_flat.ensures (IfOk-weaker c.copy_told.result _ _ (λ rows same. same ∙ ap ByRows c.validity-in_default.ensures.form) c.copy_told.ensures.form)
