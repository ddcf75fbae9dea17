use Rattle.std.proofs.Common.{◌∙◌, ap, sym}
use Rattle.runend_array.specs.Array.{column_of}
use Rattle.runend_array.specs.Column.{OfLeaf, runs_of}
use Rattle.runend_array.proofs.FlatForms.{IsLeaf-of_rest}
use Rattle.runend_array.proofs.ListParts.{AreListParts-same, lists_of-same}
use Rattle.runend_array.proofs.+clone_in.Goals as goal

pub array::RunEndArray::clone_in-returns-clause-form : goal.array::RunEndArray::clone_in-returns-clause-form
array::RunEndArray::clone_in-returns-clause-form g t c =
    ap (λ e. runs_of e (column_of c.in-Ok.values) c.self.inside.offset c.self.inside.length) c.in_ok-ends.ensures.form
    ∙ ap (λ v. runs_of (column_of c.self.inside.ends) v c.self.inside.offset c.self.inside.length) c.in-Ok.ensures.form
    ∙ c.self.view_is

pub lists::listview::ListViewArray::clone_in-invariant_of-result : goal.lists::listview::ListViewArray::clone_in-invariant_of-result
lists::listview::ListViewArray::clone_in-invariant_of-result g t c =
    let old = c.self.inside in
    AreListParts-same old.elements.value c.in_ok-elements.elements.value old.offsets c.in_ok-offsets.offsets old.sizes c.in-Ok.sizes old.validity c.in-Ok-clone_in.validity
    c.in_ok-elements.ensures.cases c.in_ok-offsets.ensures.form c.in-Ok.ensures.form c.in-Ok-clone_in.ensures.form (c.in-Ok-clone_in.ensures.plain c.self.invariant.types.flags) c.self.invariant

pub lists::listview::ListViewArray::clone_in-returns-clause-form : goal.lists::listview::ListViewArray::clone_in-returns-clause-form
lists::listview::ListViewArray::clone_in-returns-clause-form g t c =
    let old = c.self.inside in
    lists_of-same old.elements.value c.in_ok-elements.elements.value old.offsets c.in_ok-offsets.offsets old.sizes c.in-Ok.sizes old.validity c.in-Ok-clone_in.validity
    c.in_ok-elements.ensures.cases c.in_ok-offsets.ensures.form c.in-Ok.ensures.form c.in-Ok-clone_in.ensures.form
    ∙ c.self.view_is

pub array_ref::ArrayRef::clone_in-as_flat-requires : goal.array_ref::ArrayRef::clone_in-as_flat-requires
array_ref::ArrayRef::clone_in-as_flat-requires g t c = IsLeaf-of_rest c.args.self.now c.in_default.not-ListView c.in_default.not-Constant c.in_default.not-RunEnd

pub array_ref::ArrayRef::clone_in-returns-in_ok-copy-in_default-clause-form : goal.array_ref::ArrayRef::clone_in-returns-in_ok-copy-in_default-clause-form
array_ref::ArrayRef::clone_in-returns-in_ok-copy-in_default-clause-form g t c = c.array_of.ensures ∙ ap OfLeaf c.in_ok-copy-in_default.ensures.form ∙ sym c.as_flat.ensures
