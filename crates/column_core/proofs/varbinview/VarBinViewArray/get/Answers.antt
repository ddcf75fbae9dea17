use Rattle.std.proofs.Common.{◌≡◌, ◌∙◌, sym, refl}
use Rattle.column_base.specs.Validity.{form_of}
use Rattle.column_core.specs.Value.{Text, Bytes}
use Rattle.column_core.specs.VarBinForm.{varbin_with, varbin_value, view_bytes}
use Rattle.column_core.proofs.VarBinRows.{has-view, valid-view, valid-text, valid-bytes, null-bytes}
use Rattle.column_core.proofs.varbinview.VarBinViewArray.get.Goals as goal

pub returns-then-not-is_valid-clause-row : goal.returns-then-not-is_valid-clause-row
returns-then-not-is_valid-clause-row g c =
    let form = varbin_with c.self.inside.kind c.self.inside.views.items c.self.inside.buffers.items (form_of c.self.inside.validity) in
    rw (← c.self.view_is) (null-bytes form c.args.index c.self.invariant (rw (← c.self.view_is) at c.requires) (sym c.is_valid.ensures ∙ c.if-not-is_valid.true))

pub cut-bytes-requires : goal.cut-bytes-requires
cut-bytes-requires g c =
    let form = varbin_with c.self.inside.kind c.self.inside.views.items c.self.inside.buffers.items (form_of c.self.inside.validity) in
    let view = c.index.result.now in
    let has = has-view form c.args.index view c.is_valid.result c.self.invariant (rw (← c.self.view_is) at c.requires) c.is_valid.ensures c.if-not-is_valid.false c.index.ensures in
    rw c.deref.ensures.value (valid-view form c.args.index view has)

pub from_utf8_unchecked-requires : goal.from_utf8_unchecked-requires
from_utf8_unchecked-requires g c =
    let form = varbin_with c.self.inside.kind c.self.inside.views.items c.self.inside.buffers.items (form_of c.self.inside.validity) in
    let view = c.index.result.now in
    let has = has-view form c.args.index view c.is_valid.result c.self.invariant (rw (← c.self.view_is) at c.requires) c.is_valid.ensures c.if-not-is_valid.false c.index.ensures in
    rw (c.cut-bytes.ensures, c.deref.ensures.value) (valid-text form c.args.index view has c.in-Utf8.is)

pub returns-in-Utf8-clause-row : goal.returns-in-Utf8-clause-row
returns-in-Utf8-clause-row g c =
    let form = varbin_with c.self.inside.kind c.self.inside.views.items c.self.inside.buffers.items (form_of c.self.inside.validity) in
    let view = c.index.result.now in
    let has = has-view form c.args.index view c.is_valid.result c.self.invariant (rw (← c.self.view_is) at c.requires) c.is_valid.ensures c.if-not-is_valid.false c.index.ensures in
    let shown : varbin_value form.kind (view_bytes form.buffers view) ≡ Text c.from_utf8_unchecked.result.now =
    rw (c.in-Utf8.is, c.from_utf8_unchecked.ensures, c.cut-bytes.ensures, c.deref.ensures.value) refl in
    rw (← c.self.view_is) (valid-bytes form c.args.index view (Text c.from_utf8_unchecked.result.now) has shown)

pub returns-in-Binary-clause-row : goal.returns-in-Binary-clause-row
returns-in-Binary-clause-row g c =
    let form = varbin_with c.self.inside.kind c.self.inside.views.items c.self.inside.buffers.items (form_of c.self.inside.validity) in
    let view = c.index.result.now in
    let has = has-view form c.args.index view c.is_valid.result c.self.invariant (rw (← c.self.view_is) at c.requires) c.is_valid.ensures c.if-not-is_valid.false c.index.ensures in
    let shown : varbin_value form.kind (view_bytes form.buffers view) ≡ Bytes c.cut-bytes.result.now =
    rw (c.in-Binary.is, c.cut-bytes.ensures, c.deref.ensures.value) refl in
    rw (← c.self.view_is) (valid-bytes form c.args.index view (Bytes c.cut-bytes.result.now) has shown)
