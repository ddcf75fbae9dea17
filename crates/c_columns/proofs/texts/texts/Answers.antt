-- The column of texts, and why there is none.
use Rattle.std.proofs.Common.{◌∙◌, map, refl}
use Rattle.column_base.specs.Validity.{form_of}
use Rattle.c_columns.specs.Makers.{TextsFault}
use Rattle.c_columns.proofs.Served.{all_served, array_served}
use Rattle.c_columns.proofs.Cuts.{array_refused, of_value, passed_short, texts_made}
use Rattle.c_columns.proofs.texts.texts.Goals as goal

pub returns-in_err-array-clause-refused : goal.returns-in_err-array-clause-refused
returns-in_err-array-clause-refused g c =
    let offsets = map g.T.NativePType.number c.args.offsets.now in
    let error = c.in_err-array.field-0.0 in
    passed_short (TextsFault c.args.kind offsets c.args.bytes.now c.args.nulls c.args.bits.now c.args.first) error c.from_residual-in_err-array.result c.from_residual-in_err-array.ensures.1
    (array_refused c.args.kind offsets c.args.bytes.now c.args.nulls c.args.bits.now c.args.first error c.in_ok-views.views.items c.in_ok-buffers.buffers.items (form_of c.in_ok-validity.validity) c.len.result
    c.in_ok-views.ensures.cuts (c.len.ensures ∙ c.in_ok-views.views.ok.0) c.in_ok-validity.ensures.refused c.in_ok-buffers.ensures.buffer c.in_ok-validity.ensures.validity c.in_err-array.ensures.refused)

pub returns-clause-made : goal.returns-clause-made
returns-clause-made g c =
    of_value _ _ c.boxed.result (λ made same. texts_made g.T.NativePType.number c.args.kind c.args.offsets.now c.args.bytes.now c.args.nulls c.args.bits.now c.args.first c.in_ok-views.views.items c.in_ok-buffers.buffers.items
    (form_of c.in_ok-validity.validity) c.len.result c.in_ok-array.array made.value.array c.in_ok-views.ensures.cuts (c.len.ensures ∙ c.in_ok-views.views.ok.0) c.in_ok-validity.ensures.validity c.in_ok-buffers.ensures.buffer c.in_ok-array.ensures.ok same) c.boxed.ensures.column

pub returns-clause-served : goal.returns-clause-served
returns-clause-served g c =
    all_served _ c.boxed.result
    (array_served c.args.kind (map g.T.NativePType.number c.args.offsets.now) c.args.bytes.now c.args.nulls c.args.bits.now c.args.first c.in_ok-views.views.items c.in_ok-buffers.buffers.items
    (form_of c.in_ok-validity.validity) c.len.result c.in_ok-views.ensures.cuts c.in_ok-views.ensures.each (c.len.ensures ∙ c.in_ok-views.views.ok.0) c.in_ok-validity.ensures.refused c.in_ok-buffers.ensures.buffer
    c.in_ok-validity.ensures.validity (c.in_ok-array.ensures.accepts.0 refl))
