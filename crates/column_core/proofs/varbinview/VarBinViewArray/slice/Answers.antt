use Rattle.std.proofs.Common.{◌≡◌, length, ap, refl, arith}
use Rattle.std.specs.Prelude.{slice_range}
use Rattle.column_base.specs.Validity.{form_of}
use Rattle.column_core.specs.VarBinForm.{VarBinForm, varbin_with}
use Rattle.column_core.proofs.VarBinRows.{AreVarBins-of_range, varbin_rows-of_range}
use Rattle.column_core.proofs.varbinview.VarBinViewArray.slice.Goals as goal

pub invariant_of-result : goal.invariant_of-result
invariant_of-result g c =
    let kind = c.self.inside.kind in
    let whole = varbin_with kind c.self.inside.views.items c.self.inside.buffers.items (form_of c.self.inside.validity) in
    let part = varbin_with kind c.in_ok-views.views.items c.in_ok-buffers.buffers.items (form_of c.in_ok-validity.validity) in
    let same : length whole.views ≡ length c.args.self.now.views = ap (λ (form : VarBinForm). length form.views) c.self.view_is in
    let within = c.len-length.ensures.views in
    let views : part.views ≡ slice_range whole.views c.args.range.start c.args.range.end = c.in_ok-views.ensures in
    let buffers : part.buffers ≡ whole.buffers = rw (← c.deref.ensures.value) c.in_ok-buffers.ensures.same in
    AreVarBins-of_range whole part c.args.range.start c.args.range.end (omega arith) (omega arith) c.self.invariant refl buffers views
    c.in_ok-validity.ensures.fits (c.in_ok-validity.ensures.flags (length whole.views) c.self.invariant.counted (omega arith))

pub returns-clause-rows : goal.returns-clause-rows
returns-clause-rows g c =
    let kind = c.self.inside.kind in
    let whole = varbin_with kind c.self.inside.views.items c.self.inside.buffers.items (form_of c.self.inside.validity) in
    let part = varbin_with kind c.in_ok-views.views.items c.in_ok-buffers.buffers.items (form_of c.in_ok-validity.validity) in
    let same : length whole.views ≡ length c.args.self.now.views = ap (λ (form : VarBinForm). length form.views) c.self.view_is in
    let within = c.len-length.ensures.views in
    let views : part.views ≡ slice_range whole.views c.args.range.start c.args.range.end = c.in_ok-views.ensures in
    let buffers : part.buffers ≡ whole.buffers = rw (← c.deref.ensures.value) c.in_ok-buffers.ensures.same in
    rw (← c.self.view_is)
    (varbin_rows-of_range whole part c.args.range.start c.args.range.end (omega arith) (omega arith) c.self.invariant.counted refl buffers views
    (c.in_ok-validity.ensures.flags (length whole.views) c.self.invariant.counted (omega arith)))
