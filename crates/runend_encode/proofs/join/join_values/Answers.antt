use Rattle.std.proofs.Common.{ℤ, pos, map, map-id, sym, ap, subst, ◌∙◌}
use Rattle.std.specs.Prelude.{IfOk}
use Rattle.column_base.specs.declared.dtype.PType.TheVariants.{U8, U16, U32, U64, I8, I16, I32, I64}
use Rattle.column_base.specs.Numbers.{numbers, ptype_of}
use Rattle.column_base.specs.ValidityForm.{NeverNull}
use Rattle.column_base.specs.Validity.{form_of}
use Rattle.column_core.specs.PrimitiveForm.{PrimitiveForm, primitive_with}
use Rattle.runend_windows.proofs.Arms.{HasLength-arm, length-arm, same-primitive}
use Rattle.runend_encode.specs.Joined.{AreJoined}
use Rattle.runend_encode.proofs.RunReads.{zeroed-arm}
use Rattle.runend_encode.proofs.join.join_values.Goals as goal

pub join_as-requires-clause-fits : goal.join_as-requires-clause-fits
join_as-requires-clause-fits g c = c.requires.fits

pub join_as-requires-clause-window : goal.join_as-requires-clause-window
join_as-requires-clause-window g c = c.requires.window

pub join_as-requires-clause-shown : goal.join_as-requires-clause-shown
join_as-requires-clause-shown g c = c.requires.shown

pub join_as-requires-clause-paired : goal.join_as-requires-clause-paired
join_as-requires-clause-paired g c =
    let shown = ap (map pos) c.as_slice.ensures.value ∙ sym (ap numbers c.in-U8-match_each_native.is) ∙ c.values.ensures.shows in
    length-arm pos c.as_slice.result.now c.args.values.now.numbers shown ∙ c.requires.paired

pub join_as-requires-clause-counted : goal.join_as-requires-clause-counted
join_as-requires-clause-counted g c =
    let shown = ap (map pos) c.as_slice.ensures.value ∙ sym (ap numbers c.in-U8-match_each_native.is) ∙ c.values.ensures.shows in
    HasLength-arm _ _ _ _ c.validity-validity.ensures.form (length-arm pos c.as_slice.result.now c.args.values.now.numbers shown) c.validity-validity.ensures.counted

pub join_as-requires-clause-zeroed : goal.join_as-requires-clause-zeroed
join_as-requires-clause-zeroed g c =
    let shown = ap (map pos) c.as_slice.ensures.value ∙ sym (ap numbers c.in-U8-match_each_native.is) ∙ c.values.ensures.shows in
    zeroed-arm pos c.as_slice.result.now c.args.values.now.numbers _ _ shown c.validity-validity.ensures.form c.requires.computed.blanked

pub returns-in-U8-match_each_native-clause-only : goal.returns-in-U8-match_each_native-clause-only
returns-in-U8-match_each_native-clause-only g c = c.join_as.ensures.only

pub returns-in-U8-match_each_native-clause-joined : goal.returns-in-U8-match_each_native-clause-joined
returns-in-U8-match_each_native-clause-joined g c =
    let shown = ap (map pos) c.as_slice.ensures.value ∙ sym (ap numbers c.in-U8-match_each_native.is) ∙ c.values.ensures.shows in
    let typed = sym (ap ptype_of c.in-U8-match_each_native.is) ∙ c.values.ensures.typed in
    let same = same-primitive U8 (map pos c.as_slice.result.now) (form_of c.validity-validity.result.now) c.args.values.now typed shown c.validity-validity.ensures.form in
    subst (λ (form : PrimitiveForm). IfOk c.join_as.result (λ parts. AreJoined (primitive_with g.E.NativePType.PTYPE (map g.E.NativePType.number c.args.ends.now) NeverNull) form c.args.offset c.args.count parts.0 parts.1)) same c.join_as.ensures.joined

pub join_as-requires-2-clause-fits : goal.join_as-requires-2-clause-fits
join_as-requires-2-clause-fits g c = c.requires.fits

pub join_as-requires-2-clause-window : goal.join_as-requires-2-clause-window
join_as-requires-2-clause-window g c = c.requires.window

pub join_as-requires-2-clause-shown : goal.join_as-requires-2-clause-shown
join_as-requires-2-clause-shown g c = c.requires.shown

pub join_as-requires-2-clause-paired : goal.join_as-requires-2-clause-paired
join_as-requires-2-clause-paired g c =
    let shown = ap (map pos) c.as_slice-2.ensures.value ∙ sym (ap numbers c.in-U16-match_each_native.is) ∙ c.values.ensures.shows in
    length-arm pos c.as_slice-2.result.now c.args.values.now.numbers shown ∙ c.requires.paired

pub join_as-requires-2-clause-counted : goal.join_as-requires-2-clause-counted
join_as-requires-2-clause-counted g c =
    let shown = ap (map pos) c.as_slice-2.ensures.value ∙ sym (ap numbers c.in-U16-match_each_native.is) ∙ c.values.ensures.shows in
    HasLength-arm _ _ _ _ c.validity-validity.ensures.form (length-arm pos c.as_slice-2.result.now c.args.values.now.numbers shown) c.validity-validity.ensures.counted

pub join_as-requires-2-clause-zeroed : goal.join_as-requires-2-clause-zeroed
join_as-requires-2-clause-zeroed g c =
    let shown = ap (map pos) c.as_slice-2.ensures.value ∙ sym (ap numbers c.in-U16-match_each_native.is) ∙ c.values.ensures.shows in
    zeroed-arm pos c.as_slice-2.result.now c.args.values.now.numbers _ _ shown c.validity-validity.ensures.form c.requires.computed.blanked

pub returns-in-U16-match_each_native-clause-only : goal.returns-in-U16-match_each_native-clause-only
returns-in-U16-match_each_native-clause-only g c = c.join_as-2.ensures.only

pub returns-in-U16-match_each_native-clause-joined : goal.returns-in-U16-match_each_native-clause-joined
returns-in-U16-match_each_native-clause-joined g c =
    let shown = ap (map pos) c.as_slice-2.ensures.value ∙ sym (ap numbers c.in-U16-match_each_native.is) ∙ c.values.ensures.shows in
    let typed = sym (ap ptype_of c.in-U16-match_each_native.is) ∙ c.values.ensures.typed in
    let same = same-primitive U16 (map pos c.as_slice-2.result.now) (form_of c.validity-validity.result.now) c.args.values.now typed shown c.validity-validity.ensures.form in
    subst (λ (form : PrimitiveForm). IfOk c.join_as-2.result (λ parts. AreJoined (primitive_with g.E.NativePType.PTYPE (map g.E.NativePType.number c.args.ends.now) NeverNull) form c.args.offset c.args.count parts.0 parts.1)) same c.join_as-2.ensures.joined

pub join_as-requires-3-clause-fits : goal.join_as-requires-3-clause-fits
join_as-requires-3-clause-fits g c = c.requires.fits

pub join_as-requires-3-clause-window : goal.join_as-requires-3-clause-window
join_as-requires-3-clause-window g c = c.requires.window

pub join_as-requires-3-clause-shown : goal.join_as-requires-3-clause-shown
join_as-requires-3-clause-shown g c = c.requires.shown

pub join_as-requires-3-clause-paired : goal.join_as-requires-3-clause-paired
join_as-requires-3-clause-paired g c =
    let shown = ap (map pos) c.as_slice-3.ensures.value ∙ sym (ap numbers c.in-U32-match_each_native.is) ∙ c.values.ensures.shows in
    length-arm pos c.as_slice-3.result.now c.args.values.now.numbers shown ∙ c.requires.paired

pub join_as-requires-3-clause-counted : goal.join_as-requires-3-clause-counted
join_as-requires-3-clause-counted g c =
    let shown = ap (map pos) c.as_slice-3.ensures.value ∙ sym (ap numbers c.in-U32-match_each_native.is) ∙ c.values.ensures.shows in
    HasLength-arm _ _ _ _ c.validity-validity.ensures.form (length-arm pos c.as_slice-3.result.now c.args.values.now.numbers shown) c.validity-validity.ensures.counted

pub join_as-requires-3-clause-zeroed : goal.join_as-requires-3-clause-zeroed
join_as-requires-3-clause-zeroed g c =
    let shown = ap (map pos) c.as_slice-3.ensures.value ∙ sym (ap numbers c.in-U32-match_each_native.is) ∙ c.values.ensures.shows in
    zeroed-arm pos c.as_slice-3.result.now c.args.values.now.numbers _ _ shown c.validity-validity.ensures.form c.requires.computed.blanked

pub returns-in-U32-match_each_native-clause-only : goal.returns-in-U32-match_each_native-clause-only
returns-in-U32-match_each_native-clause-only g c = c.join_as-3.ensures.only

pub returns-in-U32-match_each_native-clause-joined : goal.returns-in-U32-match_each_native-clause-joined
returns-in-U32-match_each_native-clause-joined g c =
    let shown = ap (map pos) c.as_slice-3.ensures.value ∙ sym (ap numbers c.in-U32-match_each_native.is) ∙ c.values.ensures.shows in
    let typed = sym (ap ptype_of c.in-U32-match_each_native.is) ∙ c.values.ensures.typed in
    let same = same-primitive U32 (map pos c.as_slice-3.result.now) (form_of c.validity-validity.result.now) c.args.values.now typed shown c.validity-validity.ensures.form in
    subst (λ (form : PrimitiveForm). IfOk c.join_as-3.result (λ parts. AreJoined (primitive_with g.E.NativePType.PTYPE (map g.E.NativePType.number c.args.ends.now) NeverNull) form c.args.offset c.args.count parts.0 parts.1)) same c.join_as-3.ensures.joined

pub join_as-requires-4-clause-fits : goal.join_as-requires-4-clause-fits
join_as-requires-4-clause-fits g c = c.requires.fits

pub join_as-requires-4-clause-window : goal.join_as-requires-4-clause-window
join_as-requires-4-clause-window g c = c.requires.window

pub join_as-requires-4-clause-shown : goal.join_as-requires-4-clause-shown
join_as-requires-4-clause-shown g c = c.requires.shown

pub join_as-requires-4-clause-paired : goal.join_as-requires-4-clause-paired
join_as-requires-4-clause-paired g c =
    let shown = ap (map pos) c.as_slice-4.ensures.value ∙ sym (ap numbers c.in-U64-match_each_native.is) ∙ c.values.ensures.shows in
    length-arm pos c.as_slice-4.result.now c.args.values.now.numbers shown ∙ c.requires.paired

pub join_as-requires-4-clause-counted : goal.join_as-requires-4-clause-counted
join_as-requires-4-clause-counted g c =
    let shown = ap (map pos) c.as_slice-4.ensures.value ∙ sym (ap numbers c.in-U64-match_each_native.is) ∙ c.values.ensures.shows in
    HasLength-arm _ _ _ _ c.validity-validity.ensures.form (length-arm pos c.as_slice-4.result.now c.args.values.now.numbers shown) c.validity-validity.ensures.counted

pub join_as-requires-4-clause-zeroed : goal.join_as-requires-4-clause-zeroed
join_as-requires-4-clause-zeroed g c =
    let shown = ap (map pos) c.as_slice-4.ensures.value ∙ sym (ap numbers c.in-U64-match_each_native.is) ∙ c.values.ensures.shows in
    zeroed-arm pos c.as_slice-4.result.now c.args.values.now.numbers _ _ shown c.validity-validity.ensures.form c.requires.computed.blanked

pub returns-in-U64-match_each_native-clause-only : goal.returns-in-U64-match_each_native-clause-only
returns-in-U64-match_each_native-clause-only g c = c.join_as-4.ensures.only

pub returns-in-U64-match_each_native-clause-joined : goal.returns-in-U64-match_each_native-clause-joined
returns-in-U64-match_each_native-clause-joined g c =
    let shown = ap (map pos) c.as_slice-4.ensures.value ∙ sym (ap numbers c.in-U64-match_each_native.is) ∙ c.values.ensures.shows in
    let typed = sym (ap ptype_of c.in-U64-match_each_native.is) ∙ c.values.ensures.typed in
    let same = same-primitive U64 (map pos c.as_slice-4.result.now) (form_of c.validity-validity.result.now) c.args.values.now typed shown c.validity-validity.ensures.form in
    subst (λ (form : PrimitiveForm). IfOk c.join_as-4.result (λ parts. AreJoined (primitive_with g.E.NativePType.PTYPE (map g.E.NativePType.number c.args.ends.now) NeverNull) form c.args.offset c.args.count parts.0 parts.1)) same c.join_as-4.ensures.joined

pub join_as-requires-5-clause-fits : goal.join_as-requires-5-clause-fits
join_as-requires-5-clause-fits g c = c.requires.fits

pub join_as-requires-5-clause-window : goal.join_as-requires-5-clause-window
join_as-requires-5-clause-window g c = c.requires.window

pub join_as-requires-5-clause-shown : goal.join_as-requires-5-clause-shown
join_as-requires-5-clause-shown g c = c.requires.shown

pub join_as-requires-5-clause-paired : goal.join_as-requires-5-clause-paired
join_as-requires-5-clause-paired g c =
    let shown = map-id c.as_slice-5.result.now ∙ c.as_slice-5.ensures.value ∙ sym (ap numbers c.in-I8-match_each_native.is) ∙ c.values.ensures.shows in
    length-arm (λ (n : ℤ). n) c.as_slice-5.result.now c.args.values.now.numbers shown ∙ c.requires.paired

pub join_as-requires-5-clause-counted : goal.join_as-requires-5-clause-counted
join_as-requires-5-clause-counted g c =
    let shown = map-id c.as_slice-5.result.now ∙ c.as_slice-5.ensures.value ∙ sym (ap numbers c.in-I8-match_each_native.is) ∙ c.values.ensures.shows in
    HasLength-arm _ _ _ _ c.validity-validity.ensures.form (length-arm (λ (n : ℤ). n) c.as_slice-5.result.now c.args.values.now.numbers shown) c.validity-validity.ensures.counted

pub join_as-requires-5-clause-zeroed : goal.join_as-requires-5-clause-zeroed
join_as-requires-5-clause-zeroed g c =
    let shown = map-id c.as_slice-5.result.now ∙ c.as_slice-5.ensures.value ∙ sym (ap numbers c.in-I8-match_each_native.is) ∙ c.values.ensures.shows in
    zeroed-arm (λ (n : ℤ). n) c.as_slice-5.result.now c.args.values.now.numbers _ _ shown c.validity-validity.ensures.form c.requires.computed.blanked

pub returns-in-I8-match_each_native-clause-only : goal.returns-in-I8-match_each_native-clause-only
returns-in-I8-match_each_native-clause-only g c = c.join_as-5.ensures.only

pub returns-in-I8-match_each_native-clause-joined : goal.returns-in-I8-match_each_native-clause-joined
returns-in-I8-match_each_native-clause-joined g c =
    let shown = map-id c.as_slice-5.result.now ∙ c.as_slice-5.ensures.value ∙ sym (ap numbers c.in-I8-match_each_native.is) ∙ c.values.ensures.shows in
    let typed = sym (ap ptype_of c.in-I8-match_each_native.is) ∙ c.values.ensures.typed in
    let same = same-primitive I8 (map (λ (n : ℤ). n) c.as_slice-5.result.now) (form_of c.validity-validity.result.now) c.args.values.now typed shown c.validity-validity.ensures.form in
    subst (λ (form : PrimitiveForm). IfOk c.join_as-5.result (λ parts. AreJoined (primitive_with g.E.NativePType.PTYPE (map g.E.NativePType.number c.args.ends.now) NeverNull) form c.args.offset c.args.count parts.0 parts.1)) same c.join_as-5.ensures.joined

pub join_as-requires-6-clause-fits : goal.join_as-requires-6-clause-fits
join_as-requires-6-clause-fits g c = c.requires.fits

pub join_as-requires-6-clause-window : goal.join_as-requires-6-clause-window
join_as-requires-6-clause-window g c = c.requires.window

pub join_as-requires-6-clause-shown : goal.join_as-requires-6-clause-shown
join_as-requires-6-clause-shown g c = c.requires.shown

pub join_as-requires-6-clause-paired : goal.join_as-requires-6-clause-paired
join_as-requires-6-clause-paired g c =
    let shown = map-id c.as_slice-6.result.now ∙ c.as_slice-6.ensures.value ∙ sym (ap numbers c.in-I16-match_each_native.is) ∙ c.values.ensures.shows in
    length-arm (λ (n : ℤ). n) c.as_slice-6.result.now c.args.values.now.numbers shown ∙ c.requires.paired

pub join_as-requires-6-clause-counted : goal.join_as-requires-6-clause-counted
join_as-requires-6-clause-counted g c =
    let shown = map-id c.as_slice-6.result.now ∙ c.as_slice-6.ensures.value ∙ sym (ap numbers c.in-I16-match_each_native.is) ∙ c.values.ensures.shows in
    HasLength-arm _ _ _ _ c.validity-validity.ensures.form (length-arm (λ (n : ℤ). n) c.as_slice-6.result.now c.args.values.now.numbers shown) c.validity-validity.ensures.counted

pub join_as-requires-6-clause-zeroed : goal.join_as-requires-6-clause-zeroed
join_as-requires-6-clause-zeroed g c =
    let shown = map-id c.as_slice-6.result.now ∙ c.as_slice-6.ensures.value ∙ sym (ap numbers c.in-I16-match_each_native.is) ∙ c.values.ensures.shows in
    zeroed-arm (λ (n : ℤ). n) c.as_slice-6.result.now c.args.values.now.numbers _ _ shown c.validity-validity.ensures.form c.requires.computed.blanked

pub returns-in-I16-match_each_native-clause-only : goal.returns-in-I16-match_each_native-clause-only
returns-in-I16-match_each_native-clause-only g c = c.join_as-6.ensures.only

pub returns-in-I16-match_each_native-clause-joined : goal.returns-in-I16-match_each_native-clause-joined
returns-in-I16-match_each_native-clause-joined g c =
    let shown = map-id c.as_slice-6.result.now ∙ c.as_slice-6.ensures.value ∙ sym (ap numbers c.in-I16-match_each_native.is) ∙ c.values.ensures.shows in
    let typed = sym (ap ptype_of c.in-I16-match_each_native.is) ∙ c.values.ensures.typed in
    let same = same-primitive I16 (map (λ (n : ℤ). n) c.as_slice-6.result.now) (form_of c.validity-validity.result.now) c.args.values.now typed shown c.validity-validity.ensures.form in
    subst (λ (form : PrimitiveForm). IfOk c.join_as-6.result (λ parts. AreJoined (primitive_with g.E.NativePType.PTYPE (map g.E.NativePType.number c.args.ends.now) NeverNull) form c.args.offset c.args.count parts.0 parts.1)) same c.join_as-6.ensures.joined

pub join_as-requires-7-clause-fits : goal.join_as-requires-7-clause-fits
join_as-requires-7-clause-fits g c = c.requires.fits

pub join_as-requires-7-clause-window : goal.join_as-requires-7-clause-window
join_as-requires-7-clause-window g c = c.requires.window

pub join_as-requires-7-clause-shown : goal.join_as-requires-7-clause-shown
join_as-requires-7-clause-shown g c = c.requires.shown

pub join_as-requires-7-clause-paired : goal.join_as-requires-7-clause-paired
join_as-requires-7-clause-paired g c =
    let shown = map-id c.as_slice-7.result.now ∙ c.as_slice-7.ensures.value ∙ sym (ap numbers c.in-I32-match_each_native.is) ∙ c.values.ensures.shows in
    length-arm (λ (n : ℤ). n) c.as_slice-7.result.now c.args.values.now.numbers shown ∙ c.requires.paired

pub join_as-requires-7-clause-counted : goal.join_as-requires-7-clause-counted
join_as-requires-7-clause-counted g c =
    let shown = map-id c.as_slice-7.result.now ∙ c.as_slice-7.ensures.value ∙ sym (ap numbers c.in-I32-match_each_native.is) ∙ c.values.ensures.shows in
    HasLength-arm _ _ _ _ c.validity-validity.ensures.form (length-arm (λ (n : ℤ). n) c.as_slice-7.result.now c.args.values.now.numbers shown) c.validity-validity.ensures.counted

pub join_as-requires-7-clause-zeroed : goal.join_as-requires-7-clause-zeroed
join_as-requires-7-clause-zeroed g c =
    let shown = map-id c.as_slice-7.result.now ∙ c.as_slice-7.ensures.value ∙ sym (ap numbers c.in-I32-match_each_native.is) ∙ c.values.ensures.shows in
    zeroed-arm (λ (n : ℤ). n) c.as_slice-7.result.now c.args.values.now.numbers _ _ shown c.validity-validity.ensures.form c.requires.computed.blanked

pub returns-in-I32-match_each_native-clause-only : goal.returns-in-I32-match_each_native-clause-only
returns-in-I32-match_each_native-clause-only g c = c.join_as-7.ensures.only

pub returns-in-I32-match_each_native-clause-joined : goal.returns-in-I32-match_each_native-clause-joined
returns-in-I32-match_each_native-clause-joined g c =
    let shown = map-id c.as_slice-7.result.now ∙ c.as_slice-7.ensures.value ∙ sym (ap numbers c.in-I32-match_each_native.is) ∙ c.values.ensures.shows in
    let typed = sym (ap ptype_of c.in-I32-match_each_native.is) ∙ c.values.ensures.typed in
    let same = same-primitive I32 (map (λ (n : ℤ). n) c.as_slice-7.result.now) (form_of c.validity-validity.result.now) c.args.values.now typed shown c.validity-validity.ensures.form in
    subst (λ (form : PrimitiveForm). IfOk c.join_as-7.result (λ parts. AreJoined (primitive_with g.E.NativePType.PTYPE (map g.E.NativePType.number c.args.ends.now) NeverNull) form c.args.offset c.args.count parts.0 parts.1)) same c.join_as-7.ensures.joined

pub join_as-requires-8-clause-fits : goal.join_as-requires-8-clause-fits
join_as-requires-8-clause-fits g c = c.requires.fits

pub join_as-requires-8-clause-window : goal.join_as-requires-8-clause-window
join_as-requires-8-clause-window g c = c.requires.window

pub join_as-requires-8-clause-shown : goal.join_as-requires-8-clause-shown
join_as-requires-8-clause-shown g c = c.requires.shown

pub join_as-requires-8-clause-paired : goal.join_as-requires-8-clause-paired
join_as-requires-8-clause-paired g c =
    let shown = map-id c.as_slice-8.result.now ∙ c.as_slice-8.ensures.value ∙ sym (ap numbers c.in-I64-match_each_native.is) ∙ c.values.ensures.shows in
    length-arm (λ (n : ℤ). n) c.as_slice-8.result.now c.args.values.now.numbers shown ∙ c.requires.paired

pub join_as-requires-8-clause-counted : goal.join_as-requires-8-clause-counted
join_as-requires-8-clause-counted g c =
    let shown = map-id c.as_slice-8.result.now ∙ c.as_slice-8.ensures.value ∙ sym (ap numbers c.in-I64-match_each_native.is) ∙ c.values.ensures.shows in
    HasLength-arm _ _ _ _ c.validity-validity.ensures.form (length-arm (λ (n : ℤ). n) c.as_slice-8.result.now c.args.values.now.numbers shown) c.validity-validity.ensures.counted

pub join_as-requires-8-clause-zeroed : goal.join_as-requires-8-clause-zeroed
join_as-requires-8-clause-zeroed g c =
    let shown = map-id c.as_slice-8.result.now ∙ c.as_slice-8.ensures.value ∙ sym (ap numbers c.in-I64-match_each_native.is) ∙ c.values.ensures.shows in
    zeroed-arm (λ (n : ℤ). n) c.as_slice-8.result.now c.args.values.now.numbers _ _ shown c.validity-validity.ensures.form c.requires.computed.blanked

pub returns-in-I64-match_each_native-clause-only : goal.returns-in-I64-match_each_native-clause-only
returns-in-I64-match_each_native-clause-only g c = c.join_as-8.ensures.only

pub returns-in-I64-match_each_native-clause-joined : goal.returns-in-I64-match_each_native-clause-joined
returns-in-I64-match_each_native-clause-joined g c =
    let shown = map-id c.as_slice-8.result.now ∙ c.as_slice-8.ensures.value ∙ sym (ap numbers c.in-I64-match_each_native.is) ∙ c.values.ensures.shows in
    let typed = sym (ap ptype_of c.in-I64-match_each_native.is) ∙ c.values.ensures.typed in
    let same = same-primitive I64 (map (λ (n : ℤ). n) c.as_slice-8.result.now) (form_of c.validity-validity.result.now) c.args.values.now typed shown c.validity-validity.ensures.form in
    subst (λ (form : PrimitiveForm). IfOk c.join_as-8.result (λ parts. AreJoined (primitive_with g.E.NativePType.PTYPE (map g.E.NativePType.number c.args.ends.now) NeverNull) form c.args.offset c.args.count parts.0 parts.1)) same c.join_as-8.ensures.joined
