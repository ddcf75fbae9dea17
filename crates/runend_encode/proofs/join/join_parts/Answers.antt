use Rattle.std.proofs.Common.{ℕ, List, pos, map, sym, ap, subst, ◌∙◌}
use Rattle.std.specs.Prelude.{IfOk, unsigned_abs}
use Rattle.column_base.specs.declared.dtype.PType.TheVariants.{U8, U16, U32, U64}
use Rattle.column_base.specs.Numbers.{numbers, ptype_of}
use Rattle.column_base.specs.ValidityForm.{NeverNull}
use Rattle.column_core.specs.PrimitiveForm.{PrimitiveForm}
use Rattle.runend_windows.specs.Window.{IsWindow}
use Rattle.runend_windows.proofs.Arms.{length-arm, same-primitive}
use Rattle.runend_encode.specs.Joined.{AreJoined, AllHaveRows}
use Rattle.runend_encode.proofs.Fitting.{all_stored-8, all_stored-16, all_stored-32, all_stored-64}
use Rattle.runend_encode.proofs.RunReads.{never-of_ends}
use Rattle.runend_encode.proofs.join.join_parts.Goals as goal

pub join_values-requires-clause-fits : goal.join_values-requires-clause-fits
join_values-requires-clause-fits g c = all_stored-8 c.as_slice-stored.result.now c.type_inv.stored

pub join_values-requires-clause-window : goal.join_values-requires-clause-window
join_values-requires-clause-window g c =
    let shown = ap (map pos) c.as_slice-stored.ensures.value ∙ sym (ap numbers c.in-U8-match_each_unsigned.is) ∙ c.values.ensures.shows in
    subst (λ (ends : List ℕ). IsWindow ends c.args.offset c.args.count) (sym (ap (map unsigned_abs) shown)) c.requires.window

pub join_values-requires-clause-shown : goal.join_values-requires-clause-shown
join_values-requires-clause-shown g c =
    let shown = ap (map pos) c.as_slice-stored.ensures.value ∙ sym (ap numbers c.in-U8-match_each_unsigned.is) ∙ c.values.ensures.shows in
    subst (λ (ends : List ℕ). AllHaveRows ends c.args.offset c.args.count) (sym (ap (map unsigned_abs) shown)) c.requires.shown

pub join_values-requires-clause-paired : goal.join_values-requires-clause-paired
join_values-requires-clause-paired g c =
    let shown = ap (map pos) c.as_slice-stored.ensures.value ∙ sym (ap numbers c.in-U8-match_each_unsigned.is) ∙ c.values.ensures.shows in
    c.requires.paired ∙ sym (length-arm pos c.as_slice-stored.result.now c.args.ends.now.numbers shown)

pub join_values-requires-clause-computed : goal.join_values-requires-clause-computed
join_values-requires-clause-computed g c = c.requires.computed

pub returns-in-U8-match_each_unsigned-clause-only : goal.returns-in-U8-match_each_unsigned-clause-only
returns-in-U8-match_each_unsigned-clause-only g c = c.join_values.ensures.only

pub returns-in-U8-match_each_unsigned-clause-joined : goal.returns-in-U8-match_each_unsigned-clause-joined
returns-in-U8-match_each_unsigned-clause-joined g c =
    let shown = ap (map pos) c.as_slice-stored.ensures.value ∙ sym (ap numbers c.in-U8-match_each_unsigned.is) ∙ c.values.ensures.shows in
    let typed = sym (ap ptype_of c.in-U8-match_each_unsigned.is) ∙ c.values.ensures.typed in
    let never = never-of_ends c.args.ends.now.ptype c.args.ends.now.validity c.requires.plain in
    let same = same-primitive U8 (map pos c.as_slice-stored.result.now) NeverNull c.args.ends.now typed shown (sym never) in
    subst (λ (form : PrimitiveForm). IfOk c.join_values.result (λ parts. AreJoined form c.args.values.now c.args.offset c.args.count parts.0 parts.1)) same c.join_values.ensures.joined

pub join_values-requires-2-clause-fits : goal.join_values-requires-2-clause-fits
join_values-requires-2-clause-fits g c = all_stored-16 c.as_slice-stored-2.result.now c.type_inv.stored

pub join_values-requires-2-clause-window : goal.join_values-requires-2-clause-window
join_values-requires-2-clause-window g c =
    let shown = ap (map pos) c.as_slice-stored-2.ensures.value ∙ sym (ap numbers c.in-U16-match_each_unsigned.is) ∙ c.values.ensures.shows in
    subst (λ (ends : List ℕ). IsWindow ends c.args.offset c.args.count) (sym (ap (map unsigned_abs) shown)) c.requires.window

pub join_values-requires-2-clause-shown : goal.join_values-requires-2-clause-shown
join_values-requires-2-clause-shown g c =
    let shown = ap (map pos) c.as_slice-stored-2.ensures.value ∙ sym (ap numbers c.in-U16-match_each_unsigned.is) ∙ c.values.ensures.shows in
    subst (λ (ends : List ℕ). AllHaveRows ends c.args.offset c.args.count) (sym (ap (map unsigned_abs) shown)) c.requires.shown

pub join_values-requires-2-clause-paired : goal.join_values-requires-2-clause-paired
join_values-requires-2-clause-paired g c =
    let shown = ap (map pos) c.as_slice-stored-2.ensures.value ∙ sym (ap numbers c.in-U16-match_each_unsigned.is) ∙ c.values.ensures.shows in
    c.requires.paired ∙ sym (length-arm pos c.as_slice-stored-2.result.now c.args.ends.now.numbers shown)

pub join_values-requires-2-clause-computed : goal.join_values-requires-2-clause-computed
join_values-requires-2-clause-computed g c = c.requires.computed

pub returns-in-U16-match_each_unsigned-clause-only : goal.returns-in-U16-match_each_unsigned-clause-only
returns-in-U16-match_each_unsigned-clause-only g c = c.join_values-2.ensures.only

pub returns-in-U16-match_each_unsigned-clause-joined : goal.returns-in-U16-match_each_unsigned-clause-joined
returns-in-U16-match_each_unsigned-clause-joined g c =
    let shown = ap (map pos) c.as_slice-stored-2.ensures.value ∙ sym (ap numbers c.in-U16-match_each_unsigned.is) ∙ c.values.ensures.shows in
    let typed = sym (ap ptype_of c.in-U16-match_each_unsigned.is) ∙ c.values.ensures.typed in
    let never = never-of_ends c.args.ends.now.ptype c.args.ends.now.validity c.requires.plain in
    let same = same-primitive U16 (map pos c.as_slice-stored-2.result.now) NeverNull c.args.ends.now typed shown (sym never) in
    subst (λ (form : PrimitiveForm). IfOk c.join_values-2.result (λ parts. AreJoined form c.args.values.now c.args.offset c.args.count parts.0 parts.1)) same c.join_values-2.ensures.joined

pub join_values-requires-3-clause-fits : goal.join_values-requires-3-clause-fits
join_values-requires-3-clause-fits g c = all_stored-32 c.as_slice-stored-3.result.now c.type_inv.stored

pub join_values-requires-3-clause-window : goal.join_values-requires-3-clause-window
join_values-requires-3-clause-window g c =
    let shown = ap (map pos) c.as_slice-stored-3.ensures.value ∙ sym (ap numbers c.in-U32-match_each_unsigned.is) ∙ c.values.ensures.shows in
    subst (λ (ends : List ℕ). IsWindow ends c.args.offset c.args.count) (sym (ap (map unsigned_abs) shown)) c.requires.window

pub join_values-requires-3-clause-shown : goal.join_values-requires-3-clause-shown
join_values-requires-3-clause-shown g c =
    let shown = ap (map pos) c.as_slice-stored-3.ensures.value ∙ sym (ap numbers c.in-U32-match_each_unsigned.is) ∙ c.values.ensures.shows in
    subst (λ (ends : List ℕ). AllHaveRows ends c.args.offset c.args.count) (sym (ap (map unsigned_abs) shown)) c.requires.shown

pub join_values-requires-3-clause-paired : goal.join_values-requires-3-clause-paired
join_values-requires-3-clause-paired g c =
    let shown = ap (map pos) c.as_slice-stored-3.ensures.value ∙ sym (ap numbers c.in-U32-match_each_unsigned.is) ∙ c.values.ensures.shows in
    c.requires.paired ∙ sym (length-arm pos c.as_slice-stored-3.result.now c.args.ends.now.numbers shown)

pub join_values-requires-3-clause-computed : goal.join_values-requires-3-clause-computed
join_values-requires-3-clause-computed g c = c.requires.computed

pub returns-in-U32-match_each_unsigned-clause-only : goal.returns-in-U32-match_each_unsigned-clause-only
returns-in-U32-match_each_unsigned-clause-only g c = c.join_values-3.ensures.only

pub returns-in-U32-match_each_unsigned-clause-joined : goal.returns-in-U32-match_each_unsigned-clause-joined
returns-in-U32-match_each_unsigned-clause-joined g c =
    let shown = ap (map pos) c.as_slice-stored-3.ensures.value ∙ sym (ap numbers c.in-U32-match_each_unsigned.is) ∙ c.values.ensures.shows in
    let typed = sym (ap ptype_of c.in-U32-match_each_unsigned.is) ∙ c.values.ensures.typed in
    let never = never-of_ends c.args.ends.now.ptype c.args.ends.now.validity c.requires.plain in
    let same = same-primitive U32 (map pos c.as_slice-stored-3.result.now) NeverNull c.args.ends.now typed shown (sym never) in
    subst (λ (form : PrimitiveForm). IfOk c.join_values-3.result (λ parts. AreJoined form c.args.values.now c.args.offset c.args.count parts.0 parts.1)) same c.join_values-3.ensures.joined

pub join_values-requires-4-clause-fits : goal.join_values-requires-4-clause-fits
join_values-requires-4-clause-fits g c = all_stored-64 c.as_slice-stored-4.result.now c.type_inv.stored

pub join_values-requires-4-clause-window : goal.join_values-requires-4-clause-window
join_values-requires-4-clause-window g c =
    let shown = ap (map pos) c.as_slice-stored-4.ensures.value ∙ sym (ap numbers c.in-U64-match_each_unsigned.is) ∙ c.values.ensures.shows in
    subst (λ (ends : List ℕ). IsWindow ends c.args.offset c.args.count) (sym (ap (map unsigned_abs) shown)) c.requires.window

pub join_values-requires-4-clause-shown : goal.join_values-requires-4-clause-shown
join_values-requires-4-clause-shown g c =
    let shown = ap (map pos) c.as_slice-stored-4.ensures.value ∙ sym (ap numbers c.in-U64-match_each_unsigned.is) ∙ c.values.ensures.shows in
    subst (λ (ends : List ℕ). AllHaveRows ends c.args.offset c.args.count) (sym (ap (map unsigned_abs) shown)) c.requires.shown

pub join_values-requires-4-clause-paired : goal.join_values-requires-4-clause-paired
join_values-requires-4-clause-paired g c =
    let shown = ap (map pos) c.as_slice-stored-4.ensures.value ∙ sym (ap numbers c.in-U64-match_each_unsigned.is) ∙ c.values.ensures.shows in
    c.requires.paired ∙ sym (length-arm pos c.as_slice-stored-4.result.now c.args.ends.now.numbers shown)

pub join_values-requires-4-clause-computed : goal.join_values-requires-4-clause-computed
join_values-requires-4-clause-computed g c = c.requires.computed

pub returns-in-U64-match_each_unsigned-clause-only : goal.returns-in-U64-match_each_unsigned-clause-only
returns-in-U64-match_each_unsigned-clause-only g c = c.join_values-4.ensures.only

pub returns-in-U64-match_each_unsigned-clause-joined : goal.returns-in-U64-match_each_unsigned-clause-joined
returns-in-U64-match_each_unsigned-clause-joined g c =
    let shown = ap (map pos) c.as_slice-stored-4.ensures.value ∙ sym (ap numbers c.in-U64-match_each_unsigned.is) ∙ c.values.ensures.shows in
    let typed = sym (ap ptype_of c.in-U64-match_each_unsigned.is) ∙ c.values.ensures.typed in
    let never = never-of_ends c.args.ends.now.ptype c.args.ends.now.validity c.requires.plain in
    let same = same-primitive U64 (map pos c.as_slice-stored-4.result.now) NeverNull c.args.ends.now typed shown (sym never) in
    subst (λ (form : PrimitiveForm). IfOk c.join_values-4.result (λ parts. AreJoined form c.args.values.now c.args.offset c.args.count parts.0 parts.1)) same c.join_values-4.ensures.joined
