use Rattle.std.proofs.Common.{ℕ, pos, List, map, sym, ap, subst, ◌∙◌}
use Rattle.std.specs.Prelude.{IfOk, unsigned_abs}
use Rattle.column_base.specs.Numbers.{numbers}
use Rattle.column_base.specs.Validity.{form_of}
use Rattle.runend_windows.specs.Window.{IsWindow}
use Rattle.runend_windows.specs.Decoding.{AreDecoded}
use Rattle.runend_windows.proofs.Arms.{length-arm}
use Rattle.runend_windows.proofs.decode.decode_rows.Goals as goal

pub decode_under-requires-clause-window : goal.decode_under-requires-clause-window
decode_under-requires-clause-window g c =
    let shown = ap (map pos) c.as_slice.ensures.value ∙ sym (ap numbers c.in-U8-match_each_unsigned.is) ∙ c.values.ensures.shows in
    subst (λ (ends : List ℕ). IsWindow ends c.args.offset c.args.count) (sym (ap (map unsigned_abs) shown)) c.requires.window

pub decode_under-requires-clause-paired : goal.decode_under-requires-clause-paired
decode_under-requires-clause-paired g c =
    let shown = ap (map pos) c.as_slice.ensures.value ∙ sym (ap numbers c.in-U8-match_each_unsigned.is) ∙ c.values.ensures.shows in
    c.requires.paired ∙ sym (length-arm pos c.as_slice.result.now c.args.ends.now.numbers shown)

pub decode_under-requires-clause-fits : goal.decode_under-requires-clause-fits
decode_under-requires-clause-fits g c = c.requires.fits

pub returns-in-U8-match_each_unsigned-clause-only : goal.returns-in-U8-match_each_unsigned-clause-only
returns-in-U8-match_each_unsigned-clause-only g c = c.decode_under.ensures.only

pub returns-in-U8-match_each_unsigned-clause-decoded : goal.returns-in-U8-match_each_unsigned-clause-decoded
returns-in-U8-match_each_unsigned-clause-decoded g c =
    let shown = ap (map pos) c.as_slice.ensures.value ∙ sym (ap numbers c.in-U8-match_each_unsigned.is) ∙ c.values.ensures.shows in
    subst (λ (ends : List ℕ). IfOk c.decode_under.result (λ parts. AreDecoded c.args.blank ends c.args.values.now (form_of c.args.validity.now) c.args.offset c.args.count parts.0.items (form_of parts.1)))
    (ap (map unsigned_abs) shown) c.decode_under.ensures.decoded

pub decode_under-requires-2-clause-window : goal.decode_under-requires-2-clause-window
decode_under-requires-2-clause-window g c =
    let shown = ap (map pos) c.as_slice-2.ensures.value ∙ sym (ap numbers c.in-U16-match_each_unsigned.is) ∙ c.values.ensures.shows in
    subst (λ (ends : List ℕ). IsWindow ends c.args.offset c.args.count) (sym (ap (map unsigned_abs) shown)) c.requires.window

pub decode_under-requires-2-clause-paired : goal.decode_under-requires-2-clause-paired
decode_under-requires-2-clause-paired g c =
    let shown = ap (map pos) c.as_slice-2.ensures.value ∙ sym (ap numbers c.in-U16-match_each_unsigned.is) ∙ c.values.ensures.shows in
    c.requires.paired ∙ sym (length-arm pos c.as_slice-2.result.now c.args.ends.now.numbers shown)

pub decode_under-requires-2-clause-fits : goal.decode_under-requires-2-clause-fits
decode_under-requires-2-clause-fits g c = c.requires.fits

pub returns-in-U16-match_each_unsigned-clause-only : goal.returns-in-U16-match_each_unsigned-clause-only
returns-in-U16-match_each_unsigned-clause-only g c = c.decode_under-2.ensures.only

pub returns-in-U16-match_each_unsigned-clause-decoded : goal.returns-in-U16-match_each_unsigned-clause-decoded
returns-in-U16-match_each_unsigned-clause-decoded g c =
    let shown = ap (map pos) c.as_slice-2.ensures.value ∙ sym (ap numbers c.in-U16-match_each_unsigned.is) ∙ c.values.ensures.shows in
    subst (λ (ends : List ℕ). IfOk c.decode_under-2.result (λ parts. AreDecoded c.args.blank ends c.args.values.now (form_of c.args.validity.now) c.args.offset c.args.count parts.0.items (form_of parts.1)))
    (ap (map unsigned_abs) shown) c.decode_under-2.ensures.decoded

pub decode_under-requires-3-clause-window : goal.decode_under-requires-3-clause-window
decode_under-requires-3-clause-window g c =
    let shown = ap (map pos) c.as_slice-3.ensures.value ∙ sym (ap numbers c.in-U32-match_each_unsigned.is) ∙ c.values.ensures.shows in
    subst (λ (ends : List ℕ). IsWindow ends c.args.offset c.args.count) (sym (ap (map unsigned_abs) shown)) c.requires.window

pub decode_under-requires-3-clause-paired : goal.decode_under-requires-3-clause-paired
decode_under-requires-3-clause-paired g c =
    let shown = ap (map pos) c.as_slice-3.ensures.value ∙ sym (ap numbers c.in-U32-match_each_unsigned.is) ∙ c.values.ensures.shows in
    c.requires.paired ∙ sym (length-arm pos c.as_slice-3.result.now c.args.ends.now.numbers shown)

pub decode_under-requires-3-clause-fits : goal.decode_under-requires-3-clause-fits
decode_under-requires-3-clause-fits g c = c.requires.fits

pub returns-in-U32-match_each_unsigned-clause-only : goal.returns-in-U32-match_each_unsigned-clause-only
returns-in-U32-match_each_unsigned-clause-only g c = c.decode_under-3.ensures.only

pub returns-in-U32-match_each_unsigned-clause-decoded : goal.returns-in-U32-match_each_unsigned-clause-decoded
returns-in-U32-match_each_unsigned-clause-decoded g c =
    let shown = ap (map pos) c.as_slice-3.ensures.value ∙ sym (ap numbers c.in-U32-match_each_unsigned.is) ∙ c.values.ensures.shows in
    subst (λ (ends : List ℕ). IfOk c.decode_under-3.result (λ parts. AreDecoded c.args.blank ends c.args.values.now (form_of c.args.validity.now) c.args.offset c.args.count parts.0.items (form_of parts.1)))
    (ap (map unsigned_abs) shown) c.decode_under-3.ensures.decoded

pub decode_under-requires-4-clause-window : goal.decode_under-requires-4-clause-window
decode_under-requires-4-clause-window g c =
    let shown = ap (map pos) c.as_slice-4.ensures.value ∙ sym (ap numbers c.in-U64-match_each_unsigned.is) ∙ c.values.ensures.shows in
    subst (λ (ends : List ℕ). IsWindow ends c.args.offset c.args.count) (sym (ap (map unsigned_abs) shown)) c.requires.window

pub decode_under-requires-4-clause-paired : goal.decode_under-requires-4-clause-paired
decode_under-requires-4-clause-paired g c =
    let shown = ap (map pos) c.as_slice-4.ensures.value ∙ sym (ap numbers c.in-U64-match_each_unsigned.is) ∙ c.values.ensures.shows in
    c.requires.paired ∙ sym (length-arm pos c.as_slice-4.result.now c.args.ends.now.numbers shown)

pub decode_under-requires-4-clause-fits : goal.decode_under-requires-4-clause-fits
decode_under-requires-4-clause-fits g c = c.requires.fits

pub returns-in-U64-match_each_unsigned-clause-only : goal.returns-in-U64-match_each_unsigned-clause-only
returns-in-U64-match_each_unsigned-clause-only g c = c.decode_under-4.ensures.only

pub returns-in-U64-match_each_unsigned-clause-decoded : goal.returns-in-U64-match_each_unsigned-clause-decoded
returns-in-U64-match_each_unsigned-clause-decoded g c =
    let shown = ap (map pos) c.as_slice-4.ensures.value ∙ sym (ap numbers c.in-U64-match_each_unsigned.is) ∙ c.values.ensures.shows in
    subst (λ (ends : List ℕ). IfOk c.decode_under-4.result (λ parts. AreDecoded c.args.blank ends c.args.values.now (form_of c.args.validity.now) c.args.offset c.args.count parts.0.items (form_of parts.1)))
    (ap (map unsigned_abs) shown) c.decode_under-4.ensures.decoded
