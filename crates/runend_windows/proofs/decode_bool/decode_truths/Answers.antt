use Rattle.std.proofs.Common.{ℕ, pos, List, map, sym, ap, subst, ◌∙◌}
use Rattle.std.specs.Prelude.{IfOk, unsigned_abs}
use Rattle.column_base.specs.Numbers.{numbers}
use Rattle.column_core.specs.Leaf.{OfTruths}
use Rattle.runend_windows.specs.Window.{IsWindow}
use Rattle.runend_windows.specs.Encoding.{IsDecodedLeaf}
use Rattle.runend_windows.proofs.Arms.{length-arm}
use Rattle.runend_windows.proofs.decode_bool.decode_truths.Goals as goal

pub decode_under-requires-clause-window : goal.decode_under-requires-clause-window
decode_under-requires-clause-window g c =
    let shown = ap (map pos) c.as_slice.ensures.value ∙ sym (ap numbers c.in-U8-match_each_unsigned.is) ∙ c.values.ensures.shows in
    subst (λ (ends : List ℕ). IsWindow ends c.args.offset c.args.count) (sym (ap (map unsigned_abs) shown)) c.requires.window

pub decode_under-requires-clause-paired : goal.decode_under-requires-clause-paired
decode_under-requires-clause-paired g c =
    let shown = ap (map pos) c.as_slice.ensures.value ∙ sym (ap numbers c.in-U8-match_each_unsigned.is) ∙ c.values.ensures.shows in
    c.requires.paired ∙ sym (length-arm pos c.as_slice.result.now c.args.ends.now.numbers shown)

pub returns-in-U8-match_each_unsigned-clause-only : goal.returns-in-U8-match_each_unsigned-clause-only
returns-in-U8-match_each_unsigned-clause-only g c = c.decode_under.ensures.only

pub returns-in-U8-match_each_unsigned-clause-flat : goal.returns-in-U8-match_each_unsigned-clause-flat
returns-in-U8-match_each_unsigned-clause-flat g c =
    let shown = ap (map pos) c.as_slice.ensures.value ∙ sym (ap numbers c.in-U8-match_each_unsigned.is) ∙ c.values.ensures.shows in
    subst (λ (ends : List ℕ). IfOk c.decode_under.result (λ array. IsDecodedLeaf ends (OfTruths c.args.values.now) c.args.offset c.args.count (OfTruths array))) (ap (map unsigned_abs) shown) c.decode_under.ensures.flat

pub decode_under-requires-2-clause-window : goal.decode_under-requires-2-clause-window
decode_under-requires-2-clause-window g c =
    let shown = ap (map pos) c.as_slice-2.ensures.value ∙ sym (ap numbers c.in-U16-match_each_unsigned.is) ∙ c.values.ensures.shows in
    subst (λ (ends : List ℕ). IsWindow ends c.args.offset c.args.count) (sym (ap (map unsigned_abs) shown)) c.requires.window

pub decode_under-requires-2-clause-paired : goal.decode_under-requires-2-clause-paired
decode_under-requires-2-clause-paired g c =
    let shown = ap (map pos) c.as_slice-2.ensures.value ∙ sym (ap numbers c.in-U16-match_each_unsigned.is) ∙ c.values.ensures.shows in
    c.requires.paired ∙ sym (length-arm pos c.as_slice-2.result.now c.args.ends.now.numbers shown)

pub returns-in-U16-match_each_unsigned-clause-only : goal.returns-in-U16-match_each_unsigned-clause-only
returns-in-U16-match_each_unsigned-clause-only g c = c.decode_under-2.ensures.only

pub returns-in-U16-match_each_unsigned-clause-flat : goal.returns-in-U16-match_each_unsigned-clause-flat
returns-in-U16-match_each_unsigned-clause-flat g c =
    let shown = ap (map pos) c.as_slice-2.ensures.value ∙ sym (ap numbers c.in-U16-match_each_unsigned.is) ∙ c.values.ensures.shows in
    subst (λ (ends : List ℕ). IfOk c.decode_under-2.result (λ array. IsDecodedLeaf ends (OfTruths c.args.values.now) c.args.offset c.args.count (OfTruths array))) (ap (map unsigned_abs) shown) c.decode_under-2.ensures.flat

pub decode_under-requires-3-clause-window : goal.decode_under-requires-3-clause-window
decode_under-requires-3-clause-window g c =
    let shown = ap (map pos) c.as_slice-3.ensures.value ∙ sym (ap numbers c.in-U32-match_each_unsigned.is) ∙ c.values.ensures.shows in
    subst (λ (ends : List ℕ). IsWindow ends c.args.offset c.args.count) (sym (ap (map unsigned_abs) shown)) c.requires.window

pub decode_under-requires-3-clause-paired : goal.decode_under-requires-3-clause-paired
decode_under-requires-3-clause-paired g c =
    let shown = ap (map pos) c.as_slice-3.ensures.value ∙ sym (ap numbers c.in-U32-match_each_unsigned.is) ∙ c.values.ensures.shows in
    c.requires.paired ∙ sym (length-arm pos c.as_slice-3.result.now c.args.ends.now.numbers shown)

pub returns-in-U32-match_each_unsigned-clause-only : goal.returns-in-U32-match_each_unsigned-clause-only
returns-in-U32-match_each_unsigned-clause-only g c = c.decode_under-3.ensures.only

pub returns-in-U32-match_each_unsigned-clause-flat : goal.returns-in-U32-match_each_unsigned-clause-flat
returns-in-U32-match_each_unsigned-clause-flat g c =
    let shown = ap (map pos) c.as_slice-3.ensures.value ∙ sym (ap numbers c.in-U32-match_each_unsigned.is) ∙ c.values.ensures.shows in
    subst (λ (ends : List ℕ). IfOk c.decode_under-3.result (λ array. IsDecodedLeaf ends (OfTruths c.args.values.now) c.args.offset c.args.count (OfTruths array))) (ap (map unsigned_abs) shown) c.decode_under-3.ensures.flat

pub decode_under-requires-4-clause-window : goal.decode_under-requires-4-clause-window
decode_under-requires-4-clause-window g c =
    let shown = ap (map pos) c.as_slice-4.ensures.value ∙ sym (ap numbers c.in-U64-match_each_unsigned.is) ∙ c.values.ensures.shows in
    subst (λ (ends : List ℕ). IsWindow ends c.args.offset c.args.count) (sym (ap (map unsigned_abs) shown)) c.requires.window

pub decode_under-requires-4-clause-paired : goal.decode_under-requires-4-clause-paired
decode_under-requires-4-clause-paired g c =
    let shown = ap (map pos) c.as_slice-4.ensures.value ∙ sym (ap numbers c.in-U64-match_each_unsigned.is) ∙ c.values.ensures.shows in
    c.requires.paired ∙ sym (length-arm pos c.as_slice-4.result.now c.args.ends.now.numbers shown)

pub returns-in-U64-match_each_unsigned-clause-only : goal.returns-in-U64-match_each_unsigned-clause-only
returns-in-U64-match_each_unsigned-clause-only g c = c.decode_under-4.ensures.only

pub returns-in-U64-match_each_unsigned-clause-flat : goal.returns-in-U64-match_each_unsigned-clause-flat
returns-in-U64-match_each_unsigned-clause-flat g c =
    let shown = ap (map pos) c.as_slice-4.ensures.value ∙ sym (ap numbers c.in-U64-match_each_unsigned.is) ∙ c.values.ensures.shows in
    subst (λ (ends : List ℕ). IfOk c.decode_under-4.result (λ array. IsDecodedLeaf ends (OfTruths c.args.values.now) c.args.offset c.args.count (OfTruths array))) (ap (map unsigned_abs) shown) c.decode_under-4.ensures.flat
