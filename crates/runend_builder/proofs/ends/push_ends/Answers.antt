use Rattle.std.proofs.Common.{◌≡◌, ◌∙◌, ◌+◌, ◌^◌, ◌<◌, ◌++◌, ℕ, List, pos, map, sym, ap, subst}
use Rattle.std.specs.Prelude.{All}
use Rattle.column_base.specs.Numbers.{numbers}
use Rattle.runend_builder.specs.Encodings.{behind}
use Rattle.runend_windows.proofs.Ends.{numbers_stored}
use Rattle.runend_builder.proofs.ends.push_ends.Goals as goal

pub push_stored-requires-clause-small : goal.push_stored-requires-clause-small
push_stored-requires-clause-small g c =
    let shown = ap (map pos) c.as_slice.ensures.value ∙ sym (ap numbers c.in-U8-match_each_unsigned.is) ∙ c.values.ensures.shows in
    subst (λ (ends : List ℕ). All (λ end. c.args.count + end < 2 ^ 64) ends) (sym (numbers_stored c.as_slice.result.now c.args.part.now.numbers shown)) c.requires.small

pub returns-in-U8-match_each_unsigned : goal.returns-in-U8-match_each_unsigned
returns-in-U8-match_each_unsigned g c =
    let shown = ap (map pos) c.as_slice.ensures.value ∙ sym (ap numbers c.in-U8-match_each_unsigned.is) ∙ c.values.ensures.shows in
    c.push_stored.ensures ∙ ap (λ (ends : List ℕ). c.args.ends.now.items ++ behind c.args.count ends) (numbers_stored c.as_slice.result.now c.args.part.now.numbers shown)

pub push_stored-requires-2-clause-small : goal.push_stored-requires-2-clause-small
push_stored-requires-2-clause-small g c =
    let shown = ap (map pos) c.as_slice-2.ensures.value ∙ sym (ap numbers c.in-U16-match_each_unsigned.is) ∙ c.values.ensures.shows in
    subst (λ (ends : List ℕ). All (λ end. c.args.count + end < 2 ^ 64) ends) (sym (numbers_stored c.as_slice-2.result.now c.args.part.now.numbers shown)) c.requires.small

pub returns-in-U16-match_each_unsigned : goal.returns-in-U16-match_each_unsigned
returns-in-U16-match_each_unsigned g c =
    let shown = ap (map pos) c.as_slice-2.ensures.value ∙ sym (ap numbers c.in-U16-match_each_unsigned.is) ∙ c.values.ensures.shows in
    c.push_stored-2.ensures ∙ ap (λ (ends : List ℕ). c.args.ends.now.items ++ behind c.args.count ends) (numbers_stored c.as_slice-2.result.now c.args.part.now.numbers shown)

pub push_stored-requires-3-clause-small : goal.push_stored-requires-3-clause-small
push_stored-requires-3-clause-small g c =
    let shown = ap (map pos) c.as_slice-3.ensures.value ∙ sym (ap numbers c.in-U32-match_each_unsigned.is) ∙ c.values.ensures.shows in
    subst (λ (ends : List ℕ). All (λ end. c.args.count + end < 2 ^ 64) ends) (sym (numbers_stored c.as_slice-3.result.now c.args.part.now.numbers shown)) c.requires.small

pub returns-in-U32-match_each_unsigned : goal.returns-in-U32-match_each_unsigned
returns-in-U32-match_each_unsigned g c =
    let shown = ap (map pos) c.as_slice-3.ensures.value ∙ sym (ap numbers c.in-U32-match_each_unsigned.is) ∙ c.values.ensures.shows in
    c.push_stored-3.ensures ∙ ap (λ (ends : List ℕ). c.args.ends.now.items ++ behind c.args.count ends) (numbers_stored c.as_slice-3.result.now c.args.part.now.numbers shown)

pub push_stored-requires-4-clause-small : goal.push_stored-requires-4-clause-small
push_stored-requires-4-clause-small g c =
    let shown = ap (map pos) c.as_slice-4.ensures.value ∙ sym (ap numbers c.in-U64-match_each_unsigned.is) ∙ c.values.ensures.shows in
    subst (λ (ends : List ℕ). All (λ end. c.args.count + end < 2 ^ 64) ends) (sym (numbers_stored c.as_slice-4.result.now c.args.part.now.numbers shown)) c.requires.small

pub returns-in-U64-match_each_unsigned : goal.returns-in-U64-match_each_unsigned
returns-in-U64-match_each_unsigned g c =
    let shown = ap (map pos) c.as_slice-4.ensures.value ∙ sym (ap numbers c.in-U64-match_each_unsigned.is) ∙ c.values.ensures.shows in
    c.push_stored-4.ensures ∙ ap (λ (ends : List ℕ). c.args.ends.now.items ++ behind c.args.count ends) (numbers_stored c.as_slice-4.result.now c.args.part.now.numbers shown)
