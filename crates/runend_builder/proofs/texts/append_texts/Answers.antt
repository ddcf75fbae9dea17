use Rattle.std.proofs.Common.{◌≡◌, ◌∙◌, ◌++◌, ℕ, List, [], ◌∷◌, length, map, sym, ap}
use Rattle.std.specs.Prelude.{slice_range}
use Rattle.runend_builder.specs.Spans.{moved_view}
use Rattle.runend_builder.specs.Texts.{texts_of}
use Rattle.runend_builder.proofs.Moved.{AreMoved, both_either, both_ok, cut_kept, moved_all, one_buffer, part_shown, part_texts, part_within}
use Rattle.runend_builder.proofs.texts.append_texts.Given as given
use Rattle.runend_builder.proofs.texts.append_texts.Goals as goal

moved : (g : given.Over) (c : goal.After-push_span g) → c.push_span.new.views.items ≡ c.args.items.now.views.items
    ++ map (moved_view c.in-Some.span.start (length c.args.items.now.bytes.items)) (slice_range c.views.result.now c.args.start (length c.views.result.now))
    → c.push_span.new.bytes.items ≡ c.args.items.now.bytes.items ++ slice_range c.as_slice-in-Some.result.now c.in-Some.span.start c.in-Some.span.end
    → AreMoved c.args.items.now.kind c.args.items.now.bytes.items c.as_slice.result.now c.push_span.new.bytes.items c.args.items.now.views.items
    (slice_range c.views.result.now c.args.start (length c.views.result.now)) c.push_span.new.views.items
moved g c pushed grown =
    let old = c.args.items.now in
    let first = c.in-Some.span.start in
    let last = c.in-Some.span.end in
    let one = one_buffer c.args.part.now.buffers c.buffers.result.now c.buffer-item.result c.as_slice.result.now c.buffers.ensures c.in-len1.len_at_least c.in-len1.len_below c.buffer-item.is c.as_slice.ensures in
    let same : c.as_slice-in-Some.result.now ≡ c.as_slice.result.now = c.as_slice-in-Some.ensures ∙ sym c.as_slice.ensures in
    moved_all old.kind old.bytes.items c.as_slice.result.now c.push_span.new.bytes.items old.views.items (slice_range c.views.result.now c.args.start (length c.views.result.now))
    c.push_span.new.views.items first last c.in-Some.ensures.ordered c.in-Some.ensures.within c.requires.cut
    (part_texts c.args.part.now old.kind c.as_slice.result.now c.views.result.now c.args.start c.views.ensures.accepted c.requires.blank c.requires.kind one c.views.ensures.stored)
    c.in-Some.ensures.texts (grown ∙ ap (λ (bytes : List ℕ). old.bytes.items ++ slice_range bytes first last) same) pushed

pub span_of-requires : goal.span_of-requires
span_of-requires g c =
    let one = one_buffer c.args.part.now.buffers c.buffers.result.now c.buffer-item.result c.as_slice.result.now c.buffers.ensures c.in-len1.len_at_least c.in-len1.len_below c.buffer-item.is c.as_slice.ensures in
    part_within c.args.part.now c.as_slice.result.now c.views.result.now c.args.start c.views.ensures.accepted c.requires.blank one c.views.ensures.stored

pub returns-in-Some-clause-texts : goal.returns-in-Some-clause-texts
returns-in-Some-clause-texts g c =
    let part = c.args.part.now in
    let one = one_buffer c.args.part.now.buffers c.buffers.result.now c.buffer-item.result c.as_slice.result.now c.buffers.ensures c.in-len1.len_at_least c.in-len1.len_below c.buffer-item.is c.as_slice.ensures in
    let own = texts_of (c.args.items.now.bytes.items ∷ []) c.args.items.now.views.items in
    both_ok c.push_span.result _ _ _ c.push_span.ensures.views c.push_span.ensures.bytes
    (λ pushed grown. (moved g c pushed grown).texts ∙ ap (λ (texts : List (List ℕ)). own ++ texts) (part_shown part c.as_slice.result.now c.views.result.now c.args.start one c.views.ensures.stored))

pub returns-in-Some-clause-cut : goal.returns-in-Some-clause-cut
returns-in-Some-clause-cut g c =
    let old = c.args.items.now in
    both_either c.push_span.result _ _ _ _ _ c.push_span.ensures.views c.push_span.ensures.bytes c.push_span.ensures.kept_views c.push_span.ensures.kept_bytes
    (λ pushed grown. (moved g c pushed grown).cut)
    (λ views bytes. cut_kept old.kind old.bytes.items c.push_span.new.bytes.items old.views.items c.push_span.new.views.items c.requires.cut views bytes)
