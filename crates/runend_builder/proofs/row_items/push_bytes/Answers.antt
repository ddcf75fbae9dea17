use Rattle.runend_builder.proofs.Cuts.{cuts_next, texts_next}
use Rattle.runend_builder.proofs.Moved.{both_either, both_ok, cut_kept}
use Rattle.runend_builder.proofs.row_items.push_bytes.Goals as goal

pub returns-clause-texts : goal.returns-clause-texts
returns-clause-texts g c =
    let old = c.args.texts.now in
    let new = c.push_text.new in
    both_ok c.push_text.result _ _ _ c.push_text.ensures.view c.push_text.ensures.bytes
    (λ view bytes. texts_next old.kind old.bytes.items c.args.text.now new.bytes.items old.views.items new.views.items c.requires.cut view bytes)

pub returns-clause-cut : goal.returns-clause-cut
returns-clause-cut g c =
    let old = c.args.texts.now in
    let new = c.push_text.new in
    both_either c.push_text.result _ _ _ _ _ c.push_text.ensures.view c.push_text.ensures.bytes c.push_text.ensures.kept_views c.push_text.ensures.kept_bytes
    (λ view bytes. cuts_next old.kind old.bytes.items c.args.text.now new.bytes.items old.views.items new.views.items c.requires.cut c.requires.of_kind view bytes)
    (λ views bytes. cut_kept old.kind old.bytes.items new.bytes.items old.views.items new.views.items c.requires.cut views bytes)
