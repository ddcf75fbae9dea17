use Rattle.std.proofs.Common.{◌≡◌, ◌++◌, [], ◌∷◌, drop, arith}
use Rattle.std.proofs.lemmas.List.{length-map}
use Rattle.column_core.specs.VarBinForm.{view_bytes}
use Rattle.runend_builder.specs.Texts.{text_view, texts_of}
use Rattle.runend_builder.proofs.Cuts.{cuts_next, text_there, texts_next}
use Rattle.runend_builder.proofs.Lists.{first_kept, first_stay, rest_all, rest_next}
use Rattle.runend_builder.proofs.texts.push_texts.Goals as goal

pub loop-row-preserved : goal.loop-row-preserved
loop-row-preserved g c =
    let part = c.args.part.now in
    let old_views = c.args.views.now.items in
    let old_bytes = c.args.bytes.now.items in
    let views = c.loop-row.views.items in
    let bytes = c.loop-row.bytes.items in
    let next = c.push_text.new.views.items in
    let grown = c.push_text.new.bytes.items in
    let text = c.text_at.result.now in
    let kept = c.loop-row.invariant in
    let pushed : next ≡ views ++ text_view bytes text ∷ [] = c.in_ok-push_text.ensures.view in
    let extended : grown ≡ bytes ++ text = c.in_ok-push_text.ensures.bytes in
    let stay_views = first_stay old_views views next (text_view bytes text ∷ []) kept.long_views kept.first_views pushed in
    let stay_bytes = first_stay old_bytes bytes grown text kept.long_bytes kept.first_bytes extended in
    record {
      rest = rest_next (texts_of part.buffers part.views) (texts_of (bytes ∷ []) views) (texts_of (grown ∷ []) next) (texts_of (old_bytes ∷ []) old_views ++ drop c.args.start (texts_of part.buffers part.views))
          c.loop-row.row text (text_there part.buffers part.views c.loop-row.row text (omega arith) c.text_at.ensures.text) kept.rest (texts_next part.kind bytes text grown views next kept.cut pushed extended);
      within = omega arith;
      cut = cuts_next part.kind bytes text grown views next kept.cut c.text_at.ensures.of_kind pushed extended;
      long_views = stay_views.0;
      first_views = stay_views.1;
      long_bytes = stay_bytes.0;
      first_bytes = stay_bytes.1;
    }

pub returns-in_err-push_text-clause-first_views : goal.returns-in_err-push_text-clause-first_views
returns-in_err-push_text-clause-first_views g c = first_kept c.args.views.now.items c.loop-row.views.items c.push_text.new.views.items c.loop-row.invariant.first_views c.in_err-push_text.ensures.kept_views

pub returns-in_err-push_text-clause-first_bytes : goal.returns-in_err-push_text-clause-first_bytes
returns-in_err-push_text-clause-first_bytes g c = first_kept c.args.bytes.now.items c.loop-row.bytes.items c.push_text.new.bytes.items c.loop-row.invariant.first_bytes c.in_err-push_text.ensures.kept_bytes

pub returns-clause-texts : goal.returns-clause-texts
returns-clause-texts g c =
    let part = c.args.part.now in
    let long = length-map part.views (view_bytes part.buffers) in
    rest_all (texts_of part.buffers part.views) (texts_of (c.loop-row.bytes.items ∷ []) c.loop-row.views.items)
    (texts_of (c.args.bytes.now.items ∷ []) c.args.views.now.items ++ drop c.args.start (texts_of part.buffers part.views)) c.loop-row.row (omega arith) c.loop-row.invariant.rest
