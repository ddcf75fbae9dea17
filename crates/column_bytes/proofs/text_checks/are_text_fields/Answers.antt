use Rattle.std.proofs.Common.{arith}
use Rattle.std.proofs.lemmas.Bool.{OnTrue_at, OnTrue_from, OnFalse_at, OnFalse_from}
use Rattle.column_fields.specs.ValidityViews.{form_in}
use Rattle.column_bytes.proofs.TextLaws.{no_validity, no_items, no_texts, texts_of}
use Rattle.column_bytes.proofs.text_checks.are_text_fields.Goals as goal

pub returns-in_default-clause-no : goal.returns-in_default-clause-no
returns-in_default-clause-no c = no_validity c.args.kind c.args.rows c.args.bytes.now c.in_default.ensures.none

pub returns-in_default-read_text_items-clause-no : goal.returns-in_default-read_text_items-clause-no
returns-in_default-read_text_items-clause-no c =
    no_items c.args.kind c.args.rows (form_in c.args.rows c.in-Some.validity) c.args.bytes.now c.in-Some.rest.now (omega arith) (omega arith) c.in-Some.ensures.counted c.in-Some.ensures.found c.in_default-read_text_items.ensures.none

pub returns-clause-yes : goal.returns-clause-yes
returns-clause-yes c =
    let s = c.in-Some-read_text_items in
    OnTrue_from c.are_rows.result _ (λ e.
    let h = OnTrue_at e c.are_rows.ensures.yes in
    (h.0, texts_of c.args.kind c.args.rows (form_in c.args.rows c.in-Some.validity) c.args.bytes.now c.in-Some.rest.now s.sizes.now s.content.now h.0 (omega arith) c.in-Some.ensures.counted c.in-Some.ensures.found s.ensures.found s.ensures.small.1 h.1))

pub returns-clause-no : goal.returns-clause-no
returns-clause-no c =
    let s = c.in-Some-read_text_items in
    OnFalse_from c.are_rows.result _ (λ e. no_texts c.args.kind c.args.rows (form_in c.args.rows c.in-Some.validity) c.args.bytes.now c.in-Some.rest.now s.sizes.now s.content.now (omega arith) (omega arith) c.in-Some.ensures.counted c.in-Some.ensures.found s.ensures.found s.ensures.small.0 s.ensures.small.1 (OnFalse_at e c.are_rows.ensures.no))
