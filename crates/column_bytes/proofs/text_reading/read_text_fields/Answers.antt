use Rattle.std.proofs.Common.{arith}
use Rattle.std.proofs.lemmas.Result.{IfOk-weaker, err_from_is_err_and}
use Rattle.column_base.specs.Validity.{form_of}
use Rattle.column_fields.proofs.Refusals.{same_error}
use Rattle.column_bytes.proofs.TextLaws.{no_validity, no_items, no_texts, texts_of}
use Rattle.column_bytes.proofs.text_reading.read_text_fields.Goals as goal

pub returns-in_err-validity-clause-bad : goal.returns-in_err-validity-clause-bad
returns-in_err-validity-clause-bad g c =
    let p = err_from_is_err_and c.from_residual.result c.from_residual.ensures.1 in
    rw (p.1, p.2) (λ e. no_validity c.args.kind c.args.rows c.args.bytes.now (c.in_err-validity.ensures.bad (same_error _ _ e)))

pub returns-in-None-clause-bad : goal.returns-in-None-clause-bad
returns-in-None-clause-bad g c =
    λ _. no_items c.args.kind c.args.rows (form_of c.in_ok-validity.validity) c.args.bytes.now c.in_ok-validity.rest.now (omega arith) (omega arith) c.in_ok-validity.ensures.counted c.in_ok-validity.ensures.found c.in-None.ensures.none

pub returns-in-Some-clause-found : goal.returns-in-Some-clause-found
returns-in-Some-clause-found g c =
    IfOk-weaker c.read_rows.result _ _ (λ array h. texts_of c.args.kind c.args.rows (form_of c.in_ok-validity.validity) c.args.bytes.now c.in_ok-validity.rest.now c.in-Some.sizes.now c.in-Some.content.now array (omega arith) c.in_ok-validity.ensures.counted c.in_ok-validity.ensures.found c.in-Some.ensures.found c.in-Some.ensures.small.1 h) c.read_rows.ensures.found

pub returns-in-Some-clause-bad : goal.returns-in-Some-clause-bad
returns-in-Some-clause-bad g c =
    λ e. no_texts c.args.kind c.args.rows (form_of c.in_ok-validity.validity) c.args.bytes.now c.in_ok-validity.rest.now c.in-Some.sizes.now c.in-Some.content.now (omega arith) (omega arith) c.in_ok-validity.ensures.counted c.in_ok-validity.ensures.found c.in-Some.ensures.found c.in-Some.ensures.small.0 c.in-Some.ensures.small.1 (c.read_rows.ensures.bad e)
