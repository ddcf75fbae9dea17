use Rattle.std.proofs.Common.{arith, subst, Bool}
use Rattle.std.proofs.lemmas.Bool.{OnTrue_at, OnFalse_at}
use Rattle.std.specs.Prelude.{slice_range, ◌+◌}
use Rattle.column_fields.specs.ValidityViews.{form_in}
use Rattle.column_fields.proofs.HeldNumbers.{view_length}
use Rattle.column_bytes.specs.TextReading.{FitsRow}
use Rattle.column_bytes.proofs.TextChecks.{rows_none, rows_more, rows_all, rows_no_size, rows_too_many, rows_left_over, rows_unfit}
use Rattle.column_bytes.proofs.text_checks.are_rows.Goals as goal
use Rattle.column_bytes.proofs.text_checks.are_rows.Goals.{then-rest-ne0-via-then-rest-ne0, then-rest-ne0-via-else-rest-ne0+then-start-content}

pub loop-row-init : goal.loop-row-init
loop-row-init c = record {
  rows = rows_none c.args.kind (form_in c.args.rows c.args.validity) c.args.content.now c.args.sizes.now;
  within = omega arith;
}

pub returns-in_default-clause-no : goal.returns-in_default-clause-no
returns-in_default-clause-no c =
    rows_no_size c.args.kind c.args.rows (form_in c.args.rows c.args.validity) c.args.sizes.now c.args.content.now c.loop-row.rest.now c.loop-row.start c.loop-row.row c.loop-row.invariant.rows (omega arith) (omega arith) (omega (arith, c.loop-row-test.true)) c.in_default.ensures.none

pub returns-then-size-content-clause-no : goal.returns-then-size-content-clause-no
returns-then-size-content-clause-no c =
    rows_too_many c.args.kind c.args.rows (form_in c.args.rows c.args.validity) c.args.sizes.now c.args.content.now c.loop-row.rest.now c.loop-row.start c.loop-row.row c.loop-row.invariant.rows (omega arith) (omega arith) c.in-Some.after.now c.in-Some.number (omega (arith, c.loop-row-test.true)) c.in-Some.ensures.small c.in-Some.ensures.found (omega (arith, c.loop-row.invariant.within, c.if-size-content.true))

pub returns-then-not-fits_row-clause-no : goal.returns-then-not-fits_row-clause-no
returns-then-not-fits_row-clause-no c =
    let v = form_in c.args.rows c.args.validity in
    let flag = c.is_valid-valid.ensures c.args.rows c.requires (omega (arith, c.loop-row-test.true)) in
    rows_unfit c.args.kind c.args.rows v c.args.sizes.now c.args.content.now c.loop-row.rest.now c.in-Some.after.now c.loop-row.start c.loop-row.row c.in-Some.number c.loop-row.invariant.rows (omega arith) (omega arith) (view_length c.args.rows c.args.validity c.requires) (omega (arith, c.loop-row-test.true)) c.in-Some.ensures.found (omega (arith, c.loop-row.invariant.within, c.if-size-content.false)) (subst (λ (b : Bool). ¬ FitsRow c.args.kind b (slice_range c.args.content.now c.loop-row.start (c.loop-row.start + c.in-Some.number))) flag (OnFalse_at c.if-not-fits_row.true c.fits_row.ensures.no))

pub loop-row-preserved : goal.loop-row-preserved
loop-row-preserved c =
    let v = form_in c.args.rows c.args.validity in
    let flag = c.is_valid-valid.ensures c.args.rows c.requires (omega (arith, c.loop-row-test.true)) in
    record {
      rows = rows_more c.args.kind v c.args.content.now c.args.sizes.now c.loop-row.rest.now c.in-Some.after.now c.loop-row.start c.loop-row.row c.in-Some.number c.loop-row.invariant.rows c.in-Some.ensures.found (omega (arith, c.loop-row.invariant.within, c.if-size-content.false)) (subst (λ (b : Bool). FitsRow c.args.kind b (slice_range c.args.content.now c.loop-row.start (c.loop-row.start + c.in-Some.number))) flag (OnTrue_at c.if-not-fits_row.false c.fits_row.ensures.yes));
      within = omega (arith, c.loop-row.invariant.within, c.if-size-content.false);
    }

pub returns-then-rest-ne0-clause-no : goal.returns-then-rest-ne0-clause-no
returns-then-rest-ne0-clause-no c =
    rows_left_over c.args.kind c.args.rows (form_in c.args.rows c.args.validity) c.args.sizes.now c.args.content.now c.loop-row.rest.now c.loop-row.start c.loop-row.row c.loop-row.invariant.rows (omega arith) (omega arith) (omega (arith, c.loop-row-test.false)) (λ none last. elim c.then-rest-ne0.branch [ then-rest-ne0-via-then-rest-ne0 w ↦ w.if-rest-ne0.true (omega (arith, none)) | then-rest-ne0-via-else-rest-ne0+then-start-content w ↦ w.if-start-content.true (omega (arith, last)) ])

pub returns-clause-yes : goal.returns-clause-yes
returns-clause-yes c =
    rows_all c.args.kind c.args.rows (form_in c.args.rows c.args.validity) c.args.sizes.now c.args.content.now c.loop-row.rest.now c.loop-row.start c.loop-row.row (view_length c.args.rows c.args.validity c.requires) c.loop-row.invariant.rows (omega (arith, c.loop-row-test.false)) (omega (arith, c.if-rest-ne0.false)) (omega (arith, c.if-start-content.false))
