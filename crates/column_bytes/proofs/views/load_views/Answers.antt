use Rattle.std.proofs.Common.{ap, ◌∙◌, arith, length, ◌∷◌, []}
use Rattle.std.proofs.lemmas.List.{length-append}
use Rattle.column_bytes.proofs.TextSizes.{few_bytes, started, one_more, no_size, too_many, left_over}
use Rattle.column_bytes.proofs.views.load_views.Goals as goal
use Rattle.column_bytes.proofs.views.load_views.Goals.{then-rest-ne0-via-then-rest-ne0, then-rest-ne0-via-else-rest-ne0+then-start-total}

pub returns-then-sizes-rows-clause-bad : goal.returns-then-sizes-rows-clause-bad
returns-then-sizes-rows-clause-bad g c = λ _. few_bytes c.args.rows c.args.total c.args.sizes.now (omega arith) (omega arith)

pub loop-row-init : goal.loop-row-init
loop-row-init g c = record {
  progress = started c.args.sizes.now _ c.in_ok-views.ensures.items;
  within = omega arith;
  count = omega (arith, ap length c.in_ok-views.ensures.items);
  len = c.in_ok-views.ensures.len;
  room = c.in_ok-views.ensures.exact;
}

pub returns-in_default-clause-bad : goal.returns-in_default-clause-bad
returns-in_default-clause-bad g c =
    let h = c.loop-row.invariant in
    λ _. no_size c.args.rows c.args.total c.args.sizes.now c.loop-row.rest.now c.loop-row.start c.loop-row.views.items h.progress (omega (arith, h.count)) (omega arith) (omega arith) c.in_default.ensures.none

pub returns-then-size-total-clause-bad : goal.returns-then-size-total-clause-bad
returns-then-size-total-clause-bad g c =
    let h = c.loop-row.invariant in
    λ _. too_many c.args.rows c.args.total c.args.sizes.now c.loop-row.rest.now c.in-Some.after.now c.loop-row.start c.in-Some.number c.loop-row.views.items h.progress (omega (arith, h.count)) (omega arith) (omega arith) c.in-Some.ensures.small c.in-Some.ensures.found (omega (arith, h.within))

pub loop-row-preserved : goal.loop-row-preserved
loop-row-preserved g c =
    let h = c.loop-row.invariant in
    record {
      progress = one_more c.args.sizes.now c.loop-row.rest.now c.in-Some.after.now c.loop-row.start c.in-Some.number c.loop-row.views.items _ h.progress c.in-Some.ensures.found c.push_reserved.ensures.items;
      within = omega (arith, h.within, c.if-size-total.false);
      count = omega (arith, h.count, ap length c.push_reserved.ensures.items, length-append c.loop-row.views.items (record { buffer = 0; start = c.loop-row.start; size = c.in-Some.number } ∷ []));
      len = omega (arith, c.push_reserved.ensures.len, h.len);
      room = c.push_reserved.ensures.capacity ∙ h.room;
    }

pub returns-then-rest-ne0-clause-bad : goal.returns-then-rest-ne0-clause-bad
returns-then-rest-ne0-clause-bad g c =
    let h = c.loop-row.invariant in
    λ _. left_over c.args.rows c.args.total c.args.sizes.now c.loop-row.rest.now c.loop-row.start c.loop-row.views.items h.progress (omega (arith, h.count)) (omega arith) (omega arith) (λ none last. elim c.then-rest-ne0.branch [ then-rest-ne0-via-then-rest-ne0 w ↦ w.if-rest-ne0.true (omega (arith, none)) | then-rest-ne0-via-else-rest-ne0+then-start-total w ↦ w.if-start-total.true (omega (arith, last)) ])
