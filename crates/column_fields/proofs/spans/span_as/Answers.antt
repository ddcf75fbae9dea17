use Rattle.std.proofs.Common.{◌≡◌, ◌+◌, ◌<◌, ◌∙◌, false, pos, sym, subst, ℕ, arith, rules}
use Rattle.std.proofs.lemmas.Int.{ints}
use Rattle.std.proofs.lemmas.List.{nil_from_length}
use Rattle.column_base.specs.Types.{HasNumber}
use Rattle.column_fields.proofs.Varints.{if_none}
use Rattle.column_fields.proofs.EndReading.{no_length, no_row, no_end, shorter}
use Rattle.column_fields.proofs.SpanReading.{spanned_more, spanned_all}
use Rattle.column_fields.proofs.spans.span_as.Goals as goal
use Rattle.column_fields.proofs.spans.span_as.Goals.{else-not-start-via-then-not-start+else-length-eq0, else-not-start-via-else-not-start}

pub returns-in_err-length-clause-none : goal.returns-in_err-length-clause-none
returns-in_err-length-clause-none g c =
    let h = c.loop-rest.invariant.spanned in
    if_none _ _ (no_length g.E.NativePType.PTYPE c.args.bytes.now c.loop-rest.rest.now c.loop-rest.start c.loop-rest.span.last h.read h.progress (search rules) c.in_err-length.ensures.none)

pub returns-then-length-eq0-clause-none : goal.returns-then-length-eq0-clause-none
returns-then-length-eq0-clause-none g c =
    let h = c.loop-rest.invariant.spanned in
    no_row g.E.NativePType.PTYPE c.args.bytes.now c.loop-rest.rest.now c.in_ok-length.after.now c.loop-rest.start c.loop-rest.span.last c.in_ok-length.length h.read h.progress c.in_ok-length.ensures.small c.in_ok-length.ensures.found c.if-not-start.true (omega arith)

pub returns-in_err-item-clause-none : goal.returns-in_err-item-clause-none
returns-in_err-item-clause-none g c =
    let h = c.loop-rest.invariant.spanned in
    if_none _ _ (no_end g.E.NativePType.PTYPE c.args.bytes.now c.loop-rest.rest.now c.in_ok-length.after.now c.loop-rest.start c.loop-rest.span.last c.in_ok-length.length h.read h.progress c.in_ok-length.ensures.small c.in_ok-length.ensures.found c.in_err-item.ensures)

pub loop-rest-smaller : goal.loop-rest-smaller
loop-rest-smaller g c = shorter c.in_ok-length.length c.loop-rest.rest.now c.in_ok-length.after.now c.in_ok-length.ensures.small c.in_ok-length.ensures.found

pub loop-rest-preserved : goal.loop-rest-preserved
loop-rest-preserved g c =
    let natural = g.E.UnsignedPType.natural in
    let item = c.in_ok-item.item in
    let s = c.longer_span-span.ensures in
    let some : c.loop-rest.start ≡ false → 0 < c.in_ok-length.length =
    elim c.else-not-start.branch [ else-not-start-via-then-not-start+else-length-eq0 w ↦ (λ _. omega (arith, w.if-length-eq0.false)) | else-not-start-via-else-not-start w ↦ (λ e. absurd (cc (e, w.if-not-start.false))) ] in
    let is : pos (natural item) ≡ pos (c.loop-rest.span.last + c.in_ok-length.length) = sym (g.met.E.UnsignedPType.natural_law item) ∙ c.in_ok-item.ensures.1 in
    let value : c.end.result ≡ natural item = c.end.ensures.value in
    let sum : c.longer_span-span.result.last ≡ c.loop-rest.span.last + c.in_ok-length.length = omega (arith, ints, is, value, s.last) in
    let typed : HasNumber g.E.NativePType.PTYPE (pos c.longer_span-span.result.last) = subst (λ (n : ℕ). HasNumber g.E.NativePType.PTYPE (pos n)) (sym (s.last ∙ value)) c.end.ensures.fits in
    record {
      spanned = rw s.count (spanned_more g.E.NativePType.PTYPE c.args.bytes.now c.loop-rest.rest.now c.in_ok-length.after.now c.loop-rest.start c.loop-rest.span.count c.loop-rest.span.first c.loop-rest.span.last c.in_ok-length.length c.longer_span-span.result.last c.longer_span-span.result.first c.loop-rest.invariant.spanned c.in_ok-length.ensures.small c.in_ok-length.ensures.found some sum (omega (arith, s.last)) typed (λ e. s.first e ∙ sym s.last) s.kept);
      room = omega (arith, c.loop-rest.invariant.room, s.count, shorter c.in_ok-length.length c.loop-rest.rest.now c.in_ok-length.after.now c.in_ok-length.ensures.small c.in_ok-length.ensures.found);
    }

pub returns-clause-found : goal.returns-clause-found
returns-clause-found g c =
    spanned_all g.E.NativePType.PTYPE c.args.bytes.now c.loop-rest.rest.now c.loop-rest.start c.loop-rest.span.count c.loop-rest.span.first c.loop-rest.span.last g.met.E.UnsignedPType.unsigned_law c.loop-rest.invariant.spanned (nil_from_length _ (search rules))
