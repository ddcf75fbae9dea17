use Rattle.std.proofs.Common.{refl, get_or, ◌≡◌, ◌<◌, ◌+◌, ◌∙◌, ◌++◌, ◌∷◌, [], ℕ, List, pos, map, ap, sym, subst, true, false, arith, rules}
use Rattle.std.proofs.lemmas.Int.{ints}
use Rattle.std.proofs.lemmas.List.{map-append, nil_from_length}
use Rattle.std.proofs.lemmas.List.Elements.{All-append, All-push, All-nil, All-same}
use Rattle.column_base.specs.Types.{HasNumber}
use Rattle.column_fields.specs.Lengths.{lengths_bytes, Rises}
use Rattle.column_fields.proofs.EndReading.{started, eight_more, four_more, one_more, all_read, no_length, no_row, no_end, shorter}
use Rattle.column_fields.proofs.ends.load_all.Goals as goal
use Rattle.column_fields.proofs.ends.load_all.Goals.{else-not-first-via-then-not-first+else-length-eq0, else-not-first-via-else-not-first}

pub loop-rest-init : goal.loop-rest-init
loop-rest-init g c =
    let none : map g.E.UnsignedPType.natural c.in_ok-ends.ends.items ≡ [] = ap (map g.E.UnsignedPType.natural) c.in_ok-ends.ensures.items in
    record {
      progress = started c.args.bytes.now _ none;
      fits = All-same (λ (end : ℕ). HasNumber g.E.NativePType.PTYPE (pos end)) _ _ none (All-nil (λ (end : ℕ). HasNumber g.E.NativePType.PTYPE (pos end)));
      room = omega (arith, c.in_ok-ends.ensures.len);
      capacity = c.in_ok-ends.ensures.exact;
    }

pub loop-rest-preserved-in-Some : goal.loop-rest-preserved-in-Some
loop-rest-preserved-in-Some g c =
    let natural = g.E.UnsignedPType.natural in
    let has = λ (end : ℕ). HasNumber g.E.NativePType.PTYPE (pos end) in
    let ends : List ℕ = c.in-Some.eight in
    let after : List ℕ = c.split_at.result.1.now in
    let found : c.loop-rest.rest.now ≡ lengths_bytes c.loop-rest.start ends ++ after = c.in-Some.ensures.found ∙ ap (λ (t : List ℕ). lengths_bytes c.loop-rest.start ends ++ t) (sym c.split_at.ensures.back) in
    record {
      progress = eight_more c.args.bytes.now c.loop-rest.rest.now after c.loop-rest.first c.loop-rest.start (get_or ends 7 0) ends (map natural c.loop-rest.ends.items) _ c.loop-rest.invariant.progress found c.in-Some.ensures.rises c.in-Some.ensures.counted refl c.push_all.ensures.items;
      fits = All-same has _ _ c.push_all.ensures.items (All-append has (map natural c.loop-rest.ends.items) ends c.loop-rest.invariant.fits c.in-Some.ensures.fit);
      room = omega (arith, c.loop-rest.invariant.room, c.push_all.ensures.len, c.split_at.ensures.back_len, c.in-Some.ensures.counted);
      capacity = c.push_all.ensures.capacity ∙ c.loop-rest.invariant.capacity;
    }

pub loop-rest-preserved-in-Some-four_ends : goal.loop-rest-preserved-in-Some-four_ends
loop-rest-preserved-in-Some-four_ends g c =
    let natural = g.E.UnsignedPType.natural in
    let has = λ (end : ℕ). HasNumber g.E.NativePType.PTYPE (pos end) in
    let h = c.in-Some-four_ends.ensures in
    let ends : List ℕ = c.in-Some-four_ends.read.0 in
    let pushed = c.push_all-in-Some-four_ends.ensures in
    record {
      progress = four_more c.args.bytes.now c.loop-rest.rest.now c.in-Some-four_ends.read.1.now c.loop-rest.first c.loop-rest.start (get_or ends 3 0) ends (map natural c.loop-rest.ends.items) _ c.loop-rest.invariant.progress h.found h.rises h.counted refl pushed.items;
      fits = All-same has _ _ pushed.items (All-append has (map natural c.loop-rest.ends.items) ends c.loop-rest.invariant.fits h.fit);
      room = omega (arith, c.loop-rest.invariant.room, pushed.len, h.shorter, h.counted);
      capacity = pushed.capacity ∙ c.loop-rest.invariant.capacity;
    }

pub returns-in_default-read_length-clause-bad : goal.returns-in_default-read_length-clause-bad
returns-in_default-read_length-clause-bad g c = λ _. no_length g.E.NativePType.PTYPE c.args.bytes.now c.loop-rest.rest.now _ _ _ c.loop-rest.invariant.progress (search rules) c.in_default-read_length.ensures.none

pub returns-then-length-eq0-clause-bad : goal.returns-then-length-eq0-clause-bad
returns-then-length-eq0-clause-bad g c =
    λ _. no_row g.E.NativePType.PTYPE c.args.bytes.now c.loop-rest.rest.now c.in-Some-read_length.after.now c.loop-rest.first _ _ _ c.loop-rest.invariant.progress c.in-Some-read_length.ensures.small c.in-Some-read_length.ensures.found c.if-not-first.true (omega arith)

pub returns-in_default-end_behind-clause-bad : goal.returns-in_default-end_behind-clause-bad
returns-in_default-end_behind-clause-bad g c =
    λ _. no_end g.E.NativePType.PTYPE c.args.bytes.now c.loop-rest.rest.now c.in-Some-read_length.after.now _ _ _ _ c.loop-rest.invariant.progress c.in-Some-read_length.ensures.small c.in-Some-read_length.ensures.found c.in_default-end_behind.ensures

pub loop-rest-smaller : goal.loop-rest-smaller
loop-rest-smaller g c = shorter c.in-Some-read_length.length c.loop-rest.rest.now c.in-Some-read_length.after.now c.in-Some-read_length.ensures.small c.in-Some-read_length.ensures.found

pub loop-rest-preserved : goal.loop-rest-preserved
loop-rest-preserved g c =
    let natural = g.E.UnsignedPType.natural in
    let has = λ (end : ℕ). HasNumber g.E.NativePType.PTYPE (pos end) in
    let item = c.in-Some-end_behind.item in
    let front = map natural c.loop-rest.ends.items in
    let some : c.loop-rest.first ≡ false → 0 < c.in-Some-read_length.length =
    elim c.else-not-first.branch [ else-not-first-via-then-not-first+else-length-eq0 w ↦ (λ _. omega (arith, w.if-length-eq0.false)) | else-not-first-via-else-not-first w ↦ (λ e. absurd (cc (e, w.if-not-first.false))) ] in
    let is : pos (natural item) ≡ pos (c.loop-rest.start + c.in-Some-read_length.length) = sym (g.met.E.UnsignedPType.natural_law item) ∙ c.in-Some-end_behind.ensures.1 in
    let value : c.end-end.result ≡ natural item = c.end-end.ensures.value in
    let sum : c.end-end.result ≡ c.loop-rest.start + c.in-Some-read_length.length = omega (arith, ints, is, value) in
    let pushed : map natural c.push_reserved.new.self.items ≡ front ++ natural item ∷ [] = ap (map natural) c.push_reserved.ensures.items ∙ map-append natural c.loop-rest.ends.items (item ∷ []) in
    record {
      progress = one_more c.args.bytes.now c.loop-rest.rest.now c.in-Some-read_length.after.now c.loop-rest.first c.loop-rest.start c.in-Some-read_length.length c.end-end.result front _ c.loop-rest.invariant.progress c.in-Some-read_length.ensures.small c.in-Some-read_length.ensures.found some sum (omega arith) (pushed ∙ ap (λ (n : ℕ). front ++ n ∷ []) (sym value));
      fits = All-same has _ _ pushed (All-push has front (natural item) c.loop-rest.invariant.fits c.end-end.ensures.fits);
      room = omega (arith, c.loop-rest.invariant.room, c.push_reserved.ensures.len, shorter c.in-Some-read_length.length c.loop-rest.rest.now c.in-Some-read_length.after.now c.in-Some-read_length.ensures.small c.in-Some-read_length.ensures.found);
      capacity = c.push_reserved.ensures.capacity ∙ c.loop-rest.invariant.capacity;
    }

pub returns-clause-found : goal.returns-clause-found
returns-clause-found g c =
    let natural = g.E.UnsignedPType.natural in
    let same : map natural c.loop-rest.ends.items ≡ map natural c.shrink_to_fit.new.self.items = ap (map natural) (sym c.shrink_to_fit.ensures.items) in
    (all_read c.args.bytes.now c.loop-rest.rest.now _ _ (map natural c.loop-rest.ends.items) c.loop-rest.invariant.progress (nil_from_length _ (search rules))).0 ∙ ap (lengths_bytes 0) same

pub returns-clause-rises : goal.returns-clause-rises
returns-clause-rises g c =
    let natural = g.E.UnsignedPType.natural in
    let same : map natural c.loop-rest.ends.items ≡ map natural c.shrink_to_fit.new.self.items = ap (map natural) (sym c.shrink_to_fit.ensures.items) in
    subst (λ (ends : List ℕ). Rises true 0 ends) same (all_read c.args.bytes.now c.loop-rest.rest.now _ _ (map natural c.loop-rest.ends.items) c.loop-rest.invariant.progress (nil_from_length _ (search rules))).1

pub returns-clause-fit : goal.returns-clause-fit
returns-clause-fit g c =
    record {
      unsigned = g.met.E.UnsignedPType.unsigned_law;
      fit = All-same (λ (end : ℕ). HasNumber g.E.NativePType.PTYPE (pos end)) _ _ (ap (map g.E.UnsignedPType.natural) c.shrink_to_fit.ensures.items) c.loop-rest.invariant.fits;
    }
