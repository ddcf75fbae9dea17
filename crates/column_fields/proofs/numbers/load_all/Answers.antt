use Rattle.std.proofs.Common.{◌≡◌, ap, ◌∙◌, sym, map, length, arith, List, ℕ, ◌++◌, [], ◌∷◌}
use Rattle.std.proofs.lemmas.List.{map-append, append-nil, nil_from_length}
use Rattle.std.proofs.lemmas.List.Elements.{All-push, All-nil, All-same}
use Rattle.column_base.specs.Types.{HasNumber}
use Rattle.column_fields.specs.NumberBytes.{numbers_bytes}
use Rattle.column_fields.proofs.NumberLaws.{load_step, next_fits, next_left, none_left, numbers_none}
use Rattle.column_fields.proofs.numbers.load_all.Goals as goal

pub loop-row-init : goal.loop-row-init
loop-row-init g c =
    let t = g.T.NativePType.PTYPE in
    let none : map g.T.NativePType.number c.in_ok-items.items.items ≡ [] = ap (map g.T.NativePType.number) c.in_ok-items.ensures.items in
    record {
      shows = ap (λ ns. numbers_bytes t ns ++ c.args.bytes.now) none ∙ ap (λ (b : List ℕ). b ++ c.args.bytes.now) (numbers_none t);
      left = omega (arith, c.requires);
      len = c.in_ok-items.ensures.len;
      room = c.in_ok-items.ensures.exact;
      fits = All-same (λ n. HasNumber t n) _ _ none (All-nil (λ n. HasNumber t n));
    }

pub split_at-requires : goal.split_at-requires
split_at-requires g c = next_fits c.loop-row._row c.args.count _ _ c.loop-row-test.true (rw c.size.ensures c.loop-row.invariant.left)

pub loop-row-preserved : goal.loop-row-preserved
loop-row-preserved g c =
    let t = g.T.NativePType.PTYPE in
    let number = g.T.NativePType.number in
    let front = map number c.loop-row.items.items in
    let n = number c.load.result in
    let h = c.loop-row.invariant in
    let pushed : map number c.push_reserved.new.self.items ≡ front ++ n ∷ [] = ap (map number) c.push_reserved.ensures.items ∙ map-append number c.loop-row.items.items (c.load.result ∷ []) in
    record {
      shows = load_step t c.args.bytes.now c.loop-row.rest.now c.split_at.result.0.now c.split_at.result.1.now front _ n c.size.result h.shows c.split_at.ensures.front c.split_at.ensures.back c.load.ensures.shows pushed;
      left = next_left c.loop-row._row c.args.count _ (length c.loop-row.rest.now) _ h.left (rw (← c.size.ensures) (omega (arith, c.split_at.ensures.back_len)));
      len = omega (arith, c.push_reserved.ensures.len, h.len);
      room = c.push_reserved.ensures.capacity ∙ h.room;
      fits = All-same (λ x. HasNumber t x) _ _ pushed (All-push (λ x. HasNumber t x) front n h.fits c.load.ensures.fits);
    }

pub returns-clause-shows : goal.returns-clause-shows
returns-clause-shows g c =
    let h = c.loop-row.invariant in
    let none : c.loop-row.rest.now ≡ [] = nil_from_length _ (none_left c.loop-row._row c.args.count _ _ (omega arith) h.left) in
    sym (append-nil _) ∙ ap (λ (b : List ℕ). numbers_bytes g.T.NativePType.PTYPE (map g.T.NativePType.number c.loop-row.items.items) ++ b) (sym none) ∙ h.shows
