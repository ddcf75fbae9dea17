use Rattle.std.proofs.Common.{◌≡◌, ◌+◌, ◌-◌, ◌<◌, ◌≤◌, List, Bool, map, length, min, take, arith, ap, refl, ◌∙◌}
use Rattle.std.specs.Prelude.{unsigned_abs, slice_index, slice_range}
use Rattle.runend_windows.proofs.StoredNumbers.{length-naturals}
use Rattle.runend_encode.proofs.Fitting.{fits_below, naturals-push}
use Rattle.runend_select.proofs.KeptPlaces.{AreKeptAt-all, KeptTo-next, KeptTo-none}
use Rattle.runend_select.proofs.KeptSoFar.{selected_within}
use Rattle.runend_select.proofs.FirstBits.{set_bits-between, set_bits-onward}
use Rattle.runend_select.proofs.MaskRuns.{reached-next}
use Rattle.runend_select.proofs.Reached.{reached, reached-le}
use Rattle.runend_select.proofs.Selected.{set_bits}
use Rattle.runend_select.proofs.filtered_ends.kept_places.Goals as goal

pub rank-passed-requires-clause-ranked : goal.rank-passed-requires-clause-ranked
rank-passed-requires-clause-ranked g c = c.loop-run.invariant.ranked

pub rank-passed-requires-clause-within : goal.rank-passed-requires-clause-within
rank-passed-requires-clause-within g c =
    let ends = map unsigned_abs (map g.E.NativePType.number c.args.ends.now) in
    let reach : c.reach_of-reach.result ≡ min (slice_index ends c.loop-run.run - c.args.offset) c.args.count = c.reach_of-reach.ensures in
    let long = ap length c.loop-run.invariant.bits in
    omega (arith, reach, long, c.requires.masked)

pub rank-passed-requires-clause-onward : goal.rank-passed-requires-clause-onward
rank-passed-requires-clause-onward g c =
    let ends = map unsigned_abs (map g.E.NativePType.number c.args.ends.now) in
    let within : c.loop-run.run < length ends = omega (arith, length-naturals g.E.NativePType.number c.args.ends.now) in
    let reach : c.reach_of-reach.result ≡ min (slice_index ends c.loop-run.run - c.args.offset) c.args.count = c.reach_of-reach.ensures in
    omega (arith, c.loop-run.invariant.onward, reached-le ends c.args.offset c.args.count c.loop-run.run c.requires.increasing within, reach)

pub overflow_sub-more : goal.overflow_sub-more
overflow_sub-more g c =
    let number = g.E.NativePType.number in
    let ends = map unsigned_abs (map number c.args.ends.now) in
    let bits = g.S.Ranked.bits c.args.selected.now in
    let reach_at = c.reach_of-reach.result in
    let start = reached ends c.args.offset c.args.count c.loop-run.run in
    let within : c.loop-run.run < length ends = omega (arith, length-naturals number c.args.ends.now) in
    let reach : reach_at ≡ min (slice_index ends c.loop-run.run - c.args.offset) c.args.count = c.reach_of-reach.ensures in
    let ordered : start ≤ reach_at = omega (arith, reached-le ends c.args.offset c.args.count c.loop-run.run c.requires.increasing within, reach) in
    let onward = set_bits-onward bits start reach_at ordered in
    let passed : c.rank-passed.result ≡ set_bits (take reach_at bits) = c.rank-passed.ensures.rank ∙ ap (λ (b : List Bool). set_bits (take reach_at b)) c.loop-run.invariant.bits in
    omega (arith, onward, c.loop-run.invariant.kept.so_far.selected_is, passed)

pub end_of-requires : goal.end_of-requires
end_of-requires g c =
    let number = g.E.NativePType.number in
    let ends = map unsigned_abs (map number c.args.ends.now) in
    let bits = g.S.Ranked.bits c.args.selected.now in
    let run = c.loop-run.run in
    let reach = c.reach_of-reach.result in
    let old = c.loop-run.invariant.kept in
    let kept = old.so_far in
    let start = reached ends c.args.offset c.args.count run in
    let within : run < length ends = omega (arith, length-naturals number c.args.ends.now) in
    let reach_is : reach ≡ min (slice_index ends run - c.args.offset) c.args.count = c.reach_of-reach.ensures in
    let ordered : start ≤ reach = omega (arith, reached-le ends c.args.offset c.args.count run c.requires.increasing within, reach_is) in
    let onward = set_bits-onward bits start reach ordered in
    let passed : c.rank-passed.result ≡ set_bits (take reach bits) = c.rank-passed.ensures.rank ∙ ap (λ (b : List Bool). set_bits (take reach b)) c.loop-run.invariant.bits in
    let more = set_bits-between bits start reach c.loop-run.rows c.rank-passed.result ordered kept.selected_is passed in
    let below = selected_within ends c.args.offset c.args.count bits run start c.loop-run.rows old.kept (map unsigned_abs (map number c.loop-run.kept_ends.items))
    reach (c.rank-passed.result - c.loop-run.rows) c.requires.increasing c.requires.masked within kept reach_is more in
    let total : c.rank-passed.result ≤ slice_index ends run = omega (arith, below, onward, kept.selected_is, passed) in
    fits_below number g.E.NativePType.PTYPE c.args.ends.now run c.rank-passed.result g.met.E.UnsignedPType.unsigned_law c.requires.fits c.loop-run-test.true total

pub loop-run-preserved : goal.loop-run-preserved
loop-run-preserved g c =
    let number = g.E.NativePType.number in
    let ends = map unsigned_abs (map number c.args.ends.now) in
    let bits = g.S.Ranked.bits c.args.selected.now in
    let run = c.loop-run.run in
    let reach = c.reach_of-reach.result in
    let inv = c.loop-run.invariant in
    let selected_is = inv.kept.so_far.selected_is in
    let kept_ends = map unsigned_abs (map number c.loop-run.kept_ends.items) in
    let start = reached ends c.args.offset c.args.count run in
    let within : run < length ends = omega (arith, length-naturals number c.args.ends.now) in
    let reach_is : reach ≡ min (slice_index ends run - c.args.offset) c.args.count = c.reach_of-reach.ensures in
    let ordered : start ≤ reach = omega (arith, reached-le ends c.args.offset c.args.count run c.requires.increasing within, reach_is) in
    let onward = set_bits-onward bits start reach ordered in
    let total = c.rank-passed.result in
    let passed : total ≡ set_bits (take reach bits) = c.rank-passed.ensures.rank ∙ ap (λ (b : List Bool). set_bits (take reach b)) inv.bits in
    let more = total - c.loop-run.rows in
    let counted : more ≡ set_bits (slice_range bits start reach) = set_bits-between bits start reach c.loop-run.rows total ordered selected_is passed in
    let all : total ≡ c.loop-run.rows + more = omega (arith, onward, selected_is, passed) in
    let ends_of = λ (es : List g.row.E.Denot). map unsigned_abs (map number es) in
    record {
      bits = c.rank-passed.ensures.bits ∙ inv.bits;
      ranked = c.rank-passed.ensures.ranked;
      onward = omega (arith, c.rank-passed.ensures.passed, reached-next ends c.args.offset c.args.count run reach reach_is);
      kept = KeptTo-next ends c.args.offset c.args.count bits run c.loop-run.rows c.loop-run.places.items kept_ends reach more total c.push_where-in-loop-run.new.items.items (ends_of c.push_where.new.items.items)
          c.requires.increasing c.requires.masked within inv.kept reach_is counted all
          (λ is_kept. ap ends_of (c.push_where.ensures.kept is_kept) ∙ naturals-push number c.loop-run.kept_ends.items c.end_of.result total c.end_of.ensures)
          (λ is_dropped. ap ends_of (c.push_where.ensures.dropped is_dropped))
          (λ is_kept. c.push_where-in-loop-run.ensures.kept is_kept)
          (λ is_dropped. c.push_where-in-loop-run.ensures.dropped is_dropped);
      few = omega (arith, inv.few, c.push_where.ensures.few);
      room = omega (arith, inv.room, c.push_where.ensures.capacity);
      few_places = omega (arith, inv.few_places, c.push_where-in-loop-run.ensures.few);
      room_places = omega (arith, inv.room_places, c.push_where-in-loop-run.ensures.capacity);
    }

pub returns-clause-kept : goal.returns-clause-kept
returns-clause-kept g c =
    let number = g.E.NativePType.number in
    let ends = map unsigned_abs (map number c.args.ends.now) in
    let all : c.loop-run.run ≡ length ends = omega (arith, length-naturals number c.args.ends.now) in
    AreKeptAt-all ends c.args.offset c.args.count (g.S.Ranked.bits c.args.selected.now) c.loop-run.run c.loop-run.rows c.loop-run.places.items (map unsigned_abs (map number c.loop-run.kept_ends.items)) all c.loop-run.invariant.kept

pub loop-run-init : goal.loop-run-init
loop-run-init g c =
    record {
      bits = refl;
      ranked = c.requires.ranked;
      onward = omega (arith, c.requires.first);
      kept = rw (c.in_ok-places.ensures.items, c.in_ok-kept_ends.ensures.items)
          (KeptTo-none (map unsigned_abs (map g.E.NativePType.number c.args.ends.now)) c.args.offset c.args.count (g.S.Ranked.bits c.args.selected.now));
      few = omega (arith, c.in_ok-kept_ends.ensures.len);
      room = c.in_ok-kept_ends.ensures.capacity;
      few_places = omega (arith, c.in_ok-places.ensures.len);
      room_places = c.in_ok-places.ensures.capacity;
    }
