use Rattle.std.proofs.Common.{◌≡◌, ◌≤◌, length, map, vec_len, vec_capacity}
use Rattle.std.specs.Prelude.{unsigned_abs}
use Rattle.runend_select.proofs.KeptPlaces.{KeptTo}
use Rattle.runend_select.proofs.Reached.{reached}
use Rattle.runend_select.proofs.filtered_ends.kept_places.Given as goal

-- the runs before this one are passed, no row after them is counted, and there is room for an end and a place of each run
abbrev pub invariant-loop-run : goal.invariant-loop-run
invariant-loop-run g l =
    let ends = map unsigned_abs (map g.E.NativePType.number l.ends) in
    record {
      bits : g.S.Ranked.bits l.selected ≡ g.S.Ranked.bits l.initial.selected;
      ranked : g.S.Ranked.is_ranked l.selected;
      onward : g.S.Ranked.passed l.selected ≤ reached ends l.offset l.count l.run;
      kept : KeptTo ends l.offset l.count (g.S.Ranked.bits l.initial.selected) l.run l.rows l.places.items (map unsigned_abs (map g.E.NativePType.number l.kept_ends.items));
      few : vec_len l.kept_ends ≤ l.run;
      room : length l.ends ≤ vec_capacity l.kept_ends;
      few_places : vec_len l.places ≤ l.run;
      room_places : length l.ends ≤ vec_capacity l.places;
    }
