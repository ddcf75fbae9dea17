use Rattle.std.proofs.Common.{◌≡◌, ◌-◌, ◌+◌, ◌<◌, ◌≤◌, ◌∙◌, ℕ, ℤ, List, Bool, Some, None, pos, true, get_or, length, map, min, take, ap, sym, arith}
use Rattle.std.specs.Prelude.{replicate, slice_index, unsigned_abs}
use Rattle.std.proofs.lemmas.List.{length-replicate, length_push, length-map}
use Rattle.std.proofs.lemmas.Option.{get_or_from_slice_get, same_Some, slice_get-get_or}
use Rattle.column_core.specs.PrimitiveForm.{optionals}
use Rattle.column_core.proofs.OptionalRows.{length-optionals}
use Rattle.runend_windows.specs.Window.{run_rows}
use Rattle.runend_windows.proofs.Decoded.{reached}
use Rattle.runend_windows.proofs.Grow.{IsTightCover-of_none}
use Rattle.runend_windows.proofs.RunRows.{Covers-run_rows, length-run_rows}
use Rattle.runend_windows.proofs.StoredNumbers.{length-naturals}
use Rattle.runend_encode.proofs.Fitting.{naturals-push}
use Rattle.runend_encode.proofs.Joining.{Joining-first, Joining-same, Joining-next, Joining-done, reached-at}
use Rattle.runend_encode.proofs.RunReads.{optional_of}
use Rattle.runend_encode.proofs.Marked.{marked-blank, marked-read, shown-put, zeroed-put}
use Rattle.runend_encode.proofs.joined.join_marked.Goals as goal
use Rattle.runend_encode.proofs.joined.join_marked.Goals.{then-shows_other, else-shows_other}

-- as many values as runs
length-marked : {S : Type 0} (number : S → ℤ) (items : List S) (marks : List Bool) → length marks ≡ length items → length (optionals (map number items) marks) ≡ length items
length-marked number items marks fits = length-optionals (map number items) marks (fits ∙ sym (length-map items number)) ∙ length-map items number

-- and as ends
long : {S E : Type 0} (number : S → ℤ) (end_number : E → ℤ) (items : List S) (marks : List Bool) (ends : List E) → length marks ≡ length items → length items ≡ length ends
    → length (optionals (map number items) marks) ≡ length (map unsigned_abs (map end_number ends))
long number end_number items marks ends fits paired = length-marked number items marks fits ∙ paired ∙ sym (length-naturals end_number ends)

pub loop-run-init : goal.loop-run-init
loop-run-init g c =
    let number = g.T.NativePType.number in
    let ends = map unsigned_abs (map g.E.NativePType.number c.args.ends.now) in
    let items = c.args.items.now in
    let marks = c.args.marks.now in
    let shown = optionals (map number items) marks in
    let rows = run_rows ends shown c.args.offset c.args.count in
    let cover = Covers-run_rows ends shown c.args.offset c.args.count c.requires.window (long number g.E.NativePType.number items marks c.args.ends.now c.requires.counted c.requires.paired) in
    let ends_long = length-naturals g.E.NativePType.number c.args.ends.now in
    let shown_long = length-marked number items marks c.requires.counted in
    let paired = c.requires.paired in
    let some : 0 < length ends = omega arith in
    let all : length items ≡ length items - 0 = omega arith in
    record {
      opened = rw (c.in_ok-joined_ends.ensures.items, c.in_ok-values.ensures.items)
          (Joining-first rows ends shown c.args.offset c.args.count (get_or shown 0 None) cover c.requires.shown some (slice_get-get_or shown 0 None (omega arith)));
      zeroed = rw c.in_ok-values.ensures.items tt;
      rest = rw (c.in_ok-values.ensures.items, c.in_ok-flags.ensures.bits, length-replicate (length c.args.items.now) true) (ap (λ (n : ℕ). replicate n true) all);
      flags_len = rw c.in_ok-flags.ensures.bits (omega (arith, length-replicate (length c.args.items.now) true));
      ends_len = omega (arith, c.in_ok-joined_ends.ensures.len);
      values_len = omega (arith, c.in_ok-values.ensures.len);
      ends_room = omega (arith, c.in_ok-joined_ends.ensures.capacity);
      values_room = omega (arith, c.in_ok-values.ensures.capacity);
    }

pub loop-run-preserved : goal.loop-run-preserved
loop-run-preserved g c =
    let number = g.T.NativePType.number in
    let end_number = g.E.NativePType.number in
    let ends = map unsigned_abs (map end_number c.args.ends.now) in
    let items = c.args.items.now in
    let marks = c.args.marks.now in
    let shown = optionals (map number items) marks in
    let offset = c.args.offset in
    let count = c.args.count in
    let rows = run_rows ends shown offset count in
    let run = c.loop-run.run in
    let before = get_or shown (run - 1) None in
    let next = get_or shown run None in
    let old = c.loop-run.values.items in
    let closed = map unsigned_abs (map end_number c.loop-run.joined_ends.items) in
    let joined = optionals (map number old) (take (length old) c.loop-run.flags) in
    let cover = Covers-run_rows ends shown offset count c.requires.window (long number end_number items marks c.args.ends.now c.requires.counted c.requires.paired) in
    let ends_long = length-naturals end_number c.args.ends.now in
    let shown_long = length-marked number items marks c.requires.counted in
    let paired = c.requires.paired in
    let inside : run < length items = omega arith in
    let within : run < length ends = omega arith in
    let later : run - 1 < length shown = omega arith in
    let here = slice_get-get_or shown run None (omega arith) in
    let there = slice_get-get_or shown (run - 1) None later in
    let place : run + 1 - 1 ≡ run = omega arith in
    let inv = c.loop-run.invariant in
    elim c.if-shows_other.branch [
      | then-shows_other w ↦
          let differ = c.shows_other.ensures.yes w.if-shows_other.true in
          let item = w.index-items-run.result in
          let valid = w.shows_number.result in
          let read = marked-read number items marks (run - 1) item valid (omega arith) w.index-items-run.is w.shows_number.ensures in
          let shows : before ≡ optional_of valid (number item) = get_or_from_slice_get shown (run - 1) (optional_of valid (number item)) None read in
          let at = reached-at ends offset count run (omega arith) in
          let length_is : w.len.result ≡ length old = omega (arith, w.len.ensures, c.loop-run.values.ok) in
          let ends_pushed = ap (λ (es : List g.row.E.Denot). map unsigned_abs (map end_number es)) w.push_reserved.ensures.items
          ∙ naturals-push end_number c.loop-run.joined_ends.items w.end_in_window.result (reached ends offset count run) (w.end_in_window.ensures ∙ ap pos (sym at)) in
          let put = rw length_is at w.put_flag.ensures.put in
          let room : length old ≤ length c.loop-run.flags = omega arith in
          let shown_put = shown-put number old c.loop-run.flags w.put_flag.new.flags item valid room put in
          let further = Joining-next rows ends shown offset count run closed joined before next cover c.requires.shown within here (λ same. differ (there ∙ ap Some same ∙ sym here)) inv.opened in
          record {
            opened = rw (w.joined_ends-is, w.values-is, w.flags-is, ends_pushed, w.push_reserved-then-shows_other.ensures.items, shown_put, ← shows, place) further;
            zeroed = rw (w.values-is, w.flags-is, w.push_reserved-then-shows_other.ensures.items) (zeroed-put number old c.loop-run.flags w.put_flag.new.flags item valid room put
                (marked-blank number items marks (run - 1) item valid (omega arith) w.index-items-run.is w.shows_number.ensures c.requires.zeroed) inv.zeroed);
            rest = rw (w.values-is, w.flags-is, w.push_reserved-then-shows_other.ensures.items, length_push old item) (rw length_is at w.put_flag.ensures.rest);
            flags_len = rw w.flags-is (w.put_flag.ensures.len ∙ inv.flags_len);
            ends_len = rw w.joined_ends-is (omega (arith, w.push_reserved.ensures.len, inv.ends_len));
            values_len = rw w.values-is (omega (arith, w.push_reserved-then-shows_other.ensures.len, inv.values_len));
            ends_room = rw w.joined_ends-is (omega (arith, w.push_reserved.ensures.capacity, inv.ends_room));
            values_room = rw w.values-is (omega (arith, w.push_reserved-then-shows_other.ensures.capacity, inv.values_room));
          }
      | else-shows_other w ↦
          let same : before ≡ next = same_Some _ _ (sym there ∙ c.shows_other.ensures.no w.if-shows_other.false ∙ here) in
          let further = Joining-same rows ends shown offset count run closed joined before next cover within here (sym same) inv.opened in
          record {
            opened = rw (w.joined_ends-is, w.values-is, w.flags-is, place, ← same) further;
            zeroed = rw (w.values-is, w.flags-is) inv.zeroed;
            rest = rw (w.values-is, w.flags-is) inv.rest;
            flags_len = rw w.flags-is inv.flags_len;
            ends_len = rw w.joined_ends-is (omega (arith, inv.ends_len));
            values_len = rw w.values-is (omega (arith, inv.values_len));
            ends_room = rw w.joined_ends-is inv.ends_room;
            values_room = rw w.values-is inv.values_room;
          }
    ]

pub returns-clause-cover : goal.returns-clause-cover
returns-clause-cover g c =
    let number = g.T.NativePType.number in
    let end_number = g.E.NativePType.number in
    let ends = map unsigned_abs (map end_number c.args.ends.now) in
    let items = c.args.items.now in
    let marks = c.args.marks.now in
    let shown = optionals (map number items) marks in
    let offset = c.args.offset in
    let count = c.args.count in
    let rows = run_rows ends shown offset count in
    let run = c.loop-run.run in
    let before = get_or shown (run - 1) None in
    let old = c.loop-run.values.items in
    let closed = map unsigned_abs (map end_number c.loop-run.joined_ends.items) in
    let joined = optionals (map number old) (take (length old) c.loop-run.flags) in
    let cover = Covers-run_rows ends shown offset count c.requires.window (long number end_number items marks c.args.ends.now c.requires.counted c.requires.paired) in
    let ends_long = length-naturals end_number c.args.ends.now in
    let paired = c.requires.paired in
    let inv = c.loop-run.invariant in
    let bounded = c.loop-run.auto.run-end (omega arith) in
    let at_end : run ≡ length items = omega arith in
    let all : run ≡ length ends = omega arith in
    let last : length items - 1 ≡ run - 1 = omega arith in
    let at = reached-at ends offset count run (omega arith) in
    let reach = ap (λ (k : ℕ). pos (min (slice_index ends k - offset) count)) last ∙ ap pos (sym at) in
    let ends_pushed = ap (λ (es : List g.row.E.Denot). map unsigned_abs (map end_number es)) c.push_reserved-2.ensures.items
    ∙ naturals-push end_number c.loop-run.joined_ends.items c.end_in_window-2.result (reached ends offset count run) (c.end_in_window-2.ensures ∙ reach) in
    let item = c.index-items-runs.result in
    let valid = c.shows_number-2.result in
    let read = marked-read number items marks (length items - 1) item valid (omega arith) c.index-items-runs.is c.shows_number-2.ensures in
    let shows : before ≡ optional_of valid (number item) = ap (λ (k : ℕ). get_or shown k None) (sym last)
    ∙ get_or_from_slice_get shown (length items - 1) (optional_of valid (number item)) None read in
    let length_is : c.len-2.result ≡ length old = omega (arith, c.len-2.ensures, c.loop-run.values.ok) in
    let put = rw length_is at c.put_flag-2.ensures.put in
    let room : length old ≤ length c.loop-run.flags = omega arith in
    let shown_put = shown-put number old c.loop-run.flags c.put_flag-2.new.flags item valid room put in
    let count_is : c.len-3.result ≡ length c.push_reserved-3.new.self.items = omega (arith, c.len-3.ensures, c.push_reserved-3.new.self.ok) in
    let kept = c.truncate.ensures ∙ ap (λ (n : ℕ). take n c.put_flag-2.new.flags) (count_is ∙ ap length c.push_reserved-3.ensures.items) in
    rw (ends_pushed, kept, c.push_reserved-3.ensures.items, shown_put, ← shows) (Joining-done rows ends shown offset count run closed joined before cover all inv.opened)

pub returns-clause-zeroed : goal.returns-clause-zeroed
returns-clause-zeroed g c =
    let number = g.T.NativePType.number in
    let items = c.args.items.now in
    let marks = c.args.marks.now in
    let old = c.loop-run.values.items in
    let inv = c.loop-run.invariant in
    let item = c.index-items-runs.result in
    let valid = c.shows_number-2.result in
    let length_is : c.len-2.result ≡ length old = omega (arith, c.len-2.ensures, c.loop-run.values.ok) in
    let put = rw length_is at c.put_flag-2.ensures.put in
    let bounded = c.loop-run.auto.run-end (omega arith) in
    let room : length old ≤ length c.loop-run.flags = omega arith in
    let count_is : c.len-3.result ≡ length c.push_reserved-3.new.self.items = omega (arith, c.len-3.ensures, c.push_reserved-3.new.self.ok) in
    let kept = c.truncate.ensures ∙ ap (λ (n : ℕ). take n c.put_flag-2.new.flags) (count_is ∙ ap length c.push_reserved-3.ensures.items) in
    rw (kept, c.push_reserved-3.ensures.items)
    (zeroed-put number old c.loop-run.flags c.put_flag-2.new.flags item valid room put
    (marked-blank number items marks (length items - 1) item valid (omega arith) c.index-items-runs.is c.shows_number-2.ensures c.requires.zeroed) inv.zeroed)

pub returns-then-runs-eq0-clause-cover : goal.returns-then-runs-eq0-clause-cover
returns-then-runs-eq0-clause-cover g c =
    let ends = map unsigned_abs (map g.E.NativePType.number c.args.ends.now) in
    let shown = optionals (map g.T.NativePType.number c.args.items.now) c.args.marks.now in
    let ends_long = length-naturals g.E.NativePType.number c.args.ends.now in
    let paired = c.requires.paired in
    let empty : length ends ≡ 0 = omega arith in
    let none = length-run_rows ends shown c.args.offset c.args.count ∙ (c.requires.window.none empty).1 in
    rw (c.in_ok-joined_ends.ensures.items, c.in_ok-values.ensures.items) (IsTightCover-of_none (run_rows ends shown c.args.offset c.args.count) none)
