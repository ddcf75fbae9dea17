use Rattle.std.proofs.Common.{◌≡◌, ◌≢◌, ◌-◌, ◌<◌, ◌∙◌, ℕ, ℤ, List, [], ◌∷◌, ◌++◌, Some, pos, length, map, min, ap, sym, arith}
use Rattle.std.specs.Prelude.{slice_index, unsigned_abs}
use Rattle.std.proofs.lemmas.List.{length-map, map-append}
use Rattle.runend_windows.specs.Window.{run_rows}
use Rattle.runend_windows.proofs.Decoded.{reached}
use Rattle.runend_windows.proofs.Grow.{IsTightCover-of_none}
use Rattle.runend_windows.proofs.RunRows.{Covers-run_rows, length-run_rows}
use Rattle.runend_windows.proofs.StoredNumbers.{length-naturals}
use Rattle.runend_windows.proofs.ValidRuns.{differ-from_ne_of, same-from_ne_of}
use Rattle.runend_encode.proofs.Fitting.{naturals-push}
use Rattle.runend_encode.proofs.Joining.{Joining-first, Joining-same, Joining-next, Joining-done, reached-at}
use Rattle.runend_encode.proofs.RunReads.{valid-read}
use Rattle.runend_encode.proofs.joined.valid_runs.Goals as goal
use Rattle.runend_encode.proofs.joined.valid_runs.Goals.{then-ne, else-ne}

-- a number that is pushed, without null
shown-push : {S : Type 0} (number : S → ℤ) (xs : List S) (x : S) → map (λ (n : ℤ). Some n) (map number (xs ++ x ∷ [])) ≡ map (λ (n : ℤ). Some n) (map number xs) ++ Some (number x) ∷ []
shown-push number xs x = ap (map (λ (n : ℤ). Some n)) (map-append number xs (x ∷ [])) ∙ map-append (λ (n : ℤ). Some n) (map number xs) (number x ∷ [])

unlike : (a b : ℤ) → a ≢ b → Some a ≢ Some b
unlike a b differ same = let one : a ≡ b = cc in differ one

-- as many values as ends
long : {S E : Type 0} (number : S → ℤ) (end_number : E → ℤ) (items : List S) (ends : List E) → length items ≡ length ends
    → length (map (λ (n : ℤ). Some n) (map number items)) ≡ length (map unsigned_abs (map end_number ends))
long number end_number items ends paired = length-map (map number items) (λ (n : ℤ). Some n) ∙ length-map items number ∙ paired ∙ sym (length-naturals end_number ends)

pub push_reserved-requires : goal.push_reserved-requires
push_reserved-requires g c =
    let len = c.loop-run.invariant.ends_len in
    let room = c.loop-run.invariant.ends_room in
    omega arith

pub push_reserved-requires-then-ne : goal.push_reserved-requires-then-ne
push_reserved-requires-then-ne g c =
    let len = c.loop-run.invariant.items_len in
    let room = c.loop-run.invariant.items_room in
    omega arith

pub push_reserved-requires-2 : goal.push_reserved-requires-2
push_reserved-requires-2 g c =
    let bounded = c.loop-run.auto.run-end (omega arith) in
    let len = c.loop-run.invariant.ends_len in
    let room = c.loop-run.invariant.ends_room in
    omega arith

pub push_reserved-requires-3 : goal.push_reserved-requires-3
push_reserved-requires-3 g c =
    let bounded = c.loop-run.auto.run-end (omega arith) in
    let len = c.loop-run.invariant.items_len in
    let room = c.loop-run.invariant.items_room in
    omega arith

pub loop-run-init : goal.loop-run-init
loop-run-init g c =
    let number = g.T.NativePType.number in
    let ends = map unsigned_abs (map g.E.NativePType.number c.args.ends.now) in
    let items = c.args.items.now in
    let values = map (λ (n : ℤ). Some n) (map number items) in
    let rows = run_rows ends values c.args.offset c.args.count in
    let cover = Covers-run_rows ends values c.args.offset c.args.count c.requires.window (long number g.E.NativePType.number items c.args.ends.now c.requires.paired) in
    let ends_long = length-naturals g.E.NativePType.number c.args.ends.now in
    let paired = c.requires.paired in
    let some : 0 < length ends = omega arith in
    record {
      opened = rw (c.in_ok-joined_ends.ensures.items, c.in_ok-joined_items.ensures.items)
          (Joining-first rows ends values c.args.offset c.args.count (Some (number c.index-items-0.result)) cover c.requires.shown some
          (valid-read number items 0 c.index-items-0.result (omega arith) c.index-items-0.is));
      ends_len = omega (arith, c.in_ok-joined_ends.ensures.len);
      items_len = omega (arith, c.in_ok-joined_items.ensures.len);
      ends_room = omega (arith, c.in_ok-joined_ends.ensures.capacity);
      items_room = omega (arith, c.in_ok-joined_items.ensures.capacity);
    }

pub loop-run-preserved : goal.loop-run-preserved
loop-run-preserved g c =
    let number = g.T.NativePType.number in
    let end_number = g.E.NativePType.number in
    let ends = map unsigned_abs (map end_number c.args.ends.now) in
    let items = c.args.items.now in
    let values = map (λ (n : ℤ). Some n) (map number items) in
    let offset = c.args.offset in
    let count = c.args.count in
    let rows = run_rows ends values offset count in
    let run = c.loop-run.run in
    let item = c.index-items-run.result in
    let held = c.loop-run.open in
    let closed = map unsigned_abs (map end_number c.loop-run.joined_ends.items) in
    let joined = map (λ (n : ℤ). Some n) (map number c.loop-run.joined_items.items) in
    let cover = Covers-run_rows ends values offset count c.requires.window (long number end_number items c.args.ends.now c.requires.paired) in
    let ends_long = length-naturals end_number c.args.ends.now in
    let paired = c.requires.paired in
    let inside : run < length items = omega arith in
    let within : run < length ends = omega arith in
    let here = valid-read number items run item inside c.index-items-run.is in
    let opened = c.loop-run.invariant.opened in
    let ends_len = c.loop-run.invariant.ends_len in
    let items_len = c.loop-run.invariant.items_len in
    let ends_room = c.loop-run.invariant.ends_room in
    let items_room = c.loop-run.invariant.items_room in
    elim c.if-ne.branch [
      | then-ne w ↦
          let differ = unlike (number held) (number item) (differ-from_ne_of g.T.PartialEq.eq g.T.Ord.cmp g.T.Default.is_default number g.met.T.NativePType.law item held c.ne.result c.ne.ensures w.if-ne.true) in
          let at = reached-at ends offset count run (omega arith) in
          let ends_pushed = ap (λ (es : List g.row.E.Denot). map unsigned_abs (map end_number es)) w.push_reserved.ensures.items
          ∙ naturals-push end_number c.loop-run.joined_ends.items w.end_in_window.result (reached ends offset count run) (w.end_in_window.ensures ∙ ap pos (sym at)) in
          let items_pushed = ap (λ (xs : List g.row.T.Denot). map (λ (n : ℤ). Some n) (map number xs)) w.push_reserved-then-ne.ensures.items
          ∙ shown-push number c.loop-run.joined_items.items held in
          let next = Joining-next rows ends values offset count run closed joined (Some (number held)) (Some (number item)) cover c.requires.shown within here differ opened in
          record {
            opened = rw (w.joined_ends-is, w.joined_items-is, w.open-is, ends_pushed, items_pushed) next;
            ends_len = rw w.joined_ends-is (omega (arith, w.push_reserved.ensures.len, ends_len));
            items_len = rw w.joined_items-is (omega (arith, w.push_reserved-then-ne.ensures.len, items_len));
            ends_room = rw w.joined_ends-is (omega (arith, w.push_reserved.ensures.capacity, ends_room));
            items_room = rw w.joined_items-is (omega (arith, w.push_reserved-then-ne.ensures.capacity, items_room));
          }
      | else-ne w ↦
          let same = ap (λ (n : ℤ). Some n) (same-from_ne_of g.T.PartialEq.eq g.T.Ord.cmp g.T.Default.is_default number g.met.T.NativePType.law item held c.ne.result c.ne.ensures w.if-ne.false) in
          record {
            opened = rw (w.joined_ends-is, w.joined_items-is, w.open-is)
                (Joining-same rows ends values offset count run closed joined (Some (number held)) (Some (number item)) cover within here same opened);
            ends_len = rw w.joined_ends-is (omega (arith, ends_len));
            items_len = rw w.joined_items-is (omega (arith, items_len));
            ends_room = rw w.joined_ends-is ends_room;
            items_room = rw w.joined_items-is items_room;
          }
    ]

pub returns-clause-cover : goal.returns-clause-cover
returns-clause-cover g c =
    let number = g.T.NativePType.number in
    let end_number = g.E.NativePType.number in
    let ends = map unsigned_abs (map end_number c.args.ends.now) in
    let items = c.args.items.now in
    let values = map (λ (n : ℤ). Some n) (map number items) in
    let offset = c.args.offset in
    let count = c.args.count in
    let rows = run_rows ends values offset count in
    let run = c.loop-run.run in
    let held = c.loop-run.open in
    let closed = map unsigned_abs (map end_number c.loop-run.joined_ends.items) in
    let joined = map (λ (n : ℤ). Some n) (map number c.loop-run.joined_items.items) in
    let cover = Covers-run_rows ends values offset count c.requires.window (long number end_number items c.args.ends.now c.requires.paired) in
    let ends_long = length-naturals end_number c.args.ends.now in
    let paired = c.requires.paired in
    let bounded = c.loop-run.auto.run-end (omega arith) in
    let at_end : run ≡ length items = omega arith in
    let all : run ≡ length ends = omega arith in
    let last : length items - 1 ≡ run - 1 = omega arith in
    let at = reached-at ends offset count run (omega arith) in
    let reach = ap (λ (k : ℕ). pos (min (slice_index ends k - offset) count)) last ∙ ap pos (sym at) in
    let ends_pushed = ap (λ (es : List g.row.E.Denot). map unsigned_abs (map end_number es)) c.push_reserved-2.ensures.items
    ∙ naturals-push end_number c.loop-run.joined_ends.items c.end_in_window-2.result (reached ends offset count run) (c.end_in_window-2.ensures ∙ reach) in
    let items_pushed = ap (λ (xs : List g.row.T.Denot). map (λ (n : ℤ). Some n) (map number xs)) c.push_reserved-3.ensures.items
    ∙ shown-push number c.loop-run.joined_items.items held in
    rw (ends_pushed, items_pushed) (Joining-done rows ends values offset count run closed joined (Some (number held)) cover all c.loop-run.invariant.opened)

pub returns-then-runs-eq0-clause-cover : goal.returns-then-runs-eq0-clause-cover
returns-then-runs-eq0-clause-cover g c =
    let ends = map unsigned_abs (map g.E.NativePType.number c.args.ends.now) in
    let values = map (λ (n : ℤ). Some n) (map g.T.NativePType.number c.args.items.now) in
    let ends_long = length-naturals g.E.NativePType.number c.args.ends.now in
    let paired = c.requires.paired in
    let empty : length ends ≡ 0 = omega arith in
    let none = length-run_rows ends values c.args.offset c.args.count ∙ (c.requires.window.none empty).1 in
    rw (c.in_ok-joined_ends.ensures.items, c.in_ok-joined_items.ensures.items) (IsTightCover-of_none (run_rows ends values c.args.offset c.args.count) none)
