use Rattle.std.proofs.Common.{pos, ◌≡◌, ◌-◌, length, map, ◌∙◌, arith}
use Rattle.std.specs.Option.{is_some}
use Rattle.column_base.specs.Mask.{mask_bits}
use Rattle.column_core.specs.PrimitiveForm.{optionals}
use Rattle.runend_windows.specs.Encoding.{blanked}
use Rattle.runend_windows.proofs.RunEnds.{Pulled-more, Pulled-within, Pulled-next, Pulled-next_mapped, Pulled-all}
use Rattle.runend_windows.proofs.TypedRows.{blanked-at_number}
use Rattle.runend_windows.proofs.typed.repeat_masked.Goals as goal

pub next_end-end-requires-clause-more : goal.next_end-end-requires-clause-more
next_end-end-requires-clause-more g c after =
    let given = c.requires.ends in
    Pulled-more g.I.Iterator.next_gives c.args.run_ends c.loop-run.run_ends after (length c.args.values.now) c.args.count given.0 (mask_bits c.args.mask.now) c.loop-run.run c.loop-run.flags
    given.1 c.loop-run-test.true (c.loop-run.invariant.flags given.0 given.1)

pub repeat_to-requires : goal.repeat_to-requires
repeat_to-requires g c =
    let given = c.requires.ends in
    let within = Pulled-within g.I.Iterator.next_gives c.args.run_ends c.loop-run.run_ends c.next_end-end.new.run_ends (length c.args.values.now) c.args.count given.0 (mask_bits c.args.mask.now)
    c.loop-run.run c.loop-run.flags c.next_end-end.result given.1 c.loop-run-test.true c.next_end-end.ensures.gives (c.loop-run.invariant.flags given.0 given.1) in
    omega arith

pub loop-run-preserved : goal.loop-run-preserved
loop-run-preserved g c =
    let number = g.T.NativePType.number in
    let values = c.args.values.now in
    let bits = mask_bits c.args.mask.now in
    let run = c.loop-run.run in
    let end = c.next_end-end.result in
    let shown = c.number_at-number.result in
    let x = c.unwrap_or_default.result in
    let flag = c.is_some.result in
    let missing = c.saturating_sub-missing.result in
    let stored = blanked (pos 0) (optionals (map number values) bits) in
    let here = blanked-at_number g.T.PartialEq.eq g.T.Ord.cmp g.T.Default.is_default number g.met.T.NativePType.law (optionals (map number values) bits) run shown x
    c.number_at-number.ensures.number c.unwrap_or_default.ensures in
    let copied : missing ≡ end - length c.loop-run.flags = omega arith in
    record {
      can = c.next_end-end.ensures.can;
      limit = c.repeat_to.ensures.limit ∙ c.loop-run.invariant.limit;
      numbers = λ ends given. Pulled-next_mapped g.I.Iterator.next_gives c.args.run_ends c.loop-run.run_ends c.next_end-end.new.run_ends (length values) c.args.count ends stored run
          number c.loop-run.numbers.rows c.repeat_to.new.self.rows end x given c.loop-run-test.true c.next_end-end.ensures.gives here c.repeat_to.ensures.rows
          (c.loop-run.invariant.numbers ends given);
      flags = λ ends given. rw (c.in_ok-append_n.ensures.ok, c.is_some.ensures)
          (Pulled-next g.I.Iterator.next_gives c.args.run_ends c.loop-run.run_ends c.next_end-end.new.run_ends (length values) c.args.count ends bits run c.loop-run.flags end (is_some shown) missing
          given c.loop-run-test.true c.next_end-end.ensures.gives c.number_at-number.ensures.flag copied (c.loop-run.invariant.flags ends given));
    }

pub returns-clause-numbers : goal.returns-clause-numbers
returns-clause-numbers g c ends given =
    let all : c.loop-run.run ≡ length c.args.values.now = omega arith in
    rw c.finish.ensures
    (Pulled-all g.I.Iterator.next_gives c.args.run_ends c.loop-run.run_ends (length c.args.values.now) c.args.count ends _ c.loop-run.run _ given all (c.loop-run.invariant.numbers ends given))

pub returns-clause-flags : goal.returns-clause-flags
returns-clause-flags g c ends given =
    let all : c.loop-run.run ≡ length c.args.values.now = omega arith in
    rw c.freeze.ensures
    (Pulled-all g.I.Iterator.next_gives c.args.run_ends c.loop-run.run_ends (length c.args.values.now) c.args.count ends _ c.loop-run.run _ given all (c.loop-run.invariant.flags ends given))
