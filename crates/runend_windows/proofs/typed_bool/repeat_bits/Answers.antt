use Rattle.std.proofs.Common.{◌≡◌, ◌-◌, length, refl, arith}
use Rattle.runend_windows.proofs.RunEnds.{Pulled-more, Pulled-next, Pulled-all}
use Rattle.runend_windows.proofs.typed_bool.repeat_bits.Goals as goal

pub next_end-end-requires-clause-more : goal.next_end-end-requires-clause-more
next_end-end-requires-clause-more g c after =
    let given = c.requires.ends in
    Pulled-more g.I.Iterator.next_gives c.args.run_ends c.loop-run.run_ends after (length c.args.values.now) c.args.count given.0 c.args.values.now c.loop-run.run c.loop-run.bits.written
    given.1 (omega arith) (c.loop-run.invariant.bits given.0 given.1)

pub loop-run-preserved : goal.loop-run-preserved
loop-run-preserved g c =
    let values = c.args.values.now in
    let end = c.next_end-end.result in
    record {
      can = c.next_end-end.ensures.can;
      bits = λ ends given. rw c.in_ok-repeat_to.ensures.ok
          (Pulled-next g.I.Iterator.next_gives c.args.run_ends c.loop-run.run_ends c.next_end-end.new.run_ends (length values) c.args.count ends values c.loop-run.run c.loop-run.bits.written end
          c.value.result (end - length c.loop-run.bits.written) given (omega arith) c.next_end-end.ensures.gives c.value.ensures refl (c.loop-run.invariant.bits ends given));
    }

pub returns-clause-fills : goal.returns-clause-fills
returns-clause-fills g c ends given =
    let all : c.loop-run.run ≡ length c.args.values.now = omega arith in
    rw c.finish.ensures
    (Pulled-all g.I.Iterator.next_gives c.args.run_ends c.loop-run.run_ends (length c.args.values.now) c.args.count ends _ c.loop-run.run _ given all (c.loop-run.invariant.bits ends given))
