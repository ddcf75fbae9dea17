use Rattle.std.proofs.Common.{◌≡◌, ◌-◌, false, length, refl, arith}
use Rattle.column_base.specs.Mask.{mask_bits}
use Rattle.column_core.specs.Optionals.{optionals}
use Rattle.runend_windows.specs.Encoding.{blanked}
use Rattle.runend_windows.proofs.RunEnds.{Pulled-more, Pulled-next, Pulled-all}
use Rattle.runend_windows.proofs.typed_bool.repeat_masked.Goals as goal

pub next_end-end-requires-clause-more : goal.next_end-end-requires-clause-more
next_end-end-requires-clause-more g c after =
    let given = c.requires.ends in
    Pulled-more g.I.Iterator.next_gives c.args.run_ends c.loop-run.run_ends after (length c.args.values.now) c.args.count given.0 (mask_bits c.args.mask.now) c.loop-run.run c.loop-run.flags.written
    given.1 (omega arith) (c.loop-run.invariant.flags given.0 given.1)

pub loop-run-preserved : goal.loop-run-preserved
loop-run-preserved g c =
    let runs = length c.args.values.now in
    let marks = mask_bits c.args.mask.now in
    let items = blanked false (optionals c.args.values.now marks) in
    let run = c.loop-run.run in
    let end = c.next_end-end.result in
    record {
      can = c.next_end-end.ensures.can;
      bits = λ ends given. rw c.in_ok-repeat_to.ensures.ok
          (Pulled-next g.I.Iterator.next_gives c.args.run_ends c.loop-run.run_ends c.next_end-end.new.run_ends runs c.args.count ends items run c.loop-run.bits.written end
          c.bit_at.result (end - length c.loop-run.bits.written) given (omega arith) c.next_end-end.ensures.gives c.bit_at.ensures refl (c.loop-run.invariant.bits ends given));
      flags = λ ends given. rw c.in_ok-repeat_to-2.ensures.ok
          (Pulled-next g.I.Iterator.next_gives c.args.run_ends c.loop-run.run_ends c.next_end-end.new.run_ends runs c.args.count ends marks run c.loop-run.flags.written end
          c.value.result (end - length c.loop-run.flags.written) given (omega arith) c.next_end-end.ensures.gives c.value.ensures refl (c.loop-run.invariant.flags ends given));
    }

pub returns-clause-bits : goal.returns-clause-bits
returns-clause-bits g c ends given =
    let all : c.loop-run.run ≡ length c.args.values.now = omega arith in
    rw c.finish.ensures
    (Pulled-all g.I.Iterator.next_gives c.args.run_ends c.loop-run.run_ends (length c.args.values.now) c.args.count ends _ c.loop-run.run _ given all (c.loop-run.invariant.bits ends given))

pub returns-clause-flags : goal.returns-clause-flags
returns-clause-flags g c ends given =
    let all : c.loop-run.run ≡ length c.args.values.now = omega arith in
    rw c.finish-2.ensures
    (Pulled-all g.I.Iterator.next_gives c.args.run_ends c.loop-run.run_ends (length c.args.values.now) c.args.count ends _ c.loop-run.run _ given all (c.loop-run.invariant.flags ends given))
