use Rattle.std.proofs.Common.{◌≡◌, Some, length, map, refl, ◌∙◌, ap, arith}
use Rattle.std.specs.List.{slice_get}
use Rattle.std.specs.Option.{option_map}
use Rattle.std.proofs.lemmas.Option.{slice_get-map, slice_get_read}
use Rattle.runend_windows.proofs.RunEnds.{Pulled-more, Pulled-within, Pulled-next_mapped, Pulled-all}
use Rattle.runend_windows.proofs.typed.repeat_values.Goals as goal

pub next_end-requires-clause-more : goal.next_end-requires-clause-more
next_end-requires-clause-more g c after =
    let given = c.requires.ends in
    Pulled-more g.I.Iterator.next_gives c.args.run_ends c.loop-value.run_ends after (length c.args.values.now) c.args.count given.0 _ c.loop-value.value-index _ given.1 c.loop-value-test.true
    (c.loop-value.invariant.rows given.0 given.1)

pub repeat_to-requires : goal.repeat_to-requires
repeat_to-requires g c =
    let given = c.requires.ends in
    let within = Pulled-within g.I.Iterator.next_gives c.args.run_ends c.loop-value.run_ends c.next_end.new.run_ends (length c.args.values.now) c.args.count given.0 _ c.loop-value.value-index _
    c.next_end.result given.1 c.loop-value-test.true c.next_end.ensures.gives (c.loop-value.invariant.rows given.0 given.1) in
    omega arith

pub loop-value-preserved : goal.loop-value-preserved
loop-value-preserved g c =
    let number = g.T.NativePType.number in
    let values = c.args.values.now in
    let value = c.value-item.result in
    let run = c.loop-value.value-index in
    let here : slice_get (map number values) run ≡ Some (number value) =
    slice_get-map number values run ∙ ap (option_map number) (slice_get_read values (length values) run value refl c.loop-value-test.true c.value-item.is) in
    record {
      can = c.next_end.ensures.can;
      limit = c.repeat_to.ensures.limit ∙ c.loop-value.invariant.limit;
      rows = λ ends given. Pulled-next_mapped g.I.Iterator.next_gives c.args.run_ends c.loop-value.run_ends c.next_end.new.run_ends (length values) c.args.count ends (map number values) run
          number c.loop-value.rows.rows c.repeat_to.new.self.rows c.next_end.result value given c.loop-value-test.true c.next_end.ensures.gives here c.repeat_to.ensures.rows
          (c.loop-value.invariant.rows ends given);
    }

pub returns-clause-fills : goal.returns-clause-fills
returns-clause-fills g c ends given =
    let all : c.loop-value.value-index ≡ length c.args.values.now = omega arith in
    rw c.finish.ensures
    (Pulled-all g.I.Iterator.next_gives c.args.run_ends c.loop-value.run_ends (length c.args.values.now) c.args.count ends _ c.loop-value.value-index _ given all
    (c.loop-value.invariant.rows ends given))
