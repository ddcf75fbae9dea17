use Rattle.std.proofs.Common.{◌+◌, ◌-◌, ◌<◌, arith, sym, ◌∙◌}
use Rattle.runend_array.proofs.RunParts.{IsWindow-none, IsWindow-some, first_visible-none, first_visible-some, stop_visible-none, stop_visible-some}
use Rattle.runend_array.proofs.array.RunEndArray.runs_showing.Goals as goal

pub returns-then-start-stop-clause-first : goal.returns-then-start-stop-clause-first
returns-then-start-stop-clause-first g c =
    sym (first_visible-none c.args.self.now.ends (c.args.self.now.offset + c.args.start) (c.args.stop - c.args.start) (omega (arith, c.if-start-stop.true)))

pub returns-then-start-stop-clause-stop : goal.returns-then-start-stop-clause-stop
returns-then-start-stop-clause-stop g c =
    sym (stop_visible-none c.args.self.now.ends (c.args.self.now.offset + c.args.start) (c.args.stop - c.args.start) (omega (arith, c.if-start-stop.true)))

pub returns-then-start-stop-clause-window : goal.returns-then-start-stop-clause-window
returns-then-start-stop-clause-window g c =
    IsWindow-none c.args.self.now.ends (c.args.self.now.offset + c.args.start) (c.args.stop - c.args.start) (omega (arith, c.if-start-stop.true))

pub returns-clause-first : goal.returns-clause-first
returns-clause-first g c =
    let some : 0 < c.args.stop - c.args.start = omega (arith, c.if-start-stop.false, c.requires.ordered) in
    c.runs_of_rows.ensures.first ∙ sym (first_visible-some c.args.self.now.ends (c.args.self.now.offset + c.args.start) (c.args.stop - c.args.start) some)

pub returns-clause-stop : goal.returns-clause-stop
returns-clause-stop g c =
    let some : 0 < c.args.stop - c.args.start = omega (arith, c.if-start-stop.false, c.requires.ordered) in
    c.runs_of_rows.ensures.last
    ∙ sym (stop_visible-some c.args.self.now.ends (c.args.self.now.offset + c.args.start) (c.args.stop - c.args.start) (c.args.self.now.offset + c.args.stop - 1) some (omega (arith, some)))

pub returns-clause-window : goal.returns-clause-window
returns-clause-window g c =
    let ends = c.args.self.now.ends in
    let from = c.args.self.now.offset + c.args.start in
    let count = c.args.stop - c.args.start in
    let some : 0 < count = omega (arith, c.if-start-stop.false, c.requires.ordered) in
    IsWindow-some ends from count c.runs_of_rows.result.start c.runs_of_rows.result.end some
    (c.runs_of_rows.ensures.first ∙ sym (first_visible-some ends from count some))
    (c.runs_of_rows.ensures.last ∙ sym (stop_visible-some ends from count (c.args.self.now.offset + c.args.stop - 1) some (omega (arith, some)))) c.runs_of_rows.ensures.window
