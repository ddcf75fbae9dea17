use Rattle.std.proofs.Common.{◌+◌, ◌-◌, ◌<◌, arith, sym, ap, ◌∙◌}
use Rattle.runend_array.specs.Column.{Runs}
use Rattle.runend_array.proofs.RunParts.{position_of-none, position_of-some}
use Rattle.runend_array.proofs.array.RunEndArray.position_of.Goals as goal

pub returns-then-start-stop : goal.returns-then-start-stop
returns-then-start-stop g c = sym (position_of-none (c.args.stop - c.args.start) (c.args.self.now.offset + c.args.start) (omega (arith, c.if-start-stop.true)))

pub returns : goal.returns
returns g c =
    let some : 0 < c.args.stop - c.args.start = omega (arith, c.if-start-stop.false, c.requires.ordered) in
    ap (λ (r : Runs). r.offset + c.args.start) c.self.view_is ∙ sym (position_of-some (c.args.stop - c.args.start) (c.args.self.now.offset + c.args.start) some)
