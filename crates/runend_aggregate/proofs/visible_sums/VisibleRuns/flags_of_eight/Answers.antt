use Rattle.std.proofs.Common.{◌≡◌, ◌∙◌, ◌+◌, ◌-◌, ◌≤◌, map, slice_get, sym, ap, arith}
use Rattle.column_base.specs.Words.{one_if}
use Rattle.column_sums.specs.Reach.{has_number}
use Rattle.column_sums.proofs.Reaches.{if_some}
use Rattle.runend_aggregate.proofs.RunRows.{length-runs_from, shown-number}
use Rattle.runend_aggregate.proofs.visible_sums.VisibleRuns.flags_of_eight.Goals as goal

pub prove-unreachable-requires : goal.prove-unreachable-requires
prove-unreachable-requires g c =
    let own = c.args.self.now in
    let ends = map g.E.UnsignedPType.natural own.ends.now in
    omega (arith, c.if-prove.true, c.requires, length-runs_from ends (g.N.Numbers.numbers own.numbers.now) own.offset own.count own.first (own.stop - own.first))

pub flags_of_eight-requires : goal.flags_of_eight-requires
flags_of_eight-requires g c =
    let own = c.args.self.now in
    let ends = map g.E.UnsignedPType.natural own.ends.now in
    omega (arith, c.requires, own.inside, own.paired, length-runs_from ends (g.N.Numbers.numbers own.numbers.now) own.offset own.count own.first (own.stop - own.first))

pub returns : goal.returns
returns g c =
    let own = c.args.self.now in
    let ends = map g.E.UnsignedPType.natural own.ends.now in
    let numbers = g.N.Numbers.numbers own.numbers.now in
    let shown = own.stop - own.first in
    let within : c.args.from + 8 ≤ shown = omega (arith, c.requires, length-runs_from ends numbers own.offset own.count own.first shown) in
    if_some _ _ c.flags_of_eight.result
    (λ flags are k h.
    let at : own.first + c.args.from + k ≡ own.first + (c.args.from + k) = omega arith in
    are k h ∙ ap (λ place. one_if (has_number (slice_get numbers place))) at
    ∙ ap (λ value. one_if (has_number value))
    (sym (shown-number ends numbers own.offset own.count own.first shown (c.args.from + k) (omega (arith, within, h)) (omega (arith, within, own.inside, own.paired)))))
    c.flags_of_eight.ensures
