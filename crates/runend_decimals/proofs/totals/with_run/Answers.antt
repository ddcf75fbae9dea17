use Rattle.std.proofs.Common.{◌≡◌, ◌∙◌, ◌^◌, ◌<◌, ℤ, ◌*◌, ◌-ℤ◌, ◌+ℤ◌, ◌<ℤ◌, ◌≤ℤ◌, pos, FitsSigned, ap, sym, subst, arith, rules}
use Rattle.std.specs.Int.{w128}
use Rattle.std.specs.Prelude.{unsigned_abs}
use Rattle.std.proofs.lemmas.Int.{to_z-of_z}
use Rattle.runend_decimals.proofs.Ways.{far_way, long_way, way_end}
use Rattle.runend_decimals.proofs.totals.with_run.Goals as goal

pub returns-in_err-way-clause-leaves : goal.returns-in_err-way-clause-leaves
returns-in_err-way-clause-leaves c =
    let size : c.unsigned_abs.result ≡ unsigned_abs c.args.number = rw (to_z-of_z w128 c.args.number c.ranges.number) at c.unsigned_abs.ensures.value in
    rw c.from_residual.ensures (long_way c.args.sum c.args.number c.args.rows c.requires (rw size at c.in_err-way.ensures))

pub returns-in_err-next-clause-leaves : goal.returns-in_err-next-clause-leaves
returns-in_err-next-clause-leaves c =
    let size : c.unsigned_abs.result ≡ unsigned_abs c.args.number = rw (to_z-of_z w128 c.args.number c.ranges.number) at c.unsigned_abs.ensures.value in
    let is : c.in_ok-way.way ≡ unsigned_abs c.args.number * c.args.rows = c.in_ok-way.ensures.1 ∙ ap (λ s. s * c.args.rows) size in
    let down : c.args.number <ℤ pos 0 → FitsSigned w128 (c.args.sum -ℤ pos c.in_ok-way.way) → ⊥ = rw (to_z-of_z w128 c.args.number c.ranges.number, to_z-of_z w128 c.args.sum c.ranges.sum) at c.in_err-next.ensures.down in
    let up : pos 0 ≤ℤ c.args.number → FitsSigned w128 (c.args.sum +ℤ pos c.in_ok-way.way) → ⊥ = rw (to_z-of_z w128 c.args.number c.ranges.number, to_z-of_z w128 c.args.sum c.ranges.sum) at c.in_err-next.ensures.up in
    rw c.from_residual-in_err-next.ensures (far_way c.args.sum c.args.number c.args.rows c.in_ok-way.way is down up)

pub returns-then-unsigned_abs-le-GREATEST-clause-sum : goal.returns-then-unsigned_abs-le-GREATEST-clause-sum
returns-then-unsigned_abs-le-GREATEST-clause-sum c =
    let size : c.unsigned_abs.result ≡ unsigned_abs c.args.number = rw (to_z-of_z w128 c.args.number c.ranges.number) at c.unsigned_abs.ensures.value in
    let is : c.in_ok-way.way ≡ unsigned_abs c.args.number * c.args.rows = c.in_ok-way.ensures.1 ∙ ap (λ s. s * c.args.rows) size in
    let down : c.args.number <ℤ pos 0 → FitsSigned w128 (c.args.sum -ℤ pos c.in_ok-way.way) × (c.in_ok-next.next ≡ c.args.sum -ℤ pos c.in_ok-way.way) = rw (to_z-of_z w128 c.args.number c.ranges.number, to_z-of_z w128 c.args.sum c.ranges.sum) at c.in_ok-next.ensures.down in
    let up : pos 0 ≤ℤ c.args.number → FitsSigned w128 (c.args.sum +ℤ pos c.in_ok-way.way) × (c.in_ok-next.next ≡ c.args.sum +ℤ pos c.in_ok-way.way) = rw (to_z-of_z w128 c.args.number c.ranges.number, to_z-of_z w128 c.args.sum c.ranges.sum) at c.in_ok-next.ensures.up in
    let fits : FitsSigned w128 c.in_ok-next.next = search rules in
    rw (to_z-of_z w128 c.in_ok-next.next fits) (way_end c.args.sum c.args.number c.in_ok-next.next c.args.rows c.in_ok-way.way is (λ below. (down below).1) (λ above. (up above).1))

pub returns-then-unsigned_abs-le-GREATEST-clause-within : goal.returns-then-unsigned_abs-le-GREATEST-clause-within
returns-then-unsigned_abs-le-GREATEST-clause-within c = omega (arith, c.if-unsigned_abs-le-GREATEST.true, c.unsigned_abs-2.ensures.value)

pub returns-else-unsigned_abs-le-GREATEST-clause-leaves : goal.returns-else-unsigned_abs-le-GREATEST-clause-leaves
returns-else-unsigned_abs-le-GREATEST-clause-leaves c = λ within.
    let size : c.unsigned_abs.result ≡ unsigned_abs c.args.number = rw (to_z-of_z w128 c.args.number c.ranges.number) at c.unsigned_abs.ensures.value in
    let is : c.in_ok-way.way ≡ unsigned_abs c.args.number * c.args.rows = c.in_ok-way.ensures.1 ∙ ap (λ s. s * c.args.rows) size in
    let down : c.args.number <ℤ pos 0 → FitsSigned w128 (c.args.sum -ℤ pos c.in_ok-way.way) × (c.in_ok-next.next ≡ c.args.sum -ℤ pos c.in_ok-way.way) = rw (to_z-of_z w128 c.args.number c.ranges.number, to_z-of_z w128 c.args.sum c.ranges.sum) at c.in_ok-next.ensures.down in
    let up : pos 0 ≤ℤ c.args.number → FitsSigned w128 (c.args.sum +ℤ pos c.in_ok-way.way) × (c.in_ok-next.next ≡ c.args.sum +ℤ pos c.in_ok-way.way) = rw (to_z-of_z w128 c.args.number c.ranges.number, to_z-of_z w128 c.args.sum c.ranges.sum) at c.in_ok-next.ensures.up in
    let fits : FitsSigned w128 c.in_ok-next.next = search rules in
    let reached = way_end c.args.sum c.args.number c.in_ok-next.next c.args.rows c.in_ok-way.way is (λ below. (down below).1) (λ above. (up above).1) in
    let next_size : c.unsigned_abs-2.result ≡ unsigned_abs c.in_ok-next.next = rw (to_z-of_z w128 c.in_ok-next.next fits) at c.unsigned_abs-2.ensures.value in
    let short : unsigned_abs c.in_ok-next.next < 10 ^ 38 = subst (λ (n : ℤ). unsigned_abs n < 10 ^ 38) (sym reached) within in
    omega (arith, next_size, short, c.if-unsigned_abs-le-GREATEST.false)
