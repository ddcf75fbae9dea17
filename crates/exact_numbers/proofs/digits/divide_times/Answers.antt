use Rattle.std.proofs.Common.{◌≡◌, ◌∙◌, ◌==◌, ◌&&◌, Bool, ap, sym}
use Rattle.float_bits.specs.Places.{value}
use Rattle.exact_numbers.proofs.QuotientLaws.{quotient_next}
use Rattle.exact_numbers.proofs.digits.divide_times.Goals as goal
use Rattle.exact_numbers.proofs.digits.divide_times.Goals.{then-is_exact, else-is_exact}

pub loop-time-preserved : goal.loop-time-preserved
loop-time-preserved c =
    let rest = c.divide-rest.result in
    let exact : c.if-is_exact.is_exact ≡ (c.loop-time.is_exact && (rest == 0)) =
    elim c.if-is_exact.branch [
      | then-is_exact w ↦ w.is_exact-is ∙ sym (ap (λ (x : Bool). x && (rest == 0)) w.if-is_exact.true)
      | else-is_exact w ↦ w.is_exact-is ∙ w.if-is_exact.false ∙ sym (ap (λ (x : Bool). x && (rest == 0)) w.if-is_exact.false)
    ] in
    record {
      digits = c.divide-rest.ensures.digits;
      quotient = quotient_next (value c.args.digits.now) c.args.divisor c.loop-time._time (value c.loop-time.digits) (value c.divide-rest.new.digits) rest c.loop-time.is_exact c.if-is_exact.is_exact c.loop-time.invariant.quotient c.divide-rest.ensures.value c.divide-rest.ensures.rest exact;
    }
