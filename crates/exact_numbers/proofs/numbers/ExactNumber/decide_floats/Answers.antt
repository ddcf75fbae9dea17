use Rattle.std.proofs.Common.{◌≡◌, ◌∙◌, ◌↔◌, ℕ, false, ap, sym, subst, arith}
use Rattle.std.specs.Prelude.{IsTrue}
use Rattle.column_floats.specs.Comparisons.{HoldsOfNumbers}
use Rattle.exact_numbers.specs.Exact.{exact_cmp, exact_float, exact_of, holds_exactly}
use Rattle.exact_numbers.specs.FloatDecisions.{float_at, is_at_most}
use Rattle.exact_numbers.proofs.FloatOrder.{nowhere, proper_number}
use Rattle.exact_numbers.proofs.FloatTruths.{answers_equal, answers_nowhere, answers_past, less_of}
use Rattle.exact_numbers.proofs.numbers.ExactNumber.decide_floats.Goals as goal

pub returns-then-not-is_from-clause-decided : goal.returns-then-not-is_from-clause-decided
returns-then-not-is_from-clause-decided c = λ row all.
    let f = c.args.format in
    let x = exact_of c.args.self in
    let no : c.is_from.result ≡ false = grind (arith, c.if-not-is_from.true) in
    let is : is_at_most (exact_cmp (exact_float f (float_at f 0)) x) ≡ false = ap (λ (b : ℕ). is_at_most (exact_cmp (exact_float f b) x)) (sym c.float_at.ensures) ∙ sym c.is_from.ensures ∙ no in
    subst (λ (b : ℕ). IsTrue (holds_exactly c.args.operator (exact_cmp (exact_float f row) x)) ↔ HoldsOfNumbers c.args.operator f row b) (sym c.quiet_nan-bits.ensures)
    (answers_nowhere c.args.operator f x row (nowhere f x is))

pub returns-then-is_float-clause-decided : goal.returns-then-is_float-clause-decided
returns-then-is_float-clause-decided c = λ row all.
    answers_equal c.args.operator c.args.format (exact_of c.args.self) c.greatest_float-bits.result row (proper_number c.args.self) c.greatest_float-bits.ensures c.if-is_float.ensures all

pub returns-else-is_float-clause-decided : goal.returns-else-is_float-clause-decided
returns-else-is_float-clause-decided c = λ row all.
    let x = exact_of c.args.self in
    let greatest = c.greatest_float-bits.ensures in
    let less = less_of (exact_cmp (exact_float c.args.format c.greatest_float-bits.result) x) greatest.at_most c.if-is_float.ensures in
    answers_past c.args.operator c.args.format x c.greatest_float-bits.result row c.past.result (proper_number c.args.self) greatest less c.past.ensures.decided all
