use Rattle.std.proofs.Common.{◌≡◌, ◌∙◌, ℤ, ◌≤ℤ◌, Option, to_z, of_z, ap, sym, subst}
use Rattle.std.specs.Int.{w8, w128}
use Rattle.std.specs.declared.cmp.Ordering.{Ordering}
use Rattle.std.proofs.lemmas.Int.{to_z-of_z}
use Rattle.exact_numbers.specs.Exact.{exact_cmp, exact_decimal, exact_of, holds_exactly}
use Rattle.exact_numbers.specs.Positions.{order_at, IsWithin, NamesWithin}
use Rattle.exact_numbers.proofs.Ranges.{fits_between}
use Rattle.exact_numbers.proofs.numbers.ExactNumber.decide.Goals as goal

pub returns-clause-within : goal.returns-clause-within
returns-clause-within c =
    let least = c.args.least in
    let greatest = c.args.greatest in
    let low = to_z-of_z w128 least c.ranges.least in
    let high = to_z-of_z w128 greatest c.ranges.greatest in
    let names : NamesWithin least greatest c.within-position.result =
    subst (λ (n : ℤ). NamesWithin n greatest c.within-position.result) low (subst (λ (n : ℤ). NamesWithin (to_z w128 (of_z w128 least)) n c.within-position.result) high c.within-position.ensures.names) in
    subst (λ (n : ℤ). IsWithin least n c.decide.result.number) high
    (c.decide.ensures.within least (subst (λ (n : ℤ). least ≤ℤ n) (sym high) c.requires) (subst (λ (n : ℤ). NamesWithin least n c.within-position.result) (sym high) names))

pub returns-clause-decided : goal.returns-clause-decided
returns-clause-decided c = λ row within.
    let least = c.args.least in
    let greatest = c.args.greatest in
    let low = to_z-of_z w128 least c.ranges.least in
    let high = to_z-of_z w128 greatest c.ranges.greatest in
    let scale = to_z-of_z w8 c.args.scale c.ranges.scale in
    let order : exact_cmp (exact_decimal c.args.scale row) (exact_of c.args.self) ≡ order_at c.position.result row =
    ap (λ (k : ℤ). exact_cmp (exact_decimal k row) (exact_of c.args.self)) (sym scale) ∙ c.position.ensures row (fits_between least greatest row c.ranges.least c.ranges.greatest within) in
    let passed : IsWithin (to_z w128 (of_z w128 least)) (to_z w128 (of_z w128 greatest)) row =
    subst (λ (n : ℤ). IsWithin n (to_z w128 (of_z w128 greatest)) row) (sym low) (subst (λ (n : ℤ). IsWithin least n row) (sym high) within) in
    let moved : order_at c.within-position.result row ≡ order_at c.position.result row = c.within-position.ensures.order row passed in
    ap (λ (o : Option Ordering). holds_exactly c.args.operator o) (order ∙ sym moved) ∙ c.decide.ensures.decided row (subst (λ (n : ℤ). row ≤ℤ n) (sym high) within.high)
