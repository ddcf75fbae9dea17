use Rattle.std.proofs.Common.{◌≡◌, ℕ, zero, suc, ◌-◌, ◌<◌, ◌∙◌, false, length, map, refl, sym, ap, arith}
use Rattle.std.specs.Prelude.{◌==◌, slice_index}
use Rattle.std.proofs.lemmas.List.{length-map}
use Rattle.runend_windows.specs.Window.{last_end}
use Rattle.runend_windows.specs.WindowFault.{AreStrictRuns}
use Rattle.runend_windows.proofs.Items.{slice_index-map_read}
use Rattle.runend_windows.proofs.validate.validate_window.Goals as goal

nonempty : (n : ℕ) → false ≡ (n == 0) → 0 < n
nonempty zero e = cc
nonempty (suc n) e = omega arith

pub returns-then-ends-values : goal.returns-then-ends-values
returns-then-ends-values g c =
    let long = length-map c.args.ends.now g.E.UnsignedPType.natural in
    (sym long, refl, λ e. c.if-ends-values.true (sym long ∙ e))

pub returns-in-Some : goal.returns-in-Some
returns-in-Some g c = (sym c.if-ends-values.false ∙ sym (length-map c.args.ends.now g.E.UnsignedPType.natural), c.in-Some.ensures)

pub returns-in_default-checked_add : goal.returns-in_default-checked_add
returns-in_default-checked_add g c =
    let natural = g.E.UnsignedPType.natural in
    let ends = c.args.ends.now in
    let long = length-map ends natural in
    let some = nonempty (length ends) c.if-is_empty.ensures in
    let strict : AreStrictRuns (map natural ends) c.args.values = record {
      paired = sym c.if-ends-values.false ∙ sym long;
      some = omega (arith, long, some);
      increasing = c.in_default.ensures;
    } in
    (strict, omega (arith, c.in_default-checked_add.ensures))

pub returns-then-count-eq0 : goal.returns-then-count-eq0
returns-then-count-eq0 g c =
    let natural = g.E.UnsignedPType.natural in
    let ends = c.args.ends.now in
    let long = length-map ends natural in
    let some = nonempty (length ends) c.if-is_empty.ensures in
    let strict : AreStrictRuns (map natural ends) c.args.values = record {
      paired = sym c.if-ends-values.false ∙ sym long;
      some = omega (arith, long, some);
      increasing = c.in_default.ensures;
    } in (
      record {
        increasing = strict.increasing;
        none = λ none. absurd (omega (arith, none, long, some));
        first = λ more. absurd (omega (arith, more, c.if-count-eq0.true));
        last = λ more. absurd (omega (arith, more, c.if-count-eq0.true));
        small = omega arith;
      },
      strict.paired,
    )

pub returns-then-first-offset : goal.returns-then-first-offset
returns-then-first-offset g c =
    let natural = g.E.UnsignedPType.natural in
    let ends = c.args.ends.now in
    let long = length-map ends natural in
    let some = nonempty (length ends) c.if-is_empty.ensures in
    let strict : AreStrictRuns (map natural ends) c.args.values = record {
      paired = sym c.if-ends-values.false ∙ sym long;
      some = omega (arith, long, some);
      increasing = c.in_default.ensures;
    } in
    let first : c.to_u64-first.result ≡ slice_index (map natural ends) 0 = c.to_u64-first.ensures ∙ sym (slice_index-map_read natural ends 0 c.index-ends-0.result some c.index-ends-0.is) in
    (strict, omega arith, first, refl, omega arith, c.if-first-offset.true)

pub returns-then-last-required : goal.returns-then-last-required
returns-then-last-required g c =
    let natural = g.E.UnsignedPType.natural in
    let ends = c.args.ends.now in
    let long = length-map ends natural in
    let some = nonempty (length ends) c.if-is_empty.ensures in
    let strict : AreStrictRuns (map natural ends) c.args.values = record {
      paired = sym c.if-ends-values.false ∙ sym long;
      some = omega (arith, long, some);
      increasing = c.in_default.ensures;
    } in
    let first : c.to_u64-first.result ≡ slice_index (map natural ends) 0 = c.to_u64-first.ensures ∙ sym (slice_index-map_read natural ends 0 c.index-ends-0.result some c.index-ends-0.is) in
    let last : c.to_u64-last.result ≡ last_end (map natural ends) = c.to_u64-last.ensures
    ∙ sym (slice_index-map_read natural ends (length ends - 1) c.index-ends-ends.result (omega (arith, some)) c.index-ends-ends.is)
    ∙ ap (λ n. slice_index (map natural ends) (n - 1)) (sym long) in
    (strict, omega arith, omega (arith, first, c.if-first-offset.false), last, omega arith, omega arith, c.if-last-required.true)

pub returns : goal.returns
returns g c =
    let natural = g.E.UnsignedPType.natural in
    let ends = c.args.ends.now in
    let long = length-map ends natural in
    let some = nonempty (length ends) c.if-is_empty.ensures in
    let strict : AreStrictRuns (map natural ends) c.args.values = record {
      paired = sym c.if-ends-values.false ∙ sym long;
      some = omega (arith, long, some);
      increasing = c.in_default.ensures;
    } in
    let first : c.to_u64-first.result ≡ slice_index (map natural ends) 0 = c.to_u64-first.ensures ∙ sym (slice_index-map_read natural ends 0 c.index-ends-0.result some c.index-ends-0.is) in
    let last : c.to_u64-last.result ≡ last_end (map natural ends) = c.to_u64-last.ensures
    ∙ sym (slice_index-map_read natural ends (length ends - 1) c.index-ends-ends.result (omega (arith, some)) c.index-ends-ends.is)
    ∙ ap (λ n. slice_index (map natural ends) (n - 1)) (sym long) in (
      record {
        increasing = strict.increasing;
        none = λ none. absurd (omega (arith, none, long, some));
        first = λ more. omega (arith, first, c.if-first-offset.false);
        last = λ more. omega (arith, last, c.if-last-required.false);
        small = omega arith;
      },
      strict.paired,
    )
