use Rattle.std.proofs.Common.{◌≡◌, ◌-◌, ℕ, length, get_or, refl, ap, ◌∙◌, arith}
use Rattle.std.proofs.lemmas.Bool.{leb-true, le-leb}
use Rattle.runend_windows.specs.Window.{last_end}
use Rattle.column_bytes.proofs.Ends.{rising_window}
use Rattle.column_bytes.proofs.run_checks.shows_window.Goals as goal

pub returns-then-rows-eq0 : goal.returns-then-rows-eq0
returns-then-rows-eq0 c = λ ends rise counted first last.
    let pairs : c.args.values ≡ length ends = omega (arith, counted, c.if-span-values.false) in
    (λ _. (rising_window ends c.args.offset c.args.rows rise (λ e. absurd (omega (arith, e, pairs, c.if-values-eq0.false))) (λ some. absurd (omega (arith, some, c.if-rows-eq0.true))) (λ some. absurd (omega (arith, some, c.if-rows-eq0.true))) (omega (arith, c.in-Some.ensures)), pairs), λ _. refl)

pub returns : goal.returns
returns c = λ ends rise counted first last.
    let pairs : c.args.values ≡ length ends = omega (arith, counted, c.if-span-values.false) in
    let end : last_end ends ≡ c.args.span.last = ap (λ (n : ℕ). get_or ends (n - 1) 0) counted ∙ last in (
      λ h. (rising_window ends c.args.offset c.args.rows rise (λ e. absurd (omega (arith, e, pairs, c.if-values-eq0.false))) (λ _. omega (arith, c.if-span-offset.false, first)) (λ _. omega (arith, c.in-Some.ensures, end, leb-true c.in-Some.stop c.args.span.last h)) (omega (arith, c.in-Some.ensures)), pairs),
      λ w. le-leb c.in-Some.stop c.args.span.last (omega (arith, c.in-Some.ensures, end, c.if-rows-eq0.false, w.0.last (omega (arith, c.if-rows-eq0.false)))),
    )
