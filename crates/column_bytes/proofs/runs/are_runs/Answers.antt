use Rattle.std.proofs.Common.{◌≡◌, length, refl, arith}
use Rattle.std.proofs.lemmas.Bool.{leb-true, le-leb}
use Rattle.runend_windows.specs.Ends.{ends_of}
use Rattle.column_bytes.proofs.Ends.{paired, rising_window}
use Rattle.column_bytes.proofs.runs.are_runs.Goals as goal

pub returns-then-rows-eq0 : goal.returns-then-rows-eq0
returns-then-rows-eq0 g c =
    let pairs : c.args.values ≡ length (ends_of c.args.ends.now) = paired c.args.ends.now.numbers c.len.result c.args.values c.len.ensures.numbers c.if-len-values.false in
    (λ _. (rising_window (ends_of c.args.ends.now) c.args.offset c.args.rows c.requires.rising (λ e. absurd (omega (arith, e, pairs, c.if-values-eq0.false))) (λ some. absurd (omega (arith, some, c.if-rows-eq0.true))) (λ some. absurd (omega (arith, some, c.if-rows-eq0.true))) (omega (arith, c.in-Some.ensures)), pairs), λ _. refl)

pub returns : goal.returns
returns g c =
    let pairs : c.args.values ≡ length (ends_of c.args.ends.now) = paired c.args.ends.now.numbers c.len.result c.args.values c.len.ensures.numbers c.if-len-values.false in (
      λ h. (rising_window (ends_of c.args.ends.now) c.args.offset c.args.rows c.requires.rising (λ e. absurd (omega (arith, e, pairs, c.if-values-eq0.false))) (λ _. omega (arith, c.if-first_end-offset.false, c.first_end.ensures)) (λ _. omega (arith, c.in-Some.ensures, c.last_end_of.ensures, leb-true c.in-Some.stop c.last_end_of.result h)) (omega (arith, c.in-Some.ensures)), pairs),
      λ w. le-leb c.in-Some.stop c.last_end_of.result (omega (arith, c.in-Some.ensures, c.last_end_of.ensures, c.if-rows-eq0.false, w.0.last (omega (arith, c.if-rows-eq0.false)))),
    )
