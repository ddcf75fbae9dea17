use Rattle.std.proofs.Common.{◌≡◌, ◌≢◌, ◌∙◌, ℕ, ◌+◌, ◌^◌, ◌<◌, w64, arith, ⊎_elim}
use Rattle.std.specs.Int.{bit_at, trailing_zeros}
use Rattle.std.proofs.lemmas.Bool.{cases_eq}
use Rattle.std.proofs.lemmas.Nat.Bits.{bit_at-trailing_zeros}
use Rattle.column_ops.proofs.Lowest.{without_lowest-sub, without_lowest-gone}
use Rattle.column_ops.proofs.blanks.put_at_ones.Goals as goal

pub loop-left-preserved : goal.loop-left-preserved
loop-left-preserved g c =
    let inv = c.loop-left.invariant in
    let left : ℕ = c.loop-left.left in
    let t : ℕ = trailing_zeros w64 left in
    let some : 0 < left = omega (arith, c.loop-left-test.true) in
    let small : left < 2 ^ 64 = c.loop-left.auto.left-fits.fits in
    let found = bit_at-trailing_zeros w64 left some small in
    let wrote = c.put_within.ensures in
    record {
      len = wrote.len ∙ inv.len;
      sub = λ j h. inv.sub j (without_lowest-sub left j some small h);
      put = λ j below one gone. ⊎_elim
          (λ (same : j ≡ t). rw same wrote.here)
          (λ (other : j ≢ t). wrote.others (c.args.start + j) (λ e. other (omega arith)) ∙ inv.put j below one (without_lowest-gone left j some small gone other))
          (cases_eq j t);
      kept = λ j below zero. wrote.others (c.args.start + j)
          (λ e. let same : j ≡ t = omega arith in let one : bit_at left j ≡ 1 = rw same found.1 in let high = inv.sub j one in omega arith)
          ∙ inv.kept j below zero;
      before = λ k h. wrote.others k (λ e. omega arith) ∙ inv.before k h;
      behind = λ k h. wrote.others k (λ e. let near = found.0 in omega arith) ∙ inv.behind k h;
    }
