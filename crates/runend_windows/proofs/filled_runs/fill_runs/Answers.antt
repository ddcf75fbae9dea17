use Rattle.std.proofs.Common.{◌≡◌, ◌≢◌, ◌∙◌, ℕ, ◌+◌, ◌^◌, ◌<◌, w64, ap, arith, ⊎_elim}
use Rattle.std.specs.Int.{bit_at, trailing_zeros}
use Rattle.std.proofs.lemmas.Bool.{cases_eq}
use Rattle.std.proofs.lemmas.Nat.Bits.{bit_at-trailing_zeros}
use Rattle.runend_windows.proofs.Lowest.{without_lowest-sub, without_lowest-gone}
use Rattle.runend_windows.proofs.filled_runs.fill_runs.Goals as goal

pub loop-left-preserved : goal.loop-left-preserved
loop-left-preserved g c =
    let inv = c.loop-left.invariant in
    let left : ℕ = c.loop-left.left in
    let t : ℕ = trailing_zeros w64 left in
    let some : 0 < left = omega (arith, c.loop-left-test.true) in
    let small : left < 2 ^ 64 = c.loop-left.auto.left-fits.fits in
    let found = bit_at-trailing_zeros w64 left some small in
    let wrote = c.fill_run.ensures in
    record {
      len = wrote.len;
      sub = λ j h. inv.sub j (without_lowest-sub left j some small h);
      put = λ i below j at one gone. ⊎_elim
          (λ (same : j ≡ t). wrote.here i below (at ∙ ap (λ k. c.args.first + k) same))
          (λ (other : j ≢ t). wrote.others i below (λ e. other (omega arith)) ∙ inv.put i below j at one (without_lowest-gone left j some small gone other))
          (cases_eq j t);
      kept = λ i below j at zero. wrote.others i below
          (λ e. let same : j ≡ t = omega arith in let one : bit_at left j ≡ 1 = rw same found.1 in let high = inv.sub j one in omega arith)
          ∙ inv.kept i below j at zero;
      before = λ i below h. wrote.others i below (λ e. omega arith) ∙ inv.before i below h;
      behind = λ i below h. wrote.others i below (λ e. let near = found.0 in omega arith) ∙ inv.behind i below h;
    }
