use Rattle.std.proofs.Common.{◌≡◌, ◌∙◌, ◌∷◌, ◌-◌, length, take, ap, arith}
use Rattle.runend_windows.proofs.Starts.{starts_from-bounds}
use Rattle.runend_encode.proofs.run_ends.RunBounds.starts.Goals as goal

pub returns : goal.returns
returns g c =
    let ends = c.args.self.now in
    let rows : c.deref.result.now ≡ 0 ∷ ends = c.deref.ensures.value ∙ c.self.invariant ∙ ap (λ ends. 0 ∷ ends) c.self.view_is in
    let runs : c.len.result - 1 ≡ length ends = omega (arith, c.len.ensures, c.deref.ensures.len, ap length rows) in
    (λ i. take (runs i) (rows i)) ∙ starts_from-bounds 0 ends
