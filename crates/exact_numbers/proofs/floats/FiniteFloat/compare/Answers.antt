use Rattle.std.proofs.Common.{◌≡◌, ◌∙◌, ◌*◌, ◌^◌, ◌-◌, ◌*ℤ◌, ℕ, ℤ, pos, min, FitsSigned, Some, to_z, of_z, ap, sym}
use Rattle.std.specs.Int.{w128}
use Rattle.std.specs.Ordering.{int_cmp}
use Rattle.std.specs.declared.cmp.Ordering.{Ordering}
use Rattle.std.proofs.lemmas.Int.{to_z-of_z}
use Rattle.float_bits.specs.CommonSizes.{one_size}
use Rattle.float_bits.specs.Number.{with_sign}
use Rattle.exact_numbers.specs.Floats.{size_of}
use Rattle.exact_numbers.proofs.Among.{one_some}
use Rattle.exact_numbers.proofs.Doubled.{doubled_order}
use Rattle.exact_numbers.proofs.floats.FiniteFloat.compare.Goals as goal

pub returns : goal.returns
returns c =
    let x = c.args.self in
    let y = c.args.other in
    let left_fits : FitsSigned w128 c.doubled-left.result = record { sfits = c.doubled-left.type_inv } in
    let right_fits : FitsSigned w128 c.doubled-right.result = record { sfits = c.doubled-right.type_inv } in
    let left : c.doubled-left.result ≡ with_sign x.is_positive (x.digits * 2 ^ min (x.doublings - y.doublings) 64) =
    c.doubled-left.ensures ∙ ap (λ (k : ℕ). with_sign x.is_positive (x.digits * 2 ^ min k 64)) c.saturating_sub.ensures in
    let right : c.doubled-right.result ≡ with_sign y.is_positive (y.digits * 2 ^ min (y.doublings - x.doublings) 64) =
    c.doubled-right.ensures ∙ ap (λ (k : ℕ). with_sign y.is_positive (y.digits * 2 ^ min k 64)) c.saturating_sub-2.ensures in
    let passed : c.cmp.result ≡ int_cmp c.doubled-left.result c.doubled-right.result =
    c.cmp.ensures ∙ ap (λ (z : ℤ). int_cmp z (to_z w128 (of_z w128 c.doubled-right.result))) (to_z-of_z w128 c.doubled-left.result left_fits) ∙ ap (λ (z : ℤ). int_cmp c.doubled-left.result z) (to_z-of_z w128 c.doubled-right.result right_fits) in
    let shown : c.cmp.result ≡ int_cmp (with_sign x.is_positive (size_of x) *ℤ pos one_size) (with_sign y.is_positive (size_of y) *ℤ pos one_size) =
    passed ∙ ap (λ (z : ℤ). int_cmp z c.doubled-right.result) left ∙ ap (λ (z : ℤ). int_cmp (with_sign x.is_positive (x.digits * 2 ^ min (x.doublings - y.doublings) 64)) z) right
    ∙ doubled_order x.is_positive y.is_positive x.digits y.digits x.doublings y.doublings one_size c.requires.small.digits c.requires.other.digits one_some in
    ap (λ (o : Ordering). Some o) (sym shown)
