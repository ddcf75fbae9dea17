-- The order of numbers from the other side.
use Rattle.std.proofs.Common.{◌≡◌, ℤ, pos, ◌*ℤ◌, true, false, Some, refl, ap}
use Rattle.std.specs.Ordering.{ordering_reverse}
use Rattle.std.specs.Prelude.{option_map}
use Rattle.std.specs.declared.cmp.Ordering.{Ordering}
use Rattle.std.proofs.lemmas.Cmp.{int_cmp_total}
use Rattle.exact_numbers.specs.Exact.{exact_cmp, Exact, Fraction, Infinite, NotANumber}

pub turned : (x y : Exact) → exact_cmp x y ≡ option_map ordering_reverse (exact_cmp y x)
turned NotANumber NotANumber = refl
turned NotANumber (Infinite b) = refl
turned NotANumber (Fraction n d) = refl
turned (Infinite a) NotANumber = refl
turned (Infinite true) (Infinite true) = refl
turned (Infinite true) (Infinite false) = refl
turned (Infinite false) (Infinite true) = refl
turned (Infinite false) (Infinite false) = refl
turned (Infinite true) (Fraction n d) = refl
turned (Infinite false) (Fraction n d) = refl
turned (Fraction n d) NotANumber = refl
turned (Fraction n d) (Infinite true) = refl
turned (Fraction n d) (Infinite false) = refl
turned (Fraction n d) (Fraction m e) = ap (λ (o : Ordering). Some o) (int_cmp_total.antisymm (n *ℤ pos e) (m *ℤ pos d))
