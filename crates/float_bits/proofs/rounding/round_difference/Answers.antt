use Rattle.std.proofs.Common.{◌≡◌, ◌^◌, ◌<◌, length, arith, subst, refl}
use Rattle.float_bits.specs.Nearest.{IsNearest}
use Rattle.float_bits.specs.Places.{base, value}
use Rattle.float_bits.proofs.Borrows.{distance_of_more, larger_of_borrow}
use Rattle.float_bits.proofs.PlaceValues.{all_digits_below}
use Rattle.float_bits.proofs.rounding.round_difference.Goals as goal

pub returns-clause-is_negative : goal.returns-clause-is_negative
returns-clause-is_negative c =
    let l : length c.subtract.new.digits ≡ length c.args.left.now = omega arith in
    let b : value c.subtract.new.digits < base ^ length c.args.left.now = subst (λ n. value c.subtract.new.digits < base ^ n) l (all_digits_below _ c.subtract.ensures.digits) in
    ((λ _. larger_of_borrow _ _ _ c.subtract.result _ c.subtract.ensures.value b c.subtract.ensures.borrowed c.if-subtract-eq0.false), (λ _. refl))

pub returns-clause-size : goal.returns-clause-size
returns-clause-size c =
    let l : length c.subtract.new.digits ≡ length c.args.left.now = omega arith in
    let b : value c.subtract.new.digits < base ^ length c.args.left.now = subst (λ n. value c.subtract.new.digits < base ^ n) l (all_digits_below _ c.subtract.ensures.digits) in
    let less = larger_of_borrow _ _ _ c.subtract.result _ c.subtract.ensures.value b c.subtract.ensures.borrowed c.if-subtract-eq0.false in
    let m : length c.subtract-2.new.digits ≡ length c.args.right.now = omega arith in
    let d : value c.subtract-2.new.digits < base ^ length c.args.right.now = subst (λ n. value c.subtract-2.new.digits < base ^ n) m (all_digits_below _ c.subtract-2.ensures.digits) in
    subst (λ n. IsNearest n c.round-2.result) (distance_of_more _ _ _ c.subtract-2.result _ c.subtract-2.ensures.value d c.subtract-2.ensures.borrowed less) c.round-2.ensures
