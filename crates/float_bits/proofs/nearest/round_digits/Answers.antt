use Rattle.std.proofs.Common.{◌+◌, ◌*◌, ◌/◌, ◌%◌, ◌^◌, ◌≡◌, true, arith, ap, subst, sym, ◌∙◌}
use Rattle.float_bits.specs.Format.{exponent_unit}
use Rattle.float_bits.specs.Nearest.{IsExactly, IsNearestIn}
use Rattle.float_bits.proofs.CutSizes.{cut_down, cut_even, cut_exactly, cut_inexactly, cut_up, exactly_tested, kept_of}
use Rattle.float_bits.proofs.nearest.round_digits.Goals as goal

pub cut_digits-cut-requires-clause-few : goal.cut_digits-cut-requires-clause-few
cut_digits-cut-requires-clause-few c =
    let k = kept_of c.args.format c.args.digits c.args.doublings c.args.steps c.args.shift c.requires.high c.requires.low c.requires.steps c.requires.shift c.requires.some in
    let few = k.kept_few in omega arith

pub overflow_add-bits : goal.overflow_add-bits
overflow_add-bits c =
    let k = kept_of c.args.format c.args.digits c.args.doublings c.args.steps c.args.shift c.requires.high c.requires.low c.requires.steps c.requires.shift c.requires.some in
    let same : c.args.steps * c.exponent_unit.result + c.cut_digits-cut.result.kept ≡ c.args.steps * exponent_unit c.args.format + c.args.digits * 2 ^ 63 / 2 ^ c.args.shift = ap (λ z. c.args.steps * z + c.cut_digits-cut.result.kept) c.exponent_unit.ensures ∙ ap (λ z. c.args.steps * exponent_unit c.args.format + z) c.cut_digits-cut.ensures.kept in
    let few = k.bits_few in omega arith

pub overflow_add-result : goal.overflow_add-result
overflow_add-result c =
    let k = kept_of c.args.format c.args.digits c.args.doublings c.args.steps c.args.shift c.requires.high c.requires.low c.requires.steps c.requires.shift c.requires.some in
    let same : c.args.steps * c.exponent_unit.result + c.cut_digits-cut.result.kept ≡ c.args.steps * exponent_unit c.args.format + c.args.digits * 2 ^ 63 / 2 ^ c.args.shift = ap (λ z. c.args.steps * z + c.cut_digits-cut.result.kept) c.exponent_unit.ensures ∙ ap (λ z. c.args.steps * exponent_unit c.args.format + z) c.cut_digits-cut.ensures.kept in
    let few = k.bits_few in omega arith

pub overflow_add-result-2 : goal.overflow_add-result-2
overflow_add-result-2 c =
    let k = kept_of c.args.format c.args.digits c.args.doublings c.args.steps c.args.shift c.requires.high c.requires.low c.requires.steps c.requires.shift c.requires.some in
    let same : c.args.steps * c.exponent_unit.result + c.cut_digits-cut.result.kept ≡ c.args.steps * exponent_unit c.args.format + c.args.digits * 2 ^ 63 / 2 ^ c.args.shift = ap (λ z. c.args.steps * z + c.cut_digits-cut.result.kept) c.exponent_unit.ensures ∙ ap (λ z. c.args.steps * exponent_unit c.args.format + z) c.cut_digits-cut.ensures.kept in
    let few = k.bits_few in omega arith

pub returns-then-cut-clause-nearest : goal.returns-then-cut-clause-nearest
returns-then-cut-clause-nearest c =
    let k = kept_of c.args.format c.args.digits c.args.doublings c.args.steps c.args.shift c.requires.high c.requires.low c.requires.steps c.requires.shift c.requires.some in
    let same : c.args.steps * c.exponent_unit.result + c.cut_digits-cut.result.kept ≡ c.args.steps * exponent_unit c.args.format + c.args.digits * 2 ^ 63 / 2 ^ c.args.shift = ap (λ z. c.args.steps * z + c.cut_digits-cut.result.kept) c.exponent_unit.ensures ∙ ap (λ z. c.args.steps * exponent_unit c.args.format + z) c.cut_digits-cut.ensures.kept in
    let lost = c.cut_digits-cut.ensures.lost in
    let half = c.cut_digits-cut.ensures.half in
    subst (λ b. IsNearestIn c.args.format (c.args.digits * 2 ^ c.args.doublings) b) (sym same) (cut_down c.args.format _ _ _ _ _ _ _ k (omega arith))

pub returns-then-cut-clause-exact : goal.returns-then-cut-clause-exact
returns-then-cut-clause-exact c =
    let k = kept_of c.args.format c.args.digits c.args.doublings c.args.steps c.args.shift c.requires.high c.requires.low c.requires.steps c.requires.shift c.requires.some in
    let same : c.args.steps * c.exponent_unit.result + c.cut_digits-cut.result.kept ≡ c.args.steps * exponent_unit c.args.format + c.args.digits * 2 ^ 63 / 2 ^ c.args.shift = ap (λ z. c.args.steps * z + c.cut_digits-cut.result.kept) c.exponent_unit.ensures ∙ ap (λ z. c.args.steps * exponent_unit c.args.format + z) c.cut_digits-cut.ensures.kept in
    let lost = c.cut_digits-cut.ensures.lost in
    exactly_tested c.args.format (c.args.digits * 2 ^ c.args.doublings) _ c.cut_digits-cut.result.lost
    (λ z. subst (λ b. IsExactly c.args.format (c.args.digits * 2 ^ c.args.doublings) b true) (sym same) (cut_exactly c.args.format _ _ _ _ _ _ _ k (omega arith)))
    (λ p. cut_inexactly c.args.format _ _ _ _ _ _ _ 0 k (omega arith))

pub returns-then-cut-2-clause-nearest : goal.returns-then-cut-2-clause-nearest
returns-then-cut-2-clause-nearest c =
    let k = kept_of c.args.format c.args.digits c.args.doublings c.args.steps c.args.shift c.requires.high c.requires.low c.requires.steps c.requires.shift c.requires.some in
    let same : c.args.steps * c.exponent_unit.result + c.cut_digits-cut.result.kept ≡ c.args.steps * exponent_unit c.args.format + c.args.digits * 2 ^ 63 / 2 ^ c.args.shift = ap (λ z. c.args.steps * z + c.cut_digits-cut.result.kept) c.exponent_unit.ensures ∙ ap (λ z. c.args.steps * exponent_unit c.args.format + z) c.cut_digits-cut.ensures.kept in
    let lost = c.cut_digits-cut.ensures.lost in
    let half = c.cut_digits-cut.ensures.half in
    subst (λ b. IsNearestIn c.args.format (c.args.digits * 2 ^ c.args.doublings) (b + 1)) (sym same) (cut_up c.args.format _ _ _ _ _ _ _ k (omega arith))

pub returns-then-cut-2-clause-exact : goal.returns-then-cut-2-clause-exact
returns-then-cut-2-clause-exact c =
    let k = kept_of c.args.format c.args.digits c.args.doublings c.args.steps c.args.shift c.requires.high c.requires.low c.requires.steps c.requires.shift c.requires.some in
    let lost = c.cut_digits-cut.ensures.lost in
    let half = c.cut_digits-cut.ensures.half in
    cut_inexactly c.args.format _ _ _ _ _ _ _ 0 k (omega arith)

pub returns-clause-nearest : goal.returns-clause-nearest
returns-clause-nearest c =
    let k = kept_of c.args.format c.args.digits c.args.doublings c.args.steps c.args.shift c.requires.high c.requires.low c.requires.steps c.requires.shift c.requires.some in
    let same : c.args.steps * c.exponent_unit.result + c.cut_digits-cut.result.kept ≡ c.args.steps * exponent_unit c.args.format + c.args.digits * 2 ^ 63 / 2 ^ c.args.shift = ap (λ z. c.args.steps * z + c.cut_digits-cut.result.kept) c.exponent_unit.ensures ∙ ap (λ z. c.args.steps * exponent_unit c.args.format + z) c.cut_digits-cut.ensures.kept in
    let lost = c.cut_digits-cut.ensures.lost in
    let half = c.cut_digits-cut.ensures.half in
    let parity : c.cut_digits-cut.result.kept % 2 ≡ c.args.digits * 2 ^ 63 / 2 ^ c.args.shift % 2 = ap (λ z. z % 2) c.cut_digits-cut.ensures.kept in
    subst (λ b. IsNearestIn c.args.format (c.args.digits * 2 ^ c.args.doublings) b) (sym (ap (λ z. z + c.cut_digits-cut.result.kept % 2) same ∙ ap (λ z. c.args.steps * exponent_unit c.args.format + c.args.digits * 2 ^ 63 / 2 ^ c.args.shift + z) parity))
    (cut_even c.args.format _ _ _ _ _ _ _ k (omega arith))

pub returns-clause-exact : goal.returns-clause-exact
returns-clause-exact c =
    let k = kept_of c.args.format c.args.digits c.args.doublings c.args.steps c.args.shift c.requires.high c.requires.low c.requires.steps c.requires.shift c.requires.some in
    let lost = c.cut_digits-cut.ensures.lost in
    let half = c.cut_digits-cut.ensures.half in
    cut_inexactly c.args.format _ _ _ _ _ _ _ 0 k (omega arith)
