use Rattle.std.proofs.Common.{◌≡◌, ◌∙◌, ap, to_z, of_z, ℤ, subst, sym, w64, FitsSigned, true≢false, rules}
use Rattle.std.specs.Int.{w128}
use Rattle.std.proofs.lemmas.Int.{to_z-of_z}
use Rattle.column_base.specs.Types.{HasNumber}
use Rattle.float_bits.specs.TotalOrder.{total_key}
use Rattle.column_floats.specs.Casts.{Becomes, IsIntegerOfKey}
use Rattle.column_floats.proofs.CastKeys.{integer_of_key, long_key, other_integer_of_key}
use Rattle.column_floats.proofs.number_casts.IntegersOfFloatsNumberCast.cast.Goals as goal

pub returns-in-Some : goal.returns-in-Some
returns-in-Some c =
    let own = c.args.self.now in
    let fits : FitsSigned w64 c.args.number = long_key own.from c.args.number c.requires in
    let key : total_key own.from c.from_total_key-bits.result ≡ c.args.number = c.from_total_key-bits.ensures.key ∙ ap (λ (z : ℤ). to_z w64 (of_z w64 z)) (to_z-of_z w128 c.args.number c.ranges.number) ∙ to_z-of_z w64 c.args.number fits in
    let integer_fits : FitsSigned w128 c.in-Some.integer = search rules in
    let back = to_z-of_z w128 c.in-Some.integer integer_fits in
    subst (λ (z : ℤ). Becomes own.to (IsIntegerOfKey own.from) c.args.number z) (sym back)
    (integer_of_key own.from own.to c.args.number c.from_total_key-bits.result c.in-Some.integer key c.in-Some.ensures (subst (λ (z : ℤ). HasNumber own.to z) back (c.has_integer.ensures.0 c.if-has_integer.true)))

pub returns-in_default : goal.returns-in_default
returns-in_default c =
    let own = c.args.self.now in
    let fits : FitsSigned w64 c.args.number = long_key own.from c.args.number c.requires in
    let key : total_key own.from c.from_total_key-bits.result ≡ c.args.number = c.from_total_key-bits.ensures.key ∙ ap (λ (z : ℤ). to_z w64 (of_z w64 z)) (to_z-of_z w128 c.args.number c.ranges.number) ∙ to_z-of_z w64 c.args.number fits in
    let integer_fits : FitsSigned w128 c.in-Some.integer = search rules in
    let back = to_z-of_z w128 c.in-Some.integer integer_fits in
    other_integer_of_key own.from own.to c.args.number c.from_total_key-bits.result c.in-Some.integer key c.in-Some.ensures
    (λ has. true≢false (sym (c.has_integer.ensures.1 (subst (λ (z : ℤ). HasNumber own.to z) (sym back) has)) ∙ c.if-has_integer.false))
