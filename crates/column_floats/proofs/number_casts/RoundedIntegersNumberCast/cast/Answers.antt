use Rattle.std.proofs.Common.{◌≡◌, ◌∙◌, ℤ, subst, sym, w64, FitsSigned}
use Rattle.std.specs.Int.{w128}
use Rattle.std.proofs.lemmas.Int.{to_z-of_z}
use Rattle.float_bits.specs.Casts.{IsNearestToInteger}
use Rattle.column_floats.specs.Casts.{Becomes, IsKeyNearInteger}
use Rattle.column_floats.specs.Formats.{keys_of_format}
use Rattle.column_floats.proofs.CastKeys.{key_near_integer}
use Rattle.column_floats.proofs.number_casts.RoundedIntegersNumberCast.cast.Goals as goal

pub returns : goal.returns
returns c =
    let own = c.args.self.now in
    let same = to_z-of_z w128 c.args.number c.ranges.number in
    let back = to_z-of_z w128 c.from.result (record { sfits = c.from.type_inv }) ∙ c.from.ensures ∙ to_z-of_z w64 c.total_key.result (record { sfits = c.total_key.type_inv }) ∙ c.total_key.ensures in
    subst (λ (z : ℤ). Becomes (keys_of_format own.to) (IsKeyNearInteger own.to) c.args.number z) (sym back)
    (key_near_integer own.to c.args.number c.round_integer-bits.result (subst (λ (z : ℤ). IsNearestToInteger own.to z c.round_integer-bits.result) same c.round_integer-bits.ensures))
