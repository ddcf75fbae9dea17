use Rattle.std.proofs.Common.{◌≡◌, ◌∙◌, ℤ, subst, sym, w64, FitsSigned}
use Rattle.std.specs.Int.{w128}
use Rattle.std.proofs.lemmas.Int.{to_z-of_z}
use Rattle.float_bits.specs.Casts.{IsFloatOf}
use Rattle.column_floats.specs.Casts.{Becomes, IsKeyOfInteger}
use Rattle.column_floats.specs.Formats.{keys_of_format}
use Rattle.column_floats.proofs.CastKeys.{key_of_integer}
use Rattle.column_floats.proofs.number_casts.FloatsOfIntegersNumberCast.cast.Goals as goal

pub returns-in-Some : goal.returns-in-Some
returns-in-Some c =
    let own = c.args.self.now in
    let same = to_z-of_z w128 c.args.number c.ranges.number in
    let back = to_z-of_z w128 c.from.result (record { sfits = c.from.type_inv }) ∙ c.from.ensures ∙ to_z-of_z w64 c.total_key.result (record { sfits = c.total_key.type_inv }) ∙ c.total_key.ensures in
    subst (λ (z : ℤ). Becomes (keys_of_format own.to) (IsKeyOfInteger own.to) c.args.number z) (sym back)
    (key_of_integer own.to c.args.number c.in-Some.bits (subst (λ (z : ℤ). IsFloatOf own.to z c.in-Some.bits) same c.in-Some.ensures))
