use Rattle.std.proofs.Common.{◌≡◌, ◌∙◌, ap, to_z, of_z, ℤ, subst, sym, w64, FitsSigned}
use Rattle.std.specs.Int.{w128}
use Rattle.std.proofs.lemmas.Int.{to_z-of_z}
use Rattle.float_bits.specs.TotalOrder.{total_key}
use Rattle.column_floats.specs.Casts.{Becomes, IsRoundedKey}
use Rattle.column_floats.specs.Formats.{keys_of_format}
use Rattle.column_floats.proofs.CastKeys.{long_key, rounded_key}
use Rattle.column_floats.proofs.number_casts.RoundedFloatsNumberCast.cast.Goals as goal

pub returns : goal.returns
returns c =
    let own = c.args.self.now in
    let fits : FitsSigned w64 c.args.number = long_key own.from c.args.number c.requires in
    let key : total_key own.from c.from_total_key-bits.result ≡ c.args.number = c.from_total_key-bits.ensures.key ∙ ap (λ (z : ℤ). to_z w64 (of_z w64 z)) (to_z-of_z w128 c.args.number c.ranges.number) ∙ to_z-of_z w64 c.args.number fits in
    let back = to_z-of_z w128 c.from.result (record { sfits = c.from.type_inv }) ∙ c.from.ensures ∙ to_z-of_z w64 c.total_key.result (record { sfits = c.total_key.type_inv }) ∙ c.total_key.ensures in
    subst (λ (z : ℤ). Becomes (keys_of_format own.to) (IsRoundedKey own.from own.to) c.args.number z) (sym back)
    (rounded_key own.from own.to c.args.number c.from_total_key-bits.result c.round_float-bits.result key c.round_float-bits.ensures)
