use Rattle.std.proofs.Common.{◌≡◌, ◌∙◌, ap, to_z, of_z, ℤ, subst, sym, w64, FitsSigned}
use Rattle.std.specs.Int.{w128}
use Rattle.std.proofs.lemmas.Int.{to_z-of_z}
use Rattle.float_bits.specs.TotalOrder.{total_key}
use Rattle.column_floats.specs.Casts.{Becomes, IsSameKey}
use Rattle.column_floats.specs.Formats.{keys_of_format}
use Rattle.column_floats.proofs.CastKeys.{long_key, no_same_key, same_key}
use Rattle.column_floats.proofs.number_casts.SameFloatsNumberCast.cast.Goals as goal

pub returns-in-Some : goal.returns-in-Some
returns-in-Some c =
    let own = c.args.self.now in
    let fits : FitsSigned w64 c.args.number = long_key own.from c.args.number c.requires in
    let key : total_key own.from c.from_total_key-bits.result ≡ c.args.number = c.from_total_key-bits.ensures.key ∙ ap (λ (z : ℤ). to_z w64 (of_z w64 z)) (to_z-of_z w128 c.args.number c.ranges.number) ∙ to_z-of_z w64 c.args.number fits in
    let back = to_z-of_z w128 c.from.result (record { sfits = c.from.type_inv }) ∙ c.from.ensures ∙ to_z-of_z w64 c.total_key.result (record { sfits = c.total_key.type_inv }) ∙ c.total_key.ensures in
    subst (λ (z : ℤ). Becomes (keys_of_format own.to) (IsSameKey own.from own.to) c.args.number z) (sym back)
    (same_key own.from own.to c.args.number c.from_total_key-bits.result c.in-Some.bits key c.in-Some.ensures)

pub returns-in-None : goal.returns-in-None
returns-in-None c =
    let own = c.args.self.now in
    let fits : FitsSigned w64 c.args.number = long_key own.from c.args.number c.requires in
    let key : total_key own.from c.from_total_key-bits.result ≡ c.args.number = c.from_total_key-bits.ensures.key ∙ ap (λ (z : ℤ). to_z w64 (of_z w64 z)) (to_z-of_z w128 c.args.number c.ranges.number) ∙ to_z-of_z w64 c.args.number fits in
    no_same_key own.from own.to c.args.number c.from_total_key-bits.result key c.in-None.ensures
