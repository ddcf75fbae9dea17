use Rattle.std.proofs.Common.{◌∙◌, ap, arith, ℤ, map, sym}
use Rattle.std.specs.Prelude.{unsigned_abs}
use Rattle.std.proofs.lemmas.List.{take_all}
use Rattle.std.proofs.lemmas.Simd.{map-map}
use Rattle.column_floats.specs.Patterns.{stored_key}
use Rattle.column_floats.proofs.stored.keys_from.Goals as goal

pub returns-clause-keys : goal.returns-clause-keys
returns-clause-keys g c =
    let key : ℤ → ℤ = λ n. stored_key c.args.patterns g.B.FloatBits.format (unsigned_abs n) in
    c.wrap.ensures.shows ∙ c.loop-row.invariant ∙ ap (map (λ b. key (g.B.NativePType.number b))) (take_all c.loop-row.row c.args.bits.now (omega arith)) ∙ sym (map-map key g.B.NativePType.number c.args.bits.now)
