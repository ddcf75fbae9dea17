use Rattle.std.proofs.Common.{◌∙◌, ap, arith, ℤ, map, pos, sym}
use Rattle.std.proofs.lemmas.List.{take_all}
use Rattle.std.proofs.lemmas.Simd.{map-map}
use Rattle.column_floats.specs.FloatRows.{bits_of_key}
use Rattle.column_floats.proofs.stored.bits_from.Goals as goal

pub returns-clause-bits : goal.returns-clause-bits
returns-clause-bits g c =
    let bits : ℤ → ℤ = λ n. pos (bits_of_key g.B.FloatBits.format n) in
    c.wrap.ensures.shows ∙ c.loop-row.invariant ∙ ap (map (λ k. bits (g.K.NativePType.number k))) (take_all c.loop-row.row c.args.keys.now (omega arith)) ∙ sym (map-map bits g.K.NativePType.number c.args.keys.now)
