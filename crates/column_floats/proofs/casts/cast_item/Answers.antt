use Rattle.std.proofs.Common.{rules, ℤ, subst, FitsSigned}
use Rattle.std.specs.Int.{w128}
use Rattle.std.proofs.lemmas.Int.{to_z-of_z}
use Rattle.column_base.specs.Number.{Narrows}
use Rattle.column_base.specs.Types.{HasNumber}
use Rattle.column_floats.proofs.CastRows.{narrowed}
use Rattle.column_floats.proofs.casts.cast_item.Goals as goal

pub returns-in-Some-cast : goal.returns-in-Some-cast
returns-in-Some-cast g c =
    let cast = c.args.cast.now in
    let n = c.in-Some.number in
    let m = c.in-Some-cast.number in
    let casts = g.C.NumberCast.casts cast in
    let number_fits : FitsSigned w128 n = search rules in
    let cast_fits : FitsSigned w128 m = search rules in
    let becomes = c.in-Some-cast.ensures in
    narrowed g.K.NativePType.number (g.C.NumberCast.target cast) g.K.NativePType.PTYPE casts c.args.number n m c.narrow.result c.in-Some.is c.requires.target
    (becomes.0, subst (λ (z : ℤ). casts z m) (to_z-of_z w128 n number_fits) becomes.1)
    (subst (λ (z : ℤ). Narrows g.K.NativePType.number (HasNumber g.K.NativePType.PTYPE) z c.narrow.result) (to_z-of_z w128 m cast_fits) c.narrow.ensures)
