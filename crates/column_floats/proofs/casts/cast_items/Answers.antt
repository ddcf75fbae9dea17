use Rattle.std.proofs.Common.{◌+◌, refl, inr, map, take, subst, sym}
use Rattle.std.specs.List.{AllZip}
use Rattle.column_core.specs.PrimitiveForm.{optional_numbers}
use Rattle.column_floats.specs.Casts.{Becomes, IsStoredFor}
use Rattle.column_floats.proofs.CastRows.{refused_at, stored_more}
use Rattle.column_floats.proofs.casts.cast_items.Goals as goal

pub returns-in-None-clause-refused : goal.returns-in-None-clause-refused
returns-in-None-clause-refused g c =
    let becomes = Becomes (g.C.NumberCast.target c.args.cast.now) (g.C.NumberCast.casts c.args.cast.now) in
    inr (refl, refused_at becomes (optional_numbers c.args.array.now) c.loop-row.row c.number_at.result c.number_at.ensures.number c.in-None.ensures)

pub loop-row-preserved : goal.loop-row-preserved
loop-row-preserved g c =
    let becomes = Becomes (g.C.NumberCast.target c.args.cast.now) (g.C.NumberCast.casts c.args.cast.now) in
    let xs = optional_numbers c.args.array.now in
    subst (λ ys. AllZip (IsStoredFor becomes) (take (c.loop-row.row + 1) xs) (map g.K.NativePType.number ys)) (sym c.in_ok-push-in-Some.ensures.items)
    (stored_more g.K.NativePType.number becomes xs c.loop-row.row c.number_at.result c.loop-row.items.items c.in-Some.item c.number_at.ensures.number c.loop-row.invariant c.in-Some.ensures)
