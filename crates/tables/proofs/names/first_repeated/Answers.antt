use Rattle.std.proofs.Common.{List, ℕ, map, subst, take}
use Rattle.tables.specs.Tables.{IsPlaceOf, IsUnknown}
use Rattle.tables.proofs.NameLists.{distinct_more, repeated_at}
use Rattle.tables.proofs.names.first_repeated.Goals as goal

pub loop-place-preserved : goal.loop-place-preserved
loop-place-preserved g c =
    let names = c.args.names.now in
    let place = c.loop-place.place in
    distinct_more g.N.Named.named names place c.index-names-place.result c.loop-place-test.true c.index-names-place.is
    (subst (λ (bytes : List ℕ). IsUnknown (map g.N.Named.named (take place names)) bytes) c.name.ensures c.in_default.ensures.unknown) c.loop-place.invariant

pub returns-in-Some : goal.returns-in-Some
returns-in-Some g c =
    let names = c.args.names.now in
    let place = c.loop-place.place in
    repeated_at g.N.Named.named names place c.index-names-place.result c.in-Some.earlier c.loop-place-test.true c.index-names-place.is
    (subst (λ (bytes : List ℕ). IsPlaceOf (map g.N.Named.named (take place names)) bytes c.in-Some.earlier) c.name.ensures c.in-Some.ensures.found) c.loop-place.invariant
