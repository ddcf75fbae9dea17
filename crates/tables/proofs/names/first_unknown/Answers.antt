use Rattle.std.proofs.Common.{ℕ, List, map, subst}
use Rattle.std.specs.Prelude.{IfNone}
use Rattle.std.specs.String.{string_bytes}
use Rattle.tables.specs.Tables.{IsUnknown}
use Rattle.tables.proofs.NameLists.{mapped_at}
use Rattle.tables.proofs.Selections.{known_by, known_more, unknown_at}
use Rattle.tables.proofs.names.first_unknown.Goals as goal

pub loop-place-preserved : goal.loop-place-preserved
loop-place-preserved g c =
    let own = map string_bytes c.args.own.now in
    let name = c.index-names-place.result in
    let known = known_by c.place_of.result c.is_none.result own c.name.result.now c.is_none.ensures c.if-is_none.false c.place_of.ensures.found in
    known_more own (map g.N.Named.named c.args.names.now) c.loop-place.place (g.N.Named.named name) (mapped_at g.N.Named.named c.args.names.now c.loop-place.place name c.loop-place-test.true c.index-names-place.is)
    (rw c.name.ensures at known) c.loop-place.invariant

pub returns-then-is_none : goal.returns-then-is_none
returns-then-is_none g c =
    let own = map string_bytes c.args.own.now in
    let name = c.index-names-place.result in
    unknown_at c.place_of.result c.is_none.result own (map g.N.Named.named c.args.names.now) c.loop-place.place (g.N.Named.named name)
    (mapped_at g.N.Named.named c.args.names.now c.loop-place.place name c.loop-place-test.true c.index-names-place.is) c.is_none.ensures c.if-is_none.true
    (subst (λ (bytes : List ℕ). IfNone c.place_of.result (IsUnknown own bytes)) c.name.ensures c.place_of.ensures.unknown) c.loop-place.invariant
