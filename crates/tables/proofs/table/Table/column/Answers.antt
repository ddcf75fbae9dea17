use Rattle.std.proofs.Common.{◌∙◌, ap, arith, map}
use Rattle.std.specs.String.{string_bytes}
use Rattle.tables.specs.Tables.{TableForm}
use Rattle.tables.proofs.NameLists.{named_at, place_within}
use Rattle.tables.proofs.Worked.{count_of}
use Rattle.tables.proofs.table.Table.column.Goals as goal

pub index-requires : goal.index-requires
index-requires g c =
    let own = c.self.inside in
    let within = place_within (map string_bytes own.names.items) own.columns.items own.rows c.args.name.now c.in_ok-place.place c.self.invariant (rw c.deref.ensures.value at c.in_ok-place.ensures.found) in
    omega (arith, within, own.columns.ok.0)

pub returns-clause-found : goal.returns-clause-found
returns-clause-found g c =
    let own = c.self.inside in
    named_at (map string_bytes own.names.items) own.columns.items own.rows c.args.self.now c.args.name.now c.in_ok-place.place c.index.result.now c.self.view_is c.self.invariant
    (rw c.deref.ensures.value at c.in_ok-place.ensures.found) c.index.ensures

pub returns-clause-even : goal.returns-clause-even
returns-clause-even g c =
    let own = c.self.inside in
    let within = place_within (map string_bytes own.names.items) own.columns.items own.rows c.args.name.now c.in_ok-place.place c.self.invariant (rw c.deref.ensures.value at c.in_ok-place.ensures.found) in
    count_of own.columns.items own.rows c.in_ok-place.place c.index.result.now c.self.invariant.even within c.index.ensures ∙ ap (λ (t : TableForm). t.count) c.self.view_is
