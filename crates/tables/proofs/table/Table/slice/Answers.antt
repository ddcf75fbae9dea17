use Rattle.std.proofs.Common.{Some, None, ap, arith, sym}
use Rattle.column_core.specs.Refusal.{range_fault}
use Rattle.tables.specs.Tables.{TableForm}
use Rattle.tables.proofs.TableRows.{range_fits, range_seen, refused_first, told}
use Rattle.tables.proofs.table.Table.slice.Goals as goal

pub returns-in-Some-clause-refused : goal.returns-in-Some-clause-refused
returns-in-Some-clause-refused g c =
    let count = ap (λ (t : TableForm). t.count) c.self.view_is in
    let seen = range_seen (Some c.in-Some.error) c.args.range.start c.args.range.end c.self.inside.rows c.args.self.now.count count c.in-Some.ensures in
    told (range_fault c.args.range.start c.args.range.end c.args.self.now.count) c.in-Some.error (sym seen)

pub part-requires-clause-ordered : goal.part-requires-clause-ordered
part-requires-clause-ordered g c = (range_fits c.args.range.start c.args.range.end c.self.inside.rows (sym c.in_default.ensures)).0

pub part-requires-clause-inside : goal.part-requires-clause-inside
part-requires-clause-inside g c =
    let inside = (range_fits c.args.range.start c.args.range.end c.self.inside.rows (sym c.in_default.ensures)).1 in
    let count = ap (λ (t : TableForm). t.count) c.self.view_is in
    omega (arith, inside, count)

pub returns-clause-refused : goal.returns-clause-refused
returns-clause-refused g c =
    let count = ap (λ (t : TableForm). t.count) c.self.view_is in
    let seen = range_seen None c.args.range.start c.args.range.end c.self.inside.rows c.args.self.now.count count c.in_default.ensures in
    refused_first (range_fault c.args.range.start c.args.range.end c.args.self.now.count) c.part.result (sym seen) c.part.ensures.only
