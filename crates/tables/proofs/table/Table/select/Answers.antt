use Rattle.std.proofs.Common.{◌∙◌, ℕ, List, ap, map, subst, sym}
use Rattle.std.specs.String.{string_bytes}
use Rattle.tables.specs.TableFaults.{IsNameFault}
use Rattle.tables.specs.Tables.{TableForm}
use Rattle.tables.proofs.Selections.{by_choice, selected_table}
use Rattle.tables.proofs.TableRows.{table_seen}
use Rattle.tables.proofs.table.Table.select.Goals as goal

pub returns-in-Some-clause-refused : goal.returns-in-Some-clause-refused
returns-in-Some-clause-refused g c =
    let names = map string_bytes c.args.names.now in
    let seen = ap (map string_bytes) c.deref.ensures.value ∙ ap (λ (t : TableForm). t.names) c.self.view_is in
    by_choice c.args.self.now.names names c.in-Some.error (subst (λ (own : List (List ℕ)). IsNameFault own names c.in-Some.error) seen c.in-Some.ensures)

pub invariant_of-result : goal.invariant_of-result
invariant_of-result g c =
    let count = ap (λ (t : TableForm). t.count) c.self.view_is in
    selected_table c.args.self.now (map string_bytes c.args.names.now) c.in_ok-copies.copies.items c.in-Ok.columns.items c.self.inside.rows c.in_ok-copies.ensures.names (sym count)
    (table_seen c.self.view_is c.self.invariant) c.in_default.ensures.distinct c.in-Ok.ensures.columns
