use Rattle.std.proofs.Common.{◌∙◌, ap, map, sym}
use Rattle.std.specs.String.{string_bytes}
use Rattle.tables.specs.Tables.{TableForm, table_with}
use Rattle.typed_columns.specs.Typed.{typed_of}
use Rattle.tables.proofs.Selections.{distinct_in, named_table}
use Rattle.tables.proofs.TableRows.{table_seen}
use Rattle.tables.proofs.table.Table.under_names.Goals as goal

pub invariant_of-result : goal.invariant_of-result
invariant_of-result g c =
    let count = ap (λ (t : TableForm). t.count) c.self.view_is in
    let columns = c.in-Ok.ensures.same ∙ ap (map typed_of) c.deref-2.ensures.value ∙ ap (λ (t : TableForm). t.columns) c.self.view_is in
    named_table c.args.self.now c.args.names.items c.in-Ok.columns.items c.self.inside.rows c.requires.paired (sym count) (table_seen c.self.view_is c.self.invariant)
    (distinct_in c.deref.result.now c.args.names.items c.deref.ensures.value c.in_default.ensures) columns

pub returns-clause-named : goal.returns-clause-named
returns-clause-named g c =
    let count = ap (λ (t : TableForm). t.count) c.self.view_is in
    let columns = c.in-Ok.ensures.same ∙ ap (map typed_of) c.deref-2.ensures.value ∙ ap (λ (t : TableForm). t.columns) c.self.view_is in
    (λ i. table_with (map string_bytes c.args.names.items) (columns i) (count i))
