use Rattle.std.proofs.Common.{◌∙◌, ap, arith, length, map, set, sym}
use Rattle.std.specs.String.{string_bytes}
use Rattle.std.proofs.lemmas.List.{length-map}
use Rattle.typed_columns.specs.declared.typed_column.TypedColumn.{TypedColumn}
use Rattle.tables.specs.Tables.{TableForm}
use Rattle.typed_columns.specs.Typed.{typed_of}
use Rattle.tables.proofs.Puts.{count_stays, replaced_columns, replaced_table}
use Rattle.tables.proofs.table.Table.replace.Goals as goal

pub index_mut-requires : goal.index_mut-requires
index_mut-requires g c =
    let own = c.self.inside in
    omega (arith, c.requires.there, ap (λ (t : TableForm). length t.columns) c.self.view_is, length-map own.columns.items typed_of, own.columns.ok.0)

pub invariant_of-self : goal.invariant_of-self
invariant_of-self g c =
    let own = c.self.inside in
    let rest = c.len-self-inside.ensures in
    let stays = count_stays c.args.self.now _ c.args.place c.requires.takes c.requires.there in
    replaced_table (map string_bytes own.names.items) own.columns.items _ own.rows c.len-self-inside.result c.args.place c.args.column c.self.invariant
    (ap (λ (column : TypedColumn g.row.A.Denot). set own.columns.items c.args.place column) c.replace-old.ensures.after)
    (rest ∙ stays ∙ sym (ap (λ (t : TableForm). t.count) c.self.view_is)) (sym rest)

pub returns-clause-columns : goal.returns-clause-columns
returns-clause-columns g c =
    let own = c.self.inside in
    replaced_columns own.columns.items _ c.args.self.now.columns c.args.place c.args.column
    (ap (λ (column : TypedColumn g.row.A.Denot). set own.columns.items c.args.place column) c.replace-old.ensures.after)
    (ap (λ (t : TableForm). t.columns) c.self.view_is)
