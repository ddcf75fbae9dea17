use Rattle.std.proofs.Common.{◌∙◌, ◌++◌, ◌∷◌, [], ℕ, List, ap, arith, map, subst, sym}
use Rattle.std.specs.Prelude.{String}
use Rattle.std.specs.String.{string_bytes}
use Rattle.typed_columns.specs.declared.typed_column.TypedColumn.{TypedColumn}
use Rattle.tables.specs.Put.{Takes}
use Rattle.tables.specs.Tables.{IsUnknown, TableForm, table_with}
use Rattle.typed_columns.specs.Typed.{typed_of}
use Rattle.tables.proofs.Puts.{added_columns, added_names, added_table}
use Rattle.tables.proofs.table.Table.push.Goals as goal

pub returns-in-Err-clause-kept : goal.returns-in-Err-clause-kept
returns-in-Err-clause-kept g c =
    let own = c.self.inside in
    ap (λ (names : List (String g.row.A.Denot)). table_with (map string_bytes names) (map typed_of c.reserve_one.new.columns.items) own.rows) c.reserve_one.ensures.names
    ∙ ap (λ (columns : List (TypedColumn g.row.A.Denot)). table_with (map string_bytes own.names.items) (map typed_of columns) own.rows) c.reserve_one.ensures.columns
    ∙ c.self.view_is

pub invariant_of-self-2 : goal.invariant_of-self-2
invariant_of-self-2 g c =
    let own = c.self.inside in
    let counted = c.len-self-inside.ensures in
    let takes = subst (λ (t : TableForm). Takes t c.len-self-inside.result) (sym c.self.view_is) (subst (λ (n : ℕ). Takes c.args.self.now n) (sym counted) c.requires.takes) in
    let unknown = subst (λ (t : TableForm). IsUnknown t.names (string_bytes c.args.name)) (sym c.self.view_is) c.requires.unknown in
    added_table own.names.items c.push_reserved.new.self.items own.columns.items c.push_reserved-2.new.self.items own.rows c.len-self-inside.result c.args.name c.args.column c.self.invariant takes unknown
    (c.push_reserved.ensures.items ∙ ap (λ (names : List (String g.row.A.Denot)). names ++ c.args.name ∷ []) c.reserve_one.ensures.names) (c.push_reserved-2.ensures.items ∙ ap (λ (columns : List (TypedColumn g.row.A.Denot)). columns ++ c.args.column ∷ []) c.reserve_one.ensures.columns) (sym counted) (omega arith)

pub returns-clause-added : goal.returns-clause-added
returns-clause-added g c =
    let own = c.self.inside in
    record {
      unknown = c.requires.unknown;
      names = added_names own.names.items c.push_reserved.new.self.items c.args.self.now.names c.args.name
          (c.push_reserved.ensures.items ∙ ap (λ (names : List (String g.row.A.Denot)). names ++ c.args.name ∷ []) c.reserve_one.ensures.names) (ap (λ (t : TableForm). t.names) c.self.view_is);
      columns = added_columns own.columns.items c.push_reserved-2.new.self.items c.args.self.now.columns c.args.column
          (c.push_reserved-2.ensures.items ∙ ap (λ (columns : List (TypedColumn g.row.A.Denot)). columns ++ c.args.column ∷ []) c.reserve_one.ensures.columns) (ap (λ (t : TableForm). t.columns) c.self.view_is);
    }
