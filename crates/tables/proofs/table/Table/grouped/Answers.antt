use Rattle.std.proofs.Common.{◌∙◌, ℕ, List, Option, ap, arith, drop, length, map, subst, sym, take}
use Rattle.std.specs.List.{AllZip}
use Rattle.std.specs.String.{string_bytes}
use Rattle.column_core.specs.Value.{Value}
use Rattle.runend_array.specs.Array.{rows}
use Rattle.runend_array.specs.Column.{column_rows}
use Rattle.row_groups.specs.Groups.{AreEndsOf, AreGroupEnds}
use Rattle.typed_columns.specs.declared.typed_column.TypedColumn.{TypedColumn}
use Rattle.typed_columns.specs.Typed.{TypedForm, typed_of}
use Rattle.tables.specs.GroupFaults.{IsAnswersRefusal}
use Rattle.tables.specs.Grouping.{IsAnswerColumn, IsHeadColumn, asked_of}
use Rattle.tables.specs.Tables.{AreEven, AreSingle, TableForm}
use Rattle.tables.proofs.AnswerColumns.{columns_of_groups}
use Rattle.tables.proofs.GroupRefusals.{by_answers, passed_on_groups, short_of_groups}
use Rattle.tables.proofs.Keyed.{keys_single, rows_held}
use Rattle.tables.proofs.Selections.{named_even}
use Rattle.tables.proofs.TableRows.{table_seen}
use Rattle.tables.proofs.table.Table.grouped.Goals as goal

pub returns-in_err-columns-clause-refused : goal.returns-in_err-columns-clause-refused
returns-in_err-columns-clause-refused g c =
    short_of_groups c.from_residual.result c.args.self.now (map string_bytes c.args.keys.now) (map asked_of c.args.asked.now) c.in_err-columns.field-0.0 c.from_residual.ensures.1 c.in_err-columns.ensures.only c.requires.asked

pub group_ends-requires-clause-even : goal.group_ends-requires-clause-even
group_ends-requires-clause-even g c =
    let columns = c.in_ok-columns.columns.items in
    let counted = ap (λ (t : TableForm). t.count) c.self.view_is in
    let even = named_even c.args.self.now (map string_bytes c.args.keys.now) (map typed_of columns) (table_seen c.self.view_is c.self.invariant) c.in_ok-columns.ensures.columns in
    subst (λ (all : List (TypedColumn _)). AreEven (map typed_of all) c.self.inside.rows) (sym c.deref.ensures.value) (subst (AreEven (map typed_of columns)) (sym counted) even)

pub group_ends-requires-clause-single : goal.group_ends-requires-clause-single
group_ends-requires-clause-single g c =
    let columns = c.in_ok-columns.columns.items in
    subst (λ (all : List (TypedColumn _)). AreSingle (map typed_of all)) (sym c.deref.ensures.value)
    (keys_single c.args.self.now (map string_bytes c.args.keys.now) (map typed_of columns) (table_seen c.self.view_is c.self.invariant) c.requires.asked.keyed.single c.in_ok-columns.ensures.columns)

pub group_columns-made-requires-clause-even : goal.group_columns-made-requires-clause-even
group_columns-made-requires-clause-even g c =
    let columns = c.in_ok-columns.columns.items in
    let even = named_even c.args.self.now (map string_bytes c.args.keys.now) (map typed_of columns) (table_seen c.self.view_is c.self.invariant) c.in_ok-columns.ensures.columns in
    subst (λ (all : List (TypedColumn _)). AreEven (map typed_of all) c.args.self.now.count) (sym c.deref-2.ensures.value) even

pub group_columns-made-requires-clause-ends : goal.group_columns-made-requires-clause-ends
group_columns-made-requires-clause-ends g c =
    subst (AreEndsOf c.args.self.now.count) (sym c.deref-3.ensures.value) (subst (λ (n : ℕ). AreEndsOf n c.in-Ok.ends.items) (ap (λ (t : TableForm). t.count) c.self.view_is) c.in-Ok.ensures.ends)

pub returns-in_err-made-clause-refused : goal.returns-in_err-made-clause-refused
returns-in_err-made-clause-refused g c =
    let own = c.args.self.now in
    let keys = map string_bytes c.args.keys.now in
    let asked = map asked_of c.args.asked.now in
    let columns = c.in_ok-columns.columns.items in
    let ends = c.in-Ok.ends.items in
    let covered = subst (λ (all : List (TypedColumn _)). AreGroupEnds (map (λ (column : TypedColumn _). rows column.array) all) own.count ends) c.deref.ensures.value
    (subst (λ (n : ℕ). AreGroupEnds (map (λ (column : TypedColumn _). rows column.array) c.deref.result.now) n ends) (ap (λ (t : TableForm). t.count) c.self.view_is) c.in-Ok.ensures.groups) in
    let refused = subst (λ (l : List ℕ). IsAnswersRefusal own l asked c.in_err-made.field-0.0) c.deref-3.ensures.value c.in_err-made.ensures.refused in
    passed_on_groups c.from_residual-in_err-made.result own keys asked c.in_err-made.field-0.0 c.from_residual-in_err-made.ensures.1
    (by_answers own keys asked (map typed_of columns) ends c.in_err-made.field-0.0 c.requires.asked c.in_ok-columns.ensures.columns (subst (λ (all : List (List (Option Value))). AreGroupEnds all own.count ends) (sym (rows_held columns)) covered) refused)

pub returns-clause-groups : goal.returns-clause-groups
returns-clause-groups g c =
    let own = c.args.self.now in
    let keys = map string_bytes c.args.keys.now in
    let asked = map asked_of c.args.asked.now in
    let columns = c.in_ok-columns.columns.items in
    let made = c.in_ok-made.field-0.items in
    let ends = c.in-Ok.ends.items in
    let covered = subst (λ (all : List (TypedColumn _)). AreGroupEnds (map (λ (column : TypedColumn _). rows column.array) all) own.count ends) c.deref.ensures.value
    (subst (λ (n : ℕ). AreGroupEnds (map (λ (column : TypedColumn _). rows column.array) c.deref.result.now) n ends) (ap (λ (t : TableForm). t.count) c.self.view_is) c.in-Ok.ensures.groups) in
    let begun = subst (λ (all : List (TypedColumn _)). AllZip (IsHeadColumn ends) (map typed_of all) (map typed_of (take (length all) made))) c.deref-2.ensures.value
    (subst (λ (l : List ℕ). AllZip (IsHeadColumn l) (map typed_of c.deref-2.result.now) (map typed_of (take (length c.deref-2.result.now) made))) c.deref-3.ensures.value c.in_ok-made.ensures.heads) in
    let answers = subst (λ (all : List (TypedColumn _)). AllZip (IsAnswerColumn own ends) asked (map typed_of (drop (length all) made))) c.deref-2.ensures.value
    (subst (λ (l : List ℕ). AllZip (IsAnswerColumn own l) asked (map typed_of (drop (length c.deref-2.result.now) made))) c.deref-3.ensures.value c.in_ok-made.ensures.answers) in
    record {
      ends = ends;
      columns = columns_of_groups own keys asked ends columns made c.in_ok-columns.ensures.columns covered begun answers;
      counted = omega (arith, c.len-count.ensures, c.in-Ok.ends.ok.0);
    }
