use Rattle.std.proofs.Common.{ℕ, List, map, subst, sym}
use Rattle.std.specs.String.{string_bytes}
use Rattle.std.proofs.lemmas.Result.{IfErr-weaker, IfOk-weaker}
use Rattle.row_groups.specs.Groups.{AreEndsOf}
use Rattle.typed_columns.specs.Typed.{typed_of}
use Rattle.typed_groups.specs.Answering.{IsAnswered}
use Rattle.tables.specs.Grouping.{asked_of}
use Rattle.tables.specs.Tables.{IsNamed, IsPlaceOf, TableForm}
use Rattle.tables.proofs.GroupTables.{answer_refused}
use Rattle.tables.proofs.Keyed.{named_once}
use Rattle.tables.proofs.LargeSums.{none_large_named}
use Rattle.tables.proofs.NameLists.{named_at}
use Rattle.tables.proofs.Selections.{rows_named}
use Rattle.tables.proofs.TableRows.{table_seen}
use Rattle.tables.proofs.table.Table.answer_of.Goals as goal

pub answer_groups-requires-clause-ends : goal.answer_groups-requires-clause-ends
answer_groups-requires-clause-ends g c =
    let own = c.self.inside in
    let seen = c.args.self.now in
    let column = c.index-column.result.now in
    let there = subst (λ (t : TableForm). IsPlaceOf t.names c.as_str.result.now c.place_of.result) (sym c.self.view_is) c.place_of.ensures.place in
    let found = named_at (map string_bytes own.names.items) own.columns.items own.rows seen c.as_str.result.now c.place_of.result column c.self.view_is c.self.invariant there c.index-column.ensures in
    let named = subst (λ (bytes : List ℕ). IsNamed seen bytes (typed_of column)) c.as_str.ensures.value found in
    let long = rows_named seen (string_bytes c.args.asked.now.column) (typed_of column) (table_seen c.self.view_is c.self.invariant) named in
    subst (λ (n : ℕ). AreEndsOf n c.args.ends.now) (sym long) c.requires.ends

pub answer_groups-requires-clause-answered : goal.answer_groups-requires-clause-answered
answer_groups-requires-clause-answered g c =
    let own = c.self.inside in
    let seen = c.args.self.now in
    let column = c.index-column.result.now in
    let there = subst (λ (t : TableForm). IsPlaceOf t.names c.as_str.result.now c.place_of.result) (sym c.self.view_is) c.place_of.ensures.place in
    let found = named_at (map string_bytes own.names.items) own.columns.items own.rows seen c.as_str.result.now c.place_of.result column c.self.view_is c.self.invariant there c.index-column.ensures in
    let named = subst (λ (bytes : List ℕ). IsNamed seen bytes (typed_of column)) c.as_str.ensures.value found in
    let served = c.requires.served in
    let same = named_once seen (string_bytes c.args.asked.now.column) served.column (typed_of column) (table_seen c.self.view_is c.self.invariant) served.named named in
    subst (IsAnswered c.args.asked.now.fold) same served.answered

pub returns-clause-answer : goal.returns-clause-answer
returns-clause-answer g c =
    let own = c.self.inside in
    let seen = c.args.self.now in
    let column = c.index-column.result.now in
    let there = subst (λ (t : TableForm). IsPlaceOf t.names c.as_str.result.now c.place_of.result) (sym c.self.view_is) c.place_of.ensures.place in
    let found = named_at (map string_bytes own.names.items) own.columns.items own.rows seen c.as_str.result.now c.place_of.result column c.self.view_is c.self.invariant there c.index-column.ensures in
    let named = subst (λ (bytes : List ℕ). IsNamed seen bytes (typed_of column)) c.as_str.ensures.value found in
    IfOk-weaker c.answer_groups.result _ _ (λ made folded. record { source = typed_of column; named = named; folded = folded }) c.answer_groups.ensures.folded

pub returns-clause-refused : goal.returns-clause-refused
returns-clause-refused g c =
    let own = c.self.inside in
    let seen = c.args.self.now in
    let column = c.index-column.result.now in
    let there = subst (λ (t : TableForm). IsPlaceOf t.names c.as_str.result.now c.place_of.result) (sym c.self.view_is) c.place_of.ensures.place in
    let found = named_at (map string_bytes own.names.items) own.columns.items own.rows seen c.as_str.result.now c.place_of.result column c.self.view_is c.self.invariant there c.index-column.ensures in
    let named = subst (λ (bytes : List ℕ). IsNamed seen bytes (typed_of column)) c.as_str.ensures.value found in
    IfErr-weaker c.answer_groups.result _ _ (λ error refused. answer_refused seen c.args.ends.now (asked_of c.args.asked.now) (typed_of column) error named refused) c.answer_groups.ensures.refused

pub returns-clause-fits : goal.returns-clause-fits
returns-clause-fits g c =
    let own = c.self.inside in
    let seen = c.args.self.now in
    let column = c.index-column.result.now in
    let there = subst (λ (t : TableForm). IsPlaceOf t.names c.as_str.result.now c.place_of.result) (sym c.self.view_is) c.place_of.ensures.place in
    let found = named_at (map string_bytes own.names.items) own.columns.items own.rows seen c.as_str.result.now c.place_of.result column c.self.view_is c.self.invariant there c.index-column.ensures in
    let named = subst (λ (bytes : List ℕ). IsNamed seen bytes (typed_of column)) c.as_str.ensures.value found in
    IfOk-weaker c.answer_groups.result _ _ (λ made fits. none_large_named seen c.args.ends.now (asked_of c.args.asked.now) (typed_of column) (table_seen c.self.view_is c.self.invariant) named fits) c.answer_groups.ensures.fits
