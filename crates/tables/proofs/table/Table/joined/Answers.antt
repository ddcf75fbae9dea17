use Rattle.std.proofs.Common.{◌∙◌, ◌+◌, ◌^◌, ◌<◌, ap, arith, map, refl, sym}
use Rattle.std.specs.String.{string_bytes}
use Rattle.tables.specs.Tables.{TableForm, dtypes_of}
use Rattle.typed_columns.specs.Typed.{typed_of}
use Rattle.tables.proofs.Appends.{joined_as, joined_table, joining_none, same_fault, types_as}
use Rattle.tables.proofs.TableRows.{table_seen}
use Rattle.tables.proofs.table.Table.joined.Goals as goal

pub join_each-requires-clause-typed : goal.join_each-requires-clause-typed
join_each-requires-clause-typed g c =
    rw (c.deref-2.ensures.value, c.deref-3.ensures.value)
    (types_as c.args.self.now.columns c.args.other.now.columns (map typed_of c.self.inside.columns.items) (map typed_of c.other.inside.columns.items) (sym (ap (λ (t : TableForm). t.columns) c.self.view_is))
    (sym (ap (λ (t : TableForm). t.columns) c.other.view_is)) c.requires.appendable.types)

pub join_each-requires-clause-even : goal.join_each-requires-clause-even
join_each-requires-clause-even g c = rw c.deref-2.ensures.value c.self.invariant.even

pub join_each-requires-clause-even_others : goal.join_each-requires-clause-even_others
join_each-requires-clause-even_others g c = rw c.deref-3.ensures.value c.other.invariant.even

pub join_each-requires-clause-joinable : goal.join_each-requires-clause-joinable
join_each-requires-clause-joinable g c =
    rw c.deref-2.ensures.value
    (same_fault c.args.self.now c.args.other.now c.self.inside.columns.items c.self.inside.rows c.other.inside.rows (ap (λ (t : TableForm). t.columns) c.self.view_is) (ap (λ (t : TableForm). t.count) c.self.view_is)
    (ap (λ (t : TableForm). t.count) c.other.view_is) ∙ c.requires.appendable.allowed)

pub overflow_add-rows : goal.overflow_add-rows
overflow_add-rows g c =
    let counted = ap (λ (t : TableForm). t.count) c.self.view_is in
    let counted_more = ap (λ (t : TableForm). t.count) c.other.view_is in
    let few = (joining_none (dtypes_of c.args.self.now) (c.args.self.now.count + c.args.other.now.count) c.requires.appendable.allowed).1 in
    omega (arith, few, counted, counted_more)

pub invariant_of-result : goal.invariant_of-result
invariant_of-result g c =
    let own = c.self.inside in
    let next = c.other.inside in
    let counted = ap (λ (t : TableForm). t.count) c.self.view_is in
    let counted_more = ap (λ (t : TableForm). t.count) c.other.view_is in
    let few = (joining_none (dtypes_of c.args.self.now) (c.args.self.now.count + c.args.other.now.count) c.requires.appendable.allowed).1 in
    let small : own.rows + next.rows < 2 ^ 64 = omega (arith, few, counted, counted_more) in
    (joined_table (map string_bytes own.names.items) (map string_bytes c.in_ok-names.names.items) c.in-Ok.columns.items own.rows next.rows (own.rows + next.rows) c.args.self.now c.args.other.now
    (c.in_ok-names.ensures.names ∙ ap (map string_bytes) c.deref.ensures.value) (ap (λ (t : TableForm). t.names) c.self.view_is) (table_seen c.self.view_is c.self.invariant) (table_seen c.other.view_is c.other.invariant)
    counted counted_more refl small
    (joined_as own.columns.items next.columns.items c.deref-2.result.now c.deref-3.result.now c.in-Ok.columns.items c.args.self.now.columns c.args.other.now.columns c.deref-2.ensures.value c.deref-3.ensures.value
    (ap (λ (t : TableForm). t.columns) c.self.view_is) (ap (λ (t : TableForm). t.columns) c.other.view_is) c.in-Ok.ensures.joined)).table

pub returns-clause-appended : goal.returns-clause-appended
returns-clause-appended g c =
    let own = c.self.inside in
    let next = c.other.inside in
    let counted = ap (λ (t : TableForm). t.count) c.self.view_is in
    let counted_more = ap (λ (t : TableForm). t.count) c.other.view_is in
    let few = (joining_none (dtypes_of c.args.self.now) (c.args.self.now.count + c.args.other.now.count) c.requires.appendable.allowed).1 in
    let small : own.rows + next.rows < 2 ^ 64 = omega (arith, few, counted, counted_more) in
    (joined_table (map string_bytes own.names.items) (map string_bytes c.in_ok-names.names.items) c.in-Ok.columns.items own.rows next.rows (own.rows + next.rows) c.args.self.now c.args.other.now
    (c.in_ok-names.ensures.names ∙ ap (map string_bytes) c.deref.ensures.value) (ap (λ (t : TableForm). t.names) c.self.view_is) (table_seen c.self.view_is c.self.invariant) (table_seen c.other.view_is c.other.invariant)
    counted counted_more refl small
    (joined_as own.columns.items next.columns.items c.deref-2.result.now c.deref-3.result.now c.in-Ok.columns.items c.args.self.now.columns c.args.other.now.columns c.deref-2.ensures.value c.deref-3.ensures.value
    (ap (λ (t : TableForm). t.columns) c.self.view_is) (ap (λ (t : TableForm). t.columns) c.other.view_is) c.in-Ok.ensures.joined)).appended
