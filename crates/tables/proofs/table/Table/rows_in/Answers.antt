use Rattle.std.proofs.Common.{◌≡◌, ◌∙◌, ◌^◌, ◌<◌, ℕ, List, Option, ap, arith, length, map, subst, sym}
use Rattle.std.specs.Prelude.{All}
use Rattle.std.specs.String.{string_bytes}
use Rattle.column_core.specs.Value.{Value}
use Rattle.row_stretches.specs.Stretches.{IsWithin, stretch_rows}
use Rattle.row_stretches.proofs.Places.{length-rows}
use Rattle.tables.specs.Tables.{TableForm}
use Rattle.tables.proofs.Worked.{kept_of, worked_as}
use Rattle.tables.proofs.table.Table.rows_in.Goals as goal

pub stretches_of_each-requires-clause-even : goal.stretches_of_each-requires-clause-even
stretches_of_each-requires-clause-even g c = rw c.deref-2.ensures.value c.self.invariant.even

pub stretches_of_each-requires-clause-within : goal.stretches_of_each-requires-clause-within
stretches_of_each-requires-clause-within g c = subst (λ (n : ℕ). All (IsWithin n) c.args.order.now) (sym (ap (λ (t : TableForm). t.count) c.self.view_is)) c.requires.within

pub invariant_of-result : goal.invariant_of-result
invariant_of-result g c =
    let own = c.self.inside in
    let within = subst (λ (n : ℕ). All (IsWithin n) c.args.order.now) (sym (ap (λ (t : TableForm). t.count) c.self.view_is)) c.requires.within in
    let counts = (λ (all : List (Option Value)) (long : length all ≡ own.rows).
    length-rows all c.args.order.now (subst (λ (n : ℕ). All (IsWithin n) c.args.order.now) (sym long) within) ∙ sym c.row_count-rows.ensures) in
    let small : c.row_count-rows.result < 2 ^ 64 = omega (arith, c.row_count-rows.ensures, c.requires.small) in
    (worked_as (λ t. t) (λ all. stretch_rows all c.args.order.now) (map string_bytes own.names.items) (map string_bytes c.in_ok-names.names.items) own.columns.items c.deref-2.result.now c.in-Ok.columns.items own.rows c.row_count-rows.result c.args.self.now
    (c.in_ok-names.ensures.names ∙ ap (map string_bytes) c.deref.ensures.value) c.deref-2.ensures.value c.self.view_is small counts c.self.invariant
    (record { shown = c.in-Ok.ensures.rows; dtypes = c.in-Ok.ensures.dtypes; formats = c.in-Ok.ensures.formats })).table

pub returns-clause-rows : goal.returns-clause-rows
returns-clause-rows g c =
    let own = c.self.inside in
    let within = subst (λ (n : ℕ). All (IsWithin n) c.args.order.now) (sym (ap (λ (t : TableForm). t.count) c.self.view_is)) c.requires.within in
    let counts = (λ (all : List (Option Value)) (long : length all ≡ own.rows).
    length-rows all c.args.order.now (subst (λ (n : ℕ). All (IsWithin n) c.args.order.now) (sym long) within) ∙ sym c.row_count-rows.ensures) in
    let small : c.row_count-rows.result < 2 ^ 64 = omega (arith, c.row_count-rows.ensures, c.requires.small) in
    (worked_as (λ t. t) (λ all. stretch_rows all c.args.order.now) (map string_bytes own.names.items) (map string_bytes c.in_ok-names.names.items) own.columns.items c.deref-2.result.now c.in-Ok.columns.items own.rows c.row_count-rows.result c.args.self.now
    (c.in_ok-names.ensures.names ∙ ap (map string_bytes) c.deref.ensures.value) c.deref-2.ensures.value c.self.view_is small counts c.self.invariant
    (record { shown = c.in-Ok.ensures.rows; dtypes = c.in-Ok.ensures.dtypes; formats = c.in-Ok.ensures.formats })).shown

pub returns-clause-kept : goal.returns-clause-kept
returns-clause-kept g c =
    let own = c.self.inside in
    let within = subst (λ (n : ℕ). All (IsWithin n) c.args.order.now) (sym (ap (λ (t : TableForm). t.count) c.self.view_is)) c.requires.within in
    let counts = (λ (all : List (Option Value)) (long : length all ≡ own.rows).
    length-rows all c.args.order.now (subst (λ (n : ℕ). All (IsWithin n) c.args.order.now) (sym long) within) ∙ sym c.row_count-rows.ensures) in
    let small : c.row_count-rows.result < 2 ^ 64 = omega (arith, c.row_count-rows.ensures, c.requires.small) in
    kept_of (λ all. stretch_rows all c.args.order.now) c.args.self.now _ (worked_as (λ t. t) (λ all. stretch_rows all c.args.order.now) (map string_bytes own.names.items) (map string_bytes c.in_ok-names.names.items) own.columns.items c.deref-2.result.now c.in-Ok.columns.items own.rows c.row_count-rows.result c.args.self.now
    (c.in_ok-names.ensures.names ∙ ap (map string_bytes) c.deref.ensures.value) c.deref-2.ensures.value c.self.view_is small counts c.self.invariant
    (record { shown = c.in-Ok.ensures.rows; dtypes = c.in-Ok.ensures.dtypes; formats = c.in-Ok.ensures.formats }))
