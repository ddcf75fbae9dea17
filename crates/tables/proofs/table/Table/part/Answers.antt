use Rattle.std.proofs.Common.{◌≡◌, ◌∙◌, ◌^◌, ◌-◌, ◌<◌, ◌≤◌, List, Option, ap, arith, length, map}
use Rattle.std.specs.Prelude.{slice_range}
use Rattle.std.specs.String.{string_bytes}
use Rattle.column_base.proofs.Ranges.{length-slice_range}
use Rattle.column_core.specs.Value.{Value}
use Rattle.tables.specs.Tables.{TableForm}
use Rattle.tables.proofs.Worked.{kept_of, worked_as}
use Rattle.tables.proofs.table.Table.part.Goals as goal

pub part_of_each-requires-clause-even : goal.part_of_each-requires-clause-even
part_of_each-requires-clause-even g c = rw c.deref-2.ensures.value c.self.invariant.even

pub part_of_each-requires-clause-within : goal.part_of_each-requires-clause-within
part_of_each-requires-clause-within g c =
    let count = ap (λ (t : TableForm). t.count) c.self.view_is in
    record { ordered = c.requires.ordered; inside = omega (arith, count, c.requires.inside) }

pub invariant_of-result : goal.invariant_of-result
invariant_of-result g c =
    let own = c.self.inside in
    let count = ap (λ (t : TableForm). t.count) c.self.view_is in
    let counts = (λ (all : List (Option Value)) (long : length all ≡ own.rows).
    let inside : c.args.stop ≤ length all = omega (arith, long, count, c.requires.inside) in length-slice_range all c.args.start c.args.stop c.requires.ordered inside) in
    let small : (c.args.stop - c.args.start) < 2 ^ 64 = omega arith in
    (worked_as (λ t. t) (λ all. slice_range all c.args.start c.args.stop) (map string_bytes own.names.items) (map string_bytes c.in_ok-names.names.items) own.columns.items c.deref-2.result.now c.in-Ok.columns.items own.rows (c.args.stop - c.args.start) c.args.self.now
    (c.in_ok-names.ensures.names ∙ ap (map string_bytes) c.deref.ensures.value) c.deref-2.ensures.value c.self.view_is small counts c.self.invariant
    (record { shown = c.in-Ok.ensures.rows; dtypes = c.in-Ok.ensures.dtypes; formats = c.in-Ok.ensures.formats })).table

pub returns-clause-rows : goal.returns-clause-rows
returns-clause-rows g c =
    let own = c.self.inside in
    let count = ap (λ (t : TableForm). t.count) c.self.view_is in
    let counts = (λ (all : List (Option Value)) (long : length all ≡ own.rows).
    let inside : c.args.stop ≤ length all = omega (arith, long, count, c.requires.inside) in length-slice_range all c.args.start c.args.stop c.requires.ordered inside) in
    let small : (c.args.stop - c.args.start) < 2 ^ 64 = omega arith in
    (worked_as (λ t. t) (λ all. slice_range all c.args.start c.args.stop) (map string_bytes own.names.items) (map string_bytes c.in_ok-names.names.items) own.columns.items c.deref-2.result.now c.in-Ok.columns.items own.rows (c.args.stop - c.args.start) c.args.self.now
    (c.in_ok-names.ensures.names ∙ ap (map string_bytes) c.deref.ensures.value) c.deref-2.ensures.value c.self.view_is small counts c.self.invariant
    (record { shown = c.in-Ok.ensures.rows; dtypes = c.in-Ok.ensures.dtypes; formats = c.in-Ok.ensures.formats })).shown

pub returns-clause-kept : goal.returns-clause-kept
returns-clause-kept g c =
    let own = c.self.inside in
    let count = ap (λ (t : TableForm). t.count) c.self.view_is in
    let counts = (λ (all : List (Option Value)) (long : length all ≡ own.rows).
    let inside : c.args.stop ≤ length all = omega (arith, long, count, c.requires.inside) in length-slice_range all c.args.start c.args.stop c.requires.ordered inside) in
    let small : (c.args.stop - c.args.start) < 2 ^ 64 = omega arith in
    kept_of (λ all. slice_range all c.args.start c.args.stop) c.args.self.now _ (worked_as (λ t. t) (λ all. slice_range all c.args.start c.args.stop) (map string_bytes own.names.items) (map string_bytes c.in_ok-names.names.items) own.columns.items c.deref-2.result.now c.in-Ok.columns.items own.rows (c.args.stop - c.args.start) c.args.self.now
    (c.in_ok-names.ensures.names ∙ ap (map string_bytes) c.deref.ensures.value) c.deref-2.ensures.value c.self.view_is small counts c.self.invariant
    (record { shown = c.in-Ok.ensures.rows; dtypes = c.in-Ok.ensures.dtypes; formats = c.in-Ok.ensures.formats }))
