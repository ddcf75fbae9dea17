use Rattle.std.proofs.Common.{◌≡◌, ◌∙◌, ℕ, List, Option, ap, arith, length, map, refl, replicate, subst, sym}
use Rattle.std.specs.Prelude.{All, IfOk, option_map, unsigned_abs}
use Rattle.std.proofs.lemmas.List.{length-replicate}
use Rattle.column_core.specs.Value.{FlatValue, Single, Value}
use Rattle.runend_array.specs.Array.{column_of, rows}
use Rattle.runend_array.specs.Column.{Runs, column_of_runs, column_rows, end_numbers}
use Rattle.runend_array.specs.Lists.{list_rows}
use Rattle.runend_array.proofs.ListRows.{length-list_rows}
use Rattle.runend_windows.specs.Window.{IsWindow}
use Rattle.runend_windows.proofs.RunRows.{length-run_rows}
use Rattle.row_stretches.specs.Stretches.{IsWithin, stretch_rows}
use Rattle.row_stretches.proofs.Cuts.{stretches_of_copies}
use Rattle.row_stretches.proofs.Places.{length-rows}
use Rattle.row_stretches.proofs.reordered.rows_in.Goals as goal

pub row_count-requires : goal.row_count-requires
row_count-requires g c = record {
  small = let same = length-rows (rows c.args.column.now) c.args.order.now c.requires.within in omega (arith, same, c.requires.small);
}

pub rows_of_runs_in-requires-clause-within : goal.rows_of_runs_in-requires-clause-within
rows_of_runs_in-requires-clause-within g c =
    let r = c.deref-in-Primitive.result.now in
    let counted = length-run_rows r.ends (column_rows r.values) r.offset r.count in
    let own : rows c.args.column.now ≡ column_rows (column_of_runs r) = rw (c.in-RunEnd.is, c.deref-in-Primitive.ensures) refl in
    subst (λ (n : ℕ). All (IsWithin n) c.args.order.now) (ap length own ∙ counted) c.requires.within

pub returns-in_ok-part-in-Constant-clause-rows : goal.returns-in_ok-part-in-Constant-clause-rows
returns-in_ok-part-in-Constant-clause-rows g c =
    let constant = c.in-Constant.constant in
    let row = option_map (λ (v : FlatValue). Single v) constant.value in
    let own : rows c.args.column.now ≡ replicate constant.count row = rw c.in-Constant.is refl in
    let within = subst (λ (n : ℕ). All (IsWithin n) c.args.order.now) (ap length own ∙ length-replicate constant.count row) c.requires.within in
    rw (c.in-Constant.is, c.in_ok-part-in-Constant.ensures.form)
    (ap (λ (n : ℕ). replicate n row) c.row_count.ensures ∙ sym (stretches_of_copies constant.count row c.args.order.now within))

pub rows_of_runs_in-requires-clause-ends : goal.rows_of_runs_in-requires-clause-ends
rows_of_runs_in-requires-clause-ends g c =
    let own : end_numbers (column_of c.ends.result.now) ≡ c.deref.result.now.ends = c.ends.ensures.numbers in
    let same : c.deref.result.now ≡ c.deref-in-Primitive.result.now = c.deref.ensures ∙ sym c.deref-in-Primitive.ensures in
    ap (map unsigned_abs) c.values.ensures.shows ∙ (rw c.in-Primitive.is at own) ∙ ap (λ (r : Runs). r.ends) same

pub rows_of_runs_in-requires-clause-window : goal.rows_of_runs_in-requires-clause-window
rows_of_runs_in-requires-clause-window g c =
    let same : c.deref.result.now ≡ c.deref-in-Primitive.result.now = c.deref.ensures ∙ sym c.deref-in-Primitive.ensures in
    subst (λ (r : Runs). IsWindow r.ends r.offset r.count) same c.ends.ensures.valid.window

pub returns-in-Primitive-clause-rows : goal.returns-in-Primitive-clause-rows
returns-in-Primitive-clause-rows g c =
    let r = c.deref-in-Primitive.result.now in
    let own : rows c.args.column.now ≡ column_rows (column_of_runs r) = rw (c.in-RunEnd.is, c.deref-in-Primitive.ensures) refl in
    subst (λ (all : List (Option Value)). IfOk c.rows_of_runs_in.result (λ made. rows made ≡ stretch_rows all c.args.order.now)) (sym own) c.rows_of_runs_in.ensures.rows

-- a constant and runs are not flat
pub returns-in_ok-part-in-Constant-clause-flat : goal.returns-in_ok-part-in-Constant-clause-flat
returns-in_ok-part-in-Constant-clause-flat g c = λ flat. absurd (rw c.in-Constant.is at flat)

pub returns-in-Primitive-clause-flat : goal.returns-in-Primitive-clause-flat
returns-in-Primitive-clause-flat g c = λ flat. absurd (rw c.in-RunEnd.is at flat)

-- lists in few runs
pub are_long-requires : goal.are_long-requires
are_long-requires g c = record {
  small = let same = length-rows (rows c.args.column.now) c.args.order.now c.requires.within in omega (arith, same, c.requires.small);
}

pub lists_in-requires-clause-within : goal.lists_in-requires-clause-within
lists_in-requires-clause-within g c =
    let lists = c.deref-in-ListView.result.now in
    let own : rows c.args.column.now ≡ list_rows lists = rw (c.in-ListView.is, c.deref-in-ListView.ensures) refl in
    subst (λ (n : ℕ). All (IsWithin n) c.args.order.now) (ap length own ∙ length-list_rows lists) c.requires.within

pub lists_in-requires-clause-small : goal.lists_in-requires-clause-small
lists_in-requires-clause-small g c = let same = length-rows (rows c.args.column.now) c.args.order.now c.requires.within in omega (arith, same, c.requires.small)

pub returns-in-ListView-clause-rows : goal.returns-in-ListView-clause-rows
returns-in-ListView-clause-rows g c =
    let lists = c.deref-in-ListView.result.now in
    let own : rows c.args.column.now ≡ list_rows lists = rw (c.in-ListView.is, c.deref-in-ListView.ensures) refl in
    subst (λ (all : List (Option Value)). IfOk c.lists_in.result (λ made. rows made ≡ stretch_rows all c.args.order.now)) (sym own) c.lists_in.ensures.rows
