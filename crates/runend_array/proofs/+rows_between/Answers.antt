use Rattle.std.proofs.Common.{◌<◌, ◌≤◌, length, replicate, sym, ap, ◌∙◌, arith, rules}
use Rattle.std.specs.Prelude.{option_map, unsigned_abs}
use Rattle.std.proofs.lemmas.List.{length-map, length-replicate}
use Rattle.column_base.proofs.Ranges.{length-slice_range}
use Rattle.column_core.specs.Value.{FlatValue, Single}
use Rattle.column_core.specs.PrimitiveForm.{primitive_rows}
use Rattle.column_core.specs.BoolForm.{bool_rows}
use Rattle.column_core.specs.DecimalForm.{decimal_rows}
use Rattle.column_core.specs.VarBinForm.{varbin_rows}
use Rattle.column_core.proofs.OptionalRows.{single-of_range}
use Rattle.runend_windows.specs.Ends.{ends_of}
use Rattle.runend_windows.proofs.RunRows.{length-run_rows}
use Rattle.runend_array.specs.Array.{column_of, rows}
use Rattle.runend_array.specs.Canonical.{canonical_column}
use Rattle.runend_array.specs.Column.{Runs, runs_of}
use Rattle.runend_array.proofs.Parts.{part-of_runs}
use Rattle.runend_array.proofs.+rows_between.Goals as goal

pub array_ref::ArrayRef::rows_between-returns-in-Ok-clause-part : goal.array_ref::ArrayRef::rows_between-returns-in-Ok-clause-part
array_ref::ArrayRef::rows_between-returns-in-Ok-clause-part g t c =
    let made = c.in-Ok in
    rw c.in-Primitive.is (record {
      rows = single-of_range (primitive_rows made.part) (primitive_rows c.in-Primitive.array) c.args.start c.args.stop made.ensures.rows;
      dtype = made.ensures.dtype;
      flat = made.ensures.normal;
      some = made.ensures.empty;
    })

pub array_ref::ArrayRef::rows_between-returns-in-Ok-slice-clause-part : goal.array_ref::ArrayRef::rows_between-returns-in-Ok-slice-clause-part
array_ref::ArrayRef::rows_between-returns-in-Ok-slice-clause-part g t c =
    let made = c.in-Ok-slice in
    rw c.in-Bool.is (record {
      rows = single-of_range (bool_rows made.part) (bool_rows c.in-Bool.array) c.args.start c.args.stop made.ensures.rows;
      dtype = made.ensures.dtype;
      flat = made.ensures.normal;
      some = made.ensures.empty;
    })

pub array_ref::ArrayRef::rows_between-returns-in-Ok-slice-2-clause-part : goal.array_ref::ArrayRef::rows_between-returns-in-Ok-slice-2-clause-part
array_ref::ArrayRef::rows_between-returns-in-Ok-slice-2-clause-part g t c =
    let made = c.in-Ok-slice-2 in
    rw c.in-Decimal.is (record {
      rows = single-of_range (decimal_rows made.part) (decimal_rows c.in-Decimal.array) c.args.start c.args.stop made.ensures.rows;
      dtype = made.ensures.dtype;
      flat = made.ensures.normal;
      some = made.ensures.empty;
    })

pub array_ref::ArrayRef::rows_between-returns-in_ok-part-in-VarBinView-clause-part : goal.array_ref::ArrayRef::rows_between-returns-in_ok-part-in-VarBinView-clause-part
array_ref::ArrayRef::rows_between-returns-in_ok-part-in-VarBinView-clause-part g t c =
    let made = c.in_ok-part-in-VarBinView in
    rw c.in-VarBinView.is (record {
      rows = single-of_range (varbin_rows made.part) (varbin_rows c.in-VarBinView.array) c.args.start c.args.stop made.ensures.rows;
      dtype = made.ensures.dtype;
      flat = made.ensures.normal;
      some = made.ensures.empty;
    })

pub array_ref::ArrayRef::rows_between-constant_between-requires : goal.array_ref::ArrayRef::rows_between-constant_between-requires
array_ref::ArrayRef::rows_between-constant_between-requires g t c =
    let constant = c.in-Constant.array in
    let row = option_map (λ (v : FlatValue). Single v) constant.value in
    let counted : c.args.stop ≤ length (replicate constant.count row) = rw c.in-Constant.is at c.requires.within in
    let within : c.args.stop ≤ constant.count = rw (length-replicate constant.count row) at counted in
    let some : c.args.start < c.args.stop = omega (arith, c.requires.ordered, c.if-start-stop.false) in
    record { some = some; within = within }

pub array_ref::ArrayRef::rows_between-returns-in-Constant-clause-part : goal.array_ref::ArrayRef::rows_between-returns-in-Constant-clause-part
array_ref::ArrayRef::rows_between-returns-in-Constant-clause-part g t c = rw c.in-Constant.is c.constant_between.ensures.part

pub array_ref::ArrayRef::rows_between-rows_between-requires : goal.array_ref::ArrayRef::rows_between-rows_between-requires
array_ref::ArrayRef::rows_between-rows_between-requires g t c κs within =
    let some : c.args.start < c.args.stop = omega (arith, c.requires.ordered, c.if-start-stop.false) in
    let counted = rw length-run_rows at (rw c.in-RunEnd.is at c.requires.within) in
    let same = ap (λ (r : Runs). r.count) c.deref-in-RunEnd.ensures in
    let inside : c.args.stop ≤ c.deref-in-RunEnd.result.now.count = omega (arith, counted, same) in
    search (rules, some, inside)

pub array::RunEndArray::rows_between-rows_between-requires : goal.array::RunEndArray::rows_between-rows_between-requires
array::RunEndArray::rows_between-rows_between-requires g t c κs within =
    let runs = c.runs_of_rows-runs in
    let ordered : runs.result.start ≤ runs.result.end = omega (arith, runs.ensures.ordered) in
    let in_bounds = rw (← c.self.view_is) at runs.ensures.in_bounds in
    let paired = c.self.invariant.runs.paired in
    let inside : runs.result.end ≤ length (rows c.self.inside.values) = omega (arith, in_bounds, paired) in
    search (rules, ordered, inside)

pub array::RunEndArray::rows_between-overflow_add-self-inside : goal.array::RunEndArray::rows_between-overflow_add-self-inside
array::RunEndArray::rows_between-overflow_add-self-inside g t c =
    let within = rw (← c.self.view_is) at c.requires.within in
    let small = c.self.invariant.runs.window.small in
    omega (arith, c.requires.some, within, small)

pub array::RunEndArray::rows_between-overflow_sub-stop : goal.array::RunEndArray::rows_between-overflow_sub-stop
array::RunEndArray::rows_between-overflow_sub-stop g t c = omega (arith, c.requires.some)

pub array::RunEndArray::rows_between-decode_with-made-requires-clause-plain : goal.array::RunEndArray::rows_between-decode_with-made-requires-clause-plain
array::RunEndArray::rows_between-decode_with-made-requires-clause-plain g t c = c.in_ok-ends.ensures.plain

pub array::RunEndArray::rows_between-decode_with-made-requires-clause-window : goal.array::RunEndArray::rows_between-decode_with-made-requires-clause-window
array::RunEndArray::rows_between-decode_with-made-requires-clause-window g t c =
    let window = rw (← c.self.view_is) at c.runs_of_rows-runs.ensures.window in
    let ends_are = rw (← c.self.view_is) at c.in_ok-ends.ensures.ends in
    rw ends_are window

pub array::RunEndArray::rows_between-decode_with-made-requires-clause-paired : goal.array::RunEndArray::rows_between-decode_with-made-requires-clause-paired
array::RunEndArray::rows_between-decode_with-made-requires-clause-paired g t c =
    let whole = runs_of (column_of c.self.inside.ends) (column_of c.self.inside.values) c.self.inside.offset c.self.inside.length in
    let runs = c.runs_of_rows-runs in
    let ordered : runs.result.start ≤ runs.result.end = omega (arith, runs.ensures.ordered) in
    let in_bounds = rw (← c.self.view_is) at runs.ensures.in_bounds in
    let paired = c.self.invariant.runs.paired in
    let inside : runs.result.end ≤ length (rows c.self.inside.values) = omega (arith, in_bounds, paired) in
    let ends_are = rw (← c.self.view_is) at c.in_ok-ends.ensures.ends in
    ap length c.in-Ok.ensures.part.rows
    ∙ length-slice_range (rows c.self.inside.values) runs.result.start runs.result.end ordered inside
    ∙ sym (length-slice_range whole.ends runs.result.start runs.result.end ordered in_bounds)
    ∙ sym (ap length ends_are)
    ∙ length-map c.in_ok-ends.ends.numbers unsigned_abs

pub array::RunEndArray::rows_between-returns-clause-part : goal.array::RunEndArray::rows_between-returns-clause-part
array::RunEndArray::rows_between-returns-clause-part g t c =
    let whole = runs_of (column_of c.self.inside.ends) (column_of c.self.inside.values) c.self.inside.offset c.self.inside.length in
    let runs = c.runs_of_rows-runs in
    let made = c.in_ok-rows in
    let within = rw (← c.self.view_is) at c.requires.within in
    let first = rw (← c.self.view_is) at runs.ensures.first in
    let last = rw (← c.self.view_is) at runs.ensures.last in
    let ends_are = rw (← c.self.view_is) at c.in_ok-ends.ensures.ends in
    rw (← c.self.view_is)
    (part-of_runs whole c.args.start c.args.stop runs.result.start runs.result.end (ends_of c.in_ok-ends.ends) (canonical_column c.in-Ok.values) (canonical_column made.rows)
    c.self.invariant.runs c.requires.some within first last ends_are c.in-Ok.ensures.part made.ensures.rows made.ensures.dtype made.ensures.form)

pub array_ref::ArrayRef::rows_between-returns-in_ok-part-in-ListView-clause-part : goal.array_ref::ArrayRef::rows_between-returns-in_ok-part-in-ListView-clause-part
array_ref::ArrayRef::rows_between-returns-in_ok-part-in-ListView-clause-part g t c =
    let made = c.in_ok-part-in-ListView in
    rw c.in-ListView.is (record {
      rows = rw c.deref-in-ListView.ensures at made.ensures.rows;
      dtype = rw c.deref-in-ListView.ensures at made.ensures.dtype;
      flat = tt;
      some = λ none. absurd none;
    })

pub array_ref::ArrayRef::rows_between-returns-in-RunEnd-clause-part : goal.array_ref::ArrayRef::rows_between-returns-in-RunEnd-clause-part
array_ref::ArrayRef::rows_between-returns-in-RunEnd-clause-part g t c = rw c.in-RunEnd.is (rw c.deref-in-RunEnd.ensures at c.rows_between.ensures.part)
