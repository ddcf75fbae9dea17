use Rattle.std.proofs.Common.{◌≡◌, List, Option, ℕ, map, subst, sym, true}
use Rattle.std.specs.Prelude.{IfOk}
use Rattle.column_base.specs.declared.dtype.DType.{DType}
use Rattle.column_core.specs.FlatColumn.{leaf_of}
use Rattle.column_core.specs.Leaf.{OfNumbers, single_rows}
use Rattle.column_core.specs.PrimitiveForm.{primitive_dtype}
use Rattle.column_core.specs.Value.{Value}
use Rattle.runend_array.specs.Array.{dtype_of, rows}
use Rattle.runend_encode.specs.Encoding.{IsRowEncoding}
use Rattle.runend_windows.specs.Ends.{ends_of}
use Rattle.runend_windows.specs.Visible.{HasRow}
use Rattle.runend_windows.specs.Window.{IsWindow}
use Rattle.column_floats.specs.FloatRows.{key_row}
use Rattle.column_floats.specs.Formats.{format_of, is_bits, keys_dtype}
use Rattle.column_floats.specs.Patterns.{stored_key}
use Rattle.runend_floats.proofs.CoveredRows.{each_has_row, shown_mapped, whole_runs}
use Rattle.runend_floats.proofs.encoding.key_runs.Goals as goal

pub keyed_runs-parts-requires-clause-plain : goal.keyed_runs-parts-requires-clause-plain
keyed_runs-parts-requires-clause-plain g c =
    let array = c.args.bits.now in
    let numbers = c.in-Primitive.numbers in
    let e : IsRowEncoding (rows array) (dtype_of array) c.in_ok-ends.ends (OfNumbers numbers) = rw c.in-Primitive.is at c.in_ok-ends.ensures.encoding in
    (whole_runs (rows array) (dtype_of array) c.in_ok-ends.ends (OfNumbers numbers) e).plain

pub keyed_runs-parts-requires-clause-window : goal.keyed_runs-parts-requires-clause-window
keyed_runs-parts-requires-clause-window g c =
    let array = c.args.bits.now in
    let numbers = c.in-Primitive.numbers in
    let e : IsRowEncoding (rows array) (dtype_of array) c.in_ok-ends.ends (OfNumbers numbers) = rw c.in-Primitive.is at c.in_ok-ends.ensures.encoding in
    subst (λ (n : ℕ). IsWindow (ends_of c.in_ok-ends.ends) 0 n) (sym c.len.ensures) e.cover.covers.window

pub keyed_runs-parts-requires-clause-paired : goal.keyed_runs-parts-requires-clause-paired
keyed_runs-parts-requires-clause-paired g c =
    let array = c.args.bits.now in
    let numbers = c.in-Primitive.numbers in
    let e : IsRowEncoding (rows array) (dtype_of array) c.in_ok-ends.ends (OfNumbers numbers) = rw c.in-Primitive.is at c.in_ok-ends.ensures.encoding in
    e.cover.covers.paired

pub keyed_runs-parts-requires-clause-shown : goal.keyed_runs-parts-requires-clause-shown
keyed_runs-parts-requires-clause-shown g c =
    let array = c.args.bits.now in
    let numbers = c.in-Primitive.numbers in
    let e : IsRowEncoding (rows array) (dtype_of array) c.in_ok-ends.ends (OfNumbers numbers) = rw c.in-Primitive.is at c.in_ok-ends.ensures.encoding in
    λ run within. subst (λ (n : ℕ). HasRow (ends_of c.in_ok-ends.ends) 0 n run) (sym c.len.ensures)
    (each_has_row (rows array) (ends_of c.in_ok-ends.ends) (single_rows (OfNumbers numbers)) e.cover run within)

pub keyed_runs-parts-requires-clause-native : goal.keyed_runs-parts-requires-clause-native
keyed_runs-parts-requires-clause-native g c =
    let array = c.args.bits.now in
    let numbers = c.in-Primitive.numbers in
    let e : IsRowEncoding (rows array) (dtype_of array) c.in_ok-ends.ends (OfNumbers numbers) = rw c.in-Primitive.is at c.in_ok-ends.ensures.encoding in
    subst (λ (t : DType). is_bits t ≡ true) (sym e.typed) c.requires

pub returns-clause-encoding : goal.returns-clause-encoding
returns-clause-encoding g c =
    let array = c.args.bits.now in
    let numbers = c.in-Primitive.numbers in
    let e : IsRowEncoding (rows array) (dtype_of array) c.in_ok-ends.ends (OfNumbers numbers) = rw c.in-Primitive.is at c.in_ok-ends.ensures.encoding in
    let ends = ends_of c.in_ok-ends.ends in
    let shown = shown_mapped (key_row (stored_key c.args.patterns (format_of (primitive_dtype numbers)))) (rows array) ends (single_rows (OfNumbers numbers)) c.len.result e.cover.covers (sym c.len.ensures) in
    subst (λ (t : DType). IfOk c.keyed_runs-parts.result (λ parts. IsRowEncoding (map (key_row (stored_key c.args.patterns (format_of t))) (rows array)) (keys_dtype t) parts.0 (leaf_of parts.1))) e.typed
    (subst (λ (rows : List (Option Value)). IfOk c.keyed_runs-parts.result (λ parts. IsRowEncoding rows (keys_dtype (primitive_dtype numbers)) parts.0 (leaf_of parts.1))) shown c.keyed_runs-parts.ensures.encoding)
