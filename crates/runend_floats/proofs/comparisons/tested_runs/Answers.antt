use Rattle.std.proofs.Common.{◌≡◌, ◌∙◌, List, Option, ℕ, map, subst, sym, true}
use Rattle.std.specs.Prelude.{IfOk}
use Rattle.std.proofs.lemmas.List.{length-map}
use Rattle.column_base.specs.declared.dtype.DType.{DType}
use Rattle.column_base.specs.declared.dtype.DType.TheVariants as types
use Rattle.column_base.specs.Types.{nullability_of}
use Rattle.column_base.specs.ValidityForm.{nullability_in}
use Rattle.column_core.specs.FlatColumn.{leaf_of}
use Rattle.column_core.specs.Leaf.{OfNumbers, single_rows}
use Rattle.column_core.specs.PrimitiveForm.{optional_numbers}
use Rattle.column_core.specs.Value.{Value}
use Rattle.column_floats.specs.Comparisons.{tested_row}
use Rattle.column_floats.specs.Formats.{is_floats}
use Rattle.column_sums.specs.SumAnswer.{number_in}
use Rattle.runend_array.specs.Array.{dtype_of, rows}
use Rattle.runend_encode.specs.Encoding.{IsRowEncoding}
use Rattle.runend_windows.specs.Ends.{ends_of}
use Rattle.runend_windows.specs.Visible.{HasRow}
use Rattle.runend_windows.specs.Window.{IsWindow}
use Rattle.runend_floats.proofs.CoveredRows.{each_has_row, keys_cover, shown_mapped, whole_runs}
use Rattle.runend_floats.proofs.comparisons.tested_runs.Goals as goal

pub tested_shown-parts-requires-clause-native : goal.tested_shown-parts-requires-clause-native
tested_shown-parts-requires-clause-native g c =
    let column = c.args.column.now in
    let keys = c.in-Primitive.keys in
    let e : IsRowEncoding (rows column) (dtype_of column) c.in_ok-ends.ends (OfNumbers keys) = rw c.in-Primitive.is at c.in_ok-ends.ensures.encoding in
    subst (λ (t : DType). is_floats t ≡ true) (sym e.typed) c.requires

pub tested_shown-parts-requires-clause-plain : goal.tested_shown-parts-requires-clause-plain
tested_shown-parts-requires-clause-plain g c =
    let column = c.args.column.now in
    let keys = c.in-Primitive.keys in
    let e : IsRowEncoding (rows column) (dtype_of column) c.in_ok-ends.ends (OfNumbers keys) = rw c.in-Primitive.is at c.in_ok-ends.ensures.encoding in
    (whole_runs (rows column) (dtype_of column) c.in_ok-ends.ends (OfNumbers keys) e).plain

pub tested_shown-parts-requires-clause-window : goal.tested_shown-parts-requires-clause-window
tested_shown-parts-requires-clause-window g c =
    let column = c.args.column.now in
    let keys = c.in-Primitive.keys in
    let e : IsRowEncoding (rows column) (dtype_of column) c.in_ok-ends.ends (OfNumbers keys) = rw c.in-Primitive.is at c.in_ok-ends.ensures.encoding in
    subst (λ (n : ℕ). IsWindow (ends_of c.in_ok-ends.ends) 0 n) (sym c.len.ensures) e.cover.covers.window

pub tested_shown-parts-requires-clause-paired : goal.tested_shown-parts-requires-clause-paired
tested_shown-parts-requires-clause-paired g c =
    let column = c.args.column.now in
    let keys = c.in-Primitive.keys in
    let e : IsRowEncoding (rows column) (dtype_of column) c.in_ok-ends.ends (OfNumbers keys) = rw c.in-Primitive.is at c.in_ok-ends.ensures.encoding in
    (keys_cover (rows column) (dtype_of column) c.in_ok-ends.ends keys e).paired

pub tested_shown-parts-requires-clause-shown : goal.tested_shown-parts-requires-clause-shown
tested_shown-parts-requires-clause-shown g c =
    let column = c.args.column.now in
    let keys = c.in-Primitive.keys in
    let e : IsRowEncoding (rows column) (dtype_of column) c.in_ok-ends.ends (OfNumbers keys) = rw c.in-Primitive.is at c.in_ok-ends.ensures.encoding in
    λ run within. subst (λ (n : ℕ). HasRow (ends_of c.in_ok-ends.ends) 0 n run) (sym c.len.ensures)
    (each_has_row (rows column) (ends_of c.in_ok-ends.ends) (single_rows (OfNumbers keys)) e.cover run within)

pub returns-clause-tested : goal.returns-clause-tested
returns-clause-tested g c =
    let column = c.args.column.now in
    let keys = c.in-Primitive.keys in
    let row = tested_row (g.T.KeyTest.passes c.args.test.now) in
    let e : IsRowEncoding (rows column) (dtype_of column) c.in_ok-ends.ends (OfNumbers keys) = rw c.in-Primitive.is at c.in_ok-ends.ensures.encoding in
    let cover = keys_cover (rows column) (dtype_of column) c.in_ok-ends.ends keys e in
    subst (λ (t : DType). IfOk c.tested_shown-parts.result (λ parts. IsRowEncoding (map row (map number_in (rows column))) (types.Bool (nullability_of t)) parts.0 (leaf_of parts.1))) e.typed
    (subst (λ (shown : List (Option Value)). IfOk c.tested_shown-parts.result (λ parts. IsRowEncoding shown (types.Bool (nullability_in keys.validity)) parts.0 (leaf_of parts.1)))
    (shown_mapped row (map number_in (rows column)) (ends_of c.in_ok-ends.ends) (optional_numbers keys) c.len.result cover (length-map (rows column) number_in ∙ sym c.len.ensures)) c.tested_shown-parts.ensures.tested)
