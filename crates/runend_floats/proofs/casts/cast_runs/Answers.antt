use Rattle.std.proofs.Common.{◌≡◌, List, Option, Some, ℕ, map, subst, sym}
use Rattle.std.specs.Prelude.{IfOk}
use Rattle.column_base.specs.declared.dtype.DType.{DType}
use Rattle.column_base.specs.declared.dtype.DType.TheVariants as types
use Rattle.column_base.specs.Types.{nullability_of}
use Rattle.column_base.specs.ValidityForm.{nullability_in}
use Rattle.column_core.specs.FlatColumn.{leaf_of}
use Rattle.column_core.specs.Leaf.{OfNumbers, single_rows}
use Rattle.column_core.specs.PrimitiveForm.{optional_numbers}
use Rattle.column_core.specs.Value.{Value}
use Rattle.column_sums.specs.SumAnswer.{number_in}
use Rattle.runend_array.specs.Array.{dtype_of, rows}
use Rattle.runend_encode.specs.Encoding.{IsRowEncoding}
use Rattle.runend_windows.specs.Ends.{ends_of}
use Rattle.runend_windows.specs.Visible.{HasRow}
use Rattle.runend_windows.specs.Window.{IsWindow}
use Rattle.column_floats.specs.Casts.{Becomes}
use Rattle.runend_floats.specs.CastRuns.{AreCastParts, number_type}
use Rattle.runend_floats.proofs.CastLists.{if_err, refusal_shown, shown_rows}
use Rattle.runend_floats.proofs.CoveredRows.{each_has_row, same_keys, whole_runs}
use Rattle.runend_floats.proofs.casts.cast_runs.Goals as goal

pub cast_shown-parts-requires-clause-source : goal.cast_shown-parts-requires-clause-source
cast_shown-parts-requires-clause-source g c =
    let column = c.args.column.now in
    let array = c.in-Primitive.array in
    let e : IsRowEncoding (rows column) (dtype_of column) c.in_ok-ends.ends (OfNumbers array) = rw c.in-Primitive.is at c.in_ok-ends.ensures.encoding in
    let same : number_type (types.Primitive array.ptype (nullability_of (dtype_of column))) ≡ Some (g.C.NumberCast.source c.args.cast.now) = subst (λ (t : DType). number_type t ≡ Some (g.C.NumberCast.source c.args.cast.now)) (sym e.typed) c.requires in
    cc

pub cast_shown-parts-requires-clause-plain : goal.cast_shown-parts-requires-clause-plain
cast_shown-parts-requires-clause-plain g c =
    let column = c.args.column.now in
    let array = c.in-Primitive.array in
    let e : IsRowEncoding (rows column) (dtype_of column) c.in_ok-ends.ends (OfNumbers array) = rw c.in-Primitive.is at c.in_ok-ends.ensures.encoding in
    (whole_runs (rows column) (dtype_of column) c.in_ok-ends.ends (OfNumbers array) e).plain

pub cast_shown-parts-requires-clause-window : goal.cast_shown-parts-requires-clause-window
cast_shown-parts-requires-clause-window g c =
    let column = c.args.column.now in
    let array = c.in-Primitive.array in
    let e : IsRowEncoding (rows column) (dtype_of column) c.in_ok-ends.ends (OfNumbers array) = rw c.in-Primitive.is at c.in_ok-ends.ensures.encoding in
    subst (λ (n : ℕ). IsWindow (ends_of c.in_ok-ends.ends) 0 n) (sym c.len.ensures) e.cover.covers.window

pub cast_shown-parts-requires-clause-paired : goal.cast_shown-parts-requires-clause-paired
cast_shown-parts-requires-clause-paired g c =
    let column = c.args.column.now in
    let array = c.in-Primitive.array in
    let e : IsRowEncoding (rows column) (dtype_of column) c.in_ok-ends.ends (OfNumbers array) = rw c.in-Primitive.is at c.in_ok-ends.ensures.encoding in
    e.cover.covers.paired

pub cast_shown-parts-requires-clause-shown : goal.cast_shown-parts-requires-clause-shown
cast_shown-parts-requires-clause-shown g c =
    let column = c.args.column.now in
    let array = c.in-Primitive.array in
    let e : IsRowEncoding (rows column) (dtype_of column) c.in_ok-ends.ends (OfNumbers array) = rw c.in-Primitive.is at c.in_ok-ends.ensures.encoding in
    λ run within. subst (λ (n : ℕ). HasRow (ends_of c.in_ok-ends.ends) 0 n run) (sym c.len.ensures)
    (each_has_row (rows column) (ends_of c.in_ok-ends.ends) (single_rows (OfNumbers array)) e.cover run within)

pub returns-clause-refused : goal.returns-clause-refused
returns-clause-refused g c =
    let column = c.args.column.now in
    let array = c.in-Primitive.array in
    let e : IsRowEncoding (rows column) (dtype_of column) c.in_ok-ends.ends (OfNumbers array) = rw c.in-Primitive.is at c.in_ok-ends.ensures.encoding in
    let becomes = Becomes (g.C.NumberCast.target c.args.cast.now) (g.C.NumberCast.casts c.args.cast.now) in
    if_err c.cast_shown-parts.result (λ error refusal. refusal_shown becomes (optional_numbers array) (map number_in (rows column)) error (λ x. (same_keys (rows column) (dtype_of column) c.in_ok-ends.ends array e x).1) refusal) c.cast_shown-parts.ensures.refused

pub returns-clause-cast : goal.returns-clause-cast
returns-clause-cast g c =
    let column = c.args.column.now in
    let array = c.in-Primitive.array in
    let e : IsRowEncoding (rows column) (dtype_of column) c.in_ok-ends.ends (OfNumbers array) = rw c.in-Primitive.is at c.in_ok-ends.ensures.encoding in
    let becomes = Becomes (g.C.NumberCast.target c.args.cast.now) (g.C.NumberCast.casts c.args.cast.now) in
    let wanted : DType → DType = λ t. types.Primitive (g.C.NumberCast.target c.args.cast.now) (nullability_of t) in
    subst (λ (t : DType). IfOk c.cast_shown-parts.result (λ parts. AreCastParts becomes (rows column) (wanted t) parts.0 (leaf_of parts.1))) e.typed
    (subst (λ (shown : List (Option Value)). IfOk c.cast_shown-parts.result (λ parts. AreCastParts becomes shown (types.Primitive (g.C.NumberCast.target c.args.cast.now) (nullability_in array.validity)) parts.0 (leaf_of parts.1)))
    (shown_rows (rows column) (ends_of c.in_ok-ends.ends) (single_rows (OfNumbers array)) c.len.result e.cover.covers (sym c.len.ensures)) c.cast_shown-parts.ensures.cast)
