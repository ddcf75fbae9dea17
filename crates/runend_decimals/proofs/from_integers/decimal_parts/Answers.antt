use Rattle.std.proofs.Common.{◌≡◌, ℤ, Bool, List, Option, None, Some, map, min, pos, ap, sym, subst}
use Rattle.std.specs.Prelude.{if◌then◌else◌, option_map}
use Rattle.column_base.specs.Types.{nullability_of}
use Rattle.column_base.specs.declared.dtype.DType.{DType}
use Rattle.column_base.specs.declared.dtype.DType.TheVariants as types
use Rattle.column_base.specs.declared.error.VortexError.{VortexError}
use Rattle.column_base.specs.declared.error.VortexError.TheVariants.{Unsupported}
use Rattle.column_core.specs.FlatColumn.{leaf_of}
use Rattle.column_core.specs.Leaf.{OfDecimals, OfNumbers, leaf_dtype}
use Rattle.column_core.specs.PrimitiveForm.{optional_numbers}
use Rattle.column_core.specs.Value.{Value}
use Rattle.column_sums.specs.SumAnswer.{number_in}
use Rattle.column_sums.proofs.SingleRows.{numbers-of_rows}
use Rattle.runend_array.specs.Array.{dtype_of, rows}
use Rattle.runend_encode.specs.Encoding.{IsRowEncoding}
use Rattle.runend_floats.proofs.CoveredRows.{whole_runs}
use Rattle.runend_decimals.specs.Digits.{HasDigits}
use Rattle.runend_decimals.specs.Rows.{integers_fault}
use Rattle.runend_decimals.specs.Scales.{decimal_of_row, decimal_row, rescaled, EachDecimal, IsHeldAt, IsRescaleRefusal}
use Rattle.runend_decimals.proofs.EncodedRuns.{each_shown, read_paired, read_shown, window_counted, written_paired, written_shown}
use Rattle.runend_decimals.proofs.from_integers.decimal_parts.Goals as goal

pub scaled_integers-requires-clause-runs : goal.scaled_integers-requires-clause-runs
scaled_integers-requires-clause-runs g c =
    let column = c.args.column.now in
    whole_runs (rows column) (dtype_of column) c.in_ok-ends.ends (OfNumbers c.in_ok-ends.integers) c.in_ok-ends.ensures.encoding

pub scaled_integers-requires-clause-paired : goal.scaled_integers-requires-clause-paired
scaled_integers-requires-clause-paired g c =
    let column = c.args.column.now in
    let numbers = optional_numbers c.in_ok-ends.integers in
    read_paired (rows column) (dtype_of column) c.in_ok-ends.ends (OfNumbers c.in_ok-ends.integers) c.in_ok-ends.ensures.encoding number_in numbers (numbers-of_rows numbers)

pub encode_runs-parts-requires-clause-plain : goal.encode_runs-parts-requires-clause-plain
encode_runs-parts-requires-clause-plain g c =
    let column = c.args.column.now in
    (whole_runs (rows column) (dtype_of column) c.in_ok-ends.ends (OfNumbers c.in_ok-ends.integers) c.in_ok-ends.ensures.encoding).plain

pub encode_runs-parts-requires-clause-window : goal.encode_runs-parts-requires-clause-window
encode_runs-parts-requires-clause-window g c =
    let column = c.args.column.now in
    window_counted (rows column) (dtype_of column) c.in_ok-ends.ends (OfNumbers c.in_ok-ends.integers) c.in_ok-ends.ensures.encoding c.len.result c.len.ensures

pub encode_runs-parts-requires-clause-shown : goal.encode_runs-parts-requires-clause-shown
encode_runs-parts-requires-clause-shown g c =
    let column = c.args.column.now in
    each_shown (rows column) (dtype_of column) c.in_ok-ends.ends (OfNumbers c.in_ok-ends.integers) c.in_ok-ends.ensures.encoding c.len.result c.len.ensures

pub encode_runs-parts-requires-clause-paired : goal.encode_runs-parts-requires-clause-paired
encode_runs-parts-requires-clause-paired g c =
    let column = c.args.column.now in
    let numbers = optional_numbers c.in_ok-ends.integers in
    written_paired (rows column) (dtype_of column) c.in_ok-ends.ends (OfNumbers c.in_ok-ends.integers) c.in_ok-ends.ensures.encoding number_in numbers (numbers-of_rows numbers)
    (λ n. decimal_row (option_map (rescaled (pos 0) c.args.to.scale) n)) (OfDecimals c.in-Ok.decimals) c.in-Ok.ensures.rows

pub returns-clause-encoding : goal.returns-clause-encoding
returns-clause-encoding g c =
    let column = c.args.column.now in
    let integers = c.in_ok-ends.integers in
    let numbers = optional_numbers integers in
    let to = c.args.to in
    let e = c.in_ok-ends.ensures.encoding in
    let shown = written_shown (rows column) (dtype_of column) c.in_ok-ends.ends (OfNumbers integers) e number_in numbers (numbers-of_rows numbers)
    (λ n. decimal_row (option_map (rescaled (pos 0) to.scale) n)) (OfDecimals c.in-Ok.decimals) c.in-Ok.ensures.rows c.len.result c.len.ensures in
    subst (λ (t : DType). IsRowEncoding (map (decimal_of_row to.scale) (rows column)) (types.Decimal to (nullability_of t)) c.in_ok-parts.field-0.0 (leaf_of c.in_ok-parts.field-0.1)) e.typed
    (subst (λ (t : DType). IsRowEncoding (map (decimal_of_row to.scale) (rows column)) t c.in_ok-parts.field-0.0 (leaf_of c.in_ok-parts.field-0.1)) c.in-Ok.ensures.dtype
    (subst (λ (made : List (Option Value)). IsRowEncoding made (leaf_dtype (OfDecimals c.in-Ok.decimals)) c.in_ok-parts.field-0.0 (leaf_of c.in_ok-parts.field-0.1)) shown
    (rw c.in_ok-parts.was at c.encode_runs-parts.ensures.encoding)))

pub returns-clause-held : goal.returns-clause-held
returns-clause-held g c =
    let column = c.args.column.now in
    let numbers = optional_numbers c.in_ok-ends.integers in
    let has = HasDigits (min c.args.to.precision 38) in
    let shown = read_shown (rows column) (dtype_of column) c.in_ok-ends.ends (OfNumbers c.in_ok-ends.integers) c.in_ok-ends.ensures.encoding number_in numbers (numbers-of_rows numbers) in
    subst (λ (ns : List (Option ℤ)). EachDecimal (IsHeldAt (pos 0) c.args.to.scale has) ns) shown c.in-Ok.ensures.held

pub returns-in-Err-clause-refused : goal.returns-in-Err-clause-refused
returns-in-Err-clause-refused g c =
    let column = c.args.column.now in
    let error = c.in-Err.error in
    let numbers = optional_numbers c.in_ok-ends.integers in
    let has = HasDigits (min c.args.to.precision 38) in
    let shown = read_shown (rows column) (dtype_of column) c.in_ok-ends.ends (OfNumbers c.in_ok-ends.integers) c.in_ok-ends.ensures.encoding number_in numbers (numbers-of_rows numbers) in
    let none : integers_fault (dtype_of column) ≡ None = ap (λ (b : Bool). if b then None else Some Unsupported) c.requires in
    let refused = subst (λ (ns : List (Option ℤ)). IsRescaleRefusal None (pos 0) c.args.to.scale has ns error) shown c.in-Err.ensures.refused in
    subst (λ (f : Option VortexError). IsRescaleRefusal f (pos 0) c.args.to.scale has (map number_in (rows column)) error) (sym none) refused
