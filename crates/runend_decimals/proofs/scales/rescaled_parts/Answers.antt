use Rattle.std.proofs.Common.{◌≡◌, ℤ, Bool, List, Option, None, Some, map, min, ap, sym, subst}
use Rattle.std.specs.Prelude.{if◌then◌else◌, option_map}
use Rattle.column_base.specs.Types.{nullability_of}
use Rattle.column_base.specs.declared.dtype.DType.{DType}
use Rattle.column_base.specs.declared.dtype.DType.TheVariants as types
use Rattle.column_base.specs.declared.error.VortexError.{VortexError}
use Rattle.column_base.specs.declared.error.VortexError.TheVariants.{Unsupported}
use Rattle.column_core.specs.FlatColumn.{leaf_of}
use Rattle.column_core.specs.DecimalForm.{optional_decimals}
use Rattle.column_core.specs.Leaf.{OfDecimals, leaf_dtype}
use Rattle.column_core.specs.Value.{Value}
use Rattle.runend_array.specs.Array.{dtype_of, rows}
use Rattle.runend_encode.specs.Encoding.{IsRowEncoding}
use Rattle.runend_floats.proofs.CoveredRows.{whole_runs}
use Rattle.runend_decimals.specs.Digits.{HasDigits}
use Rattle.runend_decimals.specs.Rows.{decimal_in, decimals_fault}
use Rattle.runend_decimals.specs.Scales.{decimal_row, rescaled, rescaled_row, scale_of, EachDecimal, IsHeldAt, IsRescaleRefusal}
use Rattle.runend_decimals.proofs.DecimalRuns.{decimals-of_rows, decimals_paired, decimals_shown}
use Rattle.runend_decimals.proofs.EncodedRuns.{each_shown, window_counted, written_paired, written_shown}
use Rattle.runend_decimals.proofs.scales.rescaled_parts.Goals as goal

pub rescaled_decimals-requires-clause-runs : goal.rescaled_decimals-requires-clause-runs
rescaled_decimals-requires-clause-runs g c =
    let column = c.args.column.now in
    whole_runs (rows column) (dtype_of column) c.in_ok-ends.ends (OfDecimals c.in_ok-ends.values) c.in_ok-ends.ensures.encoding

pub rescaled_decimals-requires-clause-paired : goal.rescaled_decimals-requires-clause-paired
rescaled_decimals-requires-clause-paired g c =
    let column = c.args.column.now in
    decimals_paired (rows column) (dtype_of column) c.in_ok-ends.ends c.in_ok-ends.values c.in_ok-ends.ensures.encoding

pub encode_runs-parts-requires-clause-plain : goal.encode_runs-parts-requires-clause-plain
encode_runs-parts-requires-clause-plain g c =
    let column = c.args.column.now in
    (whole_runs (rows column) (dtype_of column) c.in_ok-ends.ends (OfDecimals c.in_ok-ends.values) c.in_ok-ends.ensures.encoding).plain

pub encode_runs-parts-requires-clause-window : goal.encode_runs-parts-requires-clause-window
encode_runs-parts-requires-clause-window g c =
    let column = c.args.column.now in
    window_counted (rows column) (dtype_of column) c.in_ok-ends.ends (OfDecimals c.in_ok-ends.values) c.in_ok-ends.ensures.encoding c.len.result c.len.ensures

pub encode_runs-parts-requires-clause-shown : goal.encode_runs-parts-requires-clause-shown
encode_runs-parts-requires-clause-shown g c =
    let column = c.args.column.now in
    each_shown (rows column) (dtype_of column) c.in_ok-ends.ends (OfDecimals c.in_ok-ends.values) c.in_ok-ends.ensures.encoding c.len.result c.len.ensures

pub encode_runs-parts-requires-clause-paired : goal.encode_runs-parts-requires-clause-paired
encode_runs-parts-requires-clause-paired g c =
    let column = c.args.column.now in
    let values = c.in_ok-ends.values in
    written_paired (rows column) (dtype_of column) c.in_ok-ends.ends (OfDecimals values) c.in_ok-ends.ensures.encoding decimal_in (optional_decimals values) (decimals-of_rows (optional_decimals values))
    (λ n. decimal_row (option_map (rescaled values.decimal.scale c.args.to.scale) n)) (OfDecimals c.in-Ok.decimals) c.in-Ok.ensures.rows

pub returns-clause-encoding : goal.returns-clause-encoding
returns-clause-encoding g c =
    let column = c.args.column.now in
    let values = c.in_ok-ends.values in
    let to = c.args.to in
    let e = c.in_ok-ends.ensures.encoding in
    let shown = written_shown (rows column) (dtype_of column) c.in_ok-ends.ends (OfDecimals values) e decimal_in (optional_decimals values) (decimals-of_rows (optional_decimals values))
    (λ n. decimal_row (option_map (rescaled values.decimal.scale to.scale) n)) (OfDecimals c.in-Ok.decimals) c.in-Ok.ensures.rows c.len.result c.len.ensures in
    subst (λ (t : DType). IsRowEncoding (map (rescaled_row (scale_of t) to.scale) (rows column)) (types.Decimal to (nullability_of t)) c.in_ok-parts.field-0.0 (leaf_of c.in_ok-parts.field-0.1)) e.typed
    (subst (λ (t : DType). IsRowEncoding (map (rescaled_row values.decimal.scale to.scale) (rows column)) t c.in_ok-parts.field-0.0 (leaf_of c.in_ok-parts.field-0.1)) c.in-Ok.ensures.dtype
    (subst (λ (made : List (Option Value)). IsRowEncoding made (leaf_dtype (OfDecimals c.in-Ok.decimals)) c.in_ok-parts.field-0.0 (leaf_of c.in_ok-parts.field-0.1)) shown
    (rw c.in_ok-parts.was at c.encode_runs-parts.ensures.encoding)))

pub returns-clause-held : goal.returns-clause-held
returns-clause-held g c =
    let column = c.args.column.now in
    let values = c.in_ok-ends.values in
    let e = c.in_ok-ends.ensures.encoding in
    let digits = min c.args.to.precision 38 in
    let shown = decimals_shown (rows column) (dtype_of column) c.in_ok-ends.ends values e in
    subst (λ (t : DType). EachDecimal (IsHeldAt (scale_of t) c.args.to.scale (HasDigits digits)) (map decimal_in (rows column))) e.typed
    (subst (λ (ns : List (Option ℤ)). EachDecimal (IsHeldAt values.decimal.scale c.args.to.scale (HasDigits digits)) ns) shown c.in-Ok.ensures.held)

pub returns-in-Err-clause-refused : goal.returns-in-Err-clause-refused
returns-in-Err-clause-refused g c =
    let column = c.args.column.now in
    let error = c.in-Err.error in
    let values = c.in_ok-ends.values in
    let e = c.in_ok-ends.ensures.encoding in
    let has = HasDigits (min c.args.to.precision 38) in
    let shown = decimals_shown (rows column) (dtype_of column) c.in_ok-ends.ends values e in
    let none : decimals_fault (dtype_of column) ≡ None = ap (λ (b : Bool). if b then None else Some Unsupported) c.requires in
    let refused = subst (λ (t : DType). IsRescaleRefusal None (scale_of t) c.args.to.scale has (map decimal_in (rows column)) error) e.typed
    (subst (λ (ns : List (Option ℤ)). IsRescaleRefusal None values.decimal.scale c.args.to.scale has ns error) shown c.in-Err.ensures.refused) in
    subst (λ (f : Option VortexError). IsRescaleRefusal f (scale_of (dtype_of column)) c.args.to.scale has (map decimal_in (rows column)) error) (sym none) refused
