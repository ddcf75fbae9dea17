use Rattle.std.proofs.Common.{◌∙◌, Bool, List, ap, length, map}
use Rattle.std.specs.Option.{option_or}
use Rattle.std.specs.Prelude.{count_by}
use Rattle.column_base.specs.Types.{nullability_of}
use Rattle.column_ops.specs.Filter.{filter_fault, filter_rows}
use Rattle.exact_comparisons.specs.ExactRows.{number_fault, IsExactTruth}
use Rattle.row_stretches.specs.Masks.{mask_fault}
use Rattle.runend_array.specs.Array.{dtype_of, rows}
use Rattle.tables.specs.Tables.{rows_of}
use Rattle.tables.proofs.SelectedRows.{same_bits}
use Rattle.typed_columns.specs.Typed.{typed_of}
use Rattle.typed_kernels.specs.Served.{served}
use Rattle.exact_comparisons.proofs.Filtering.{memory_of, no_mask_fault, refused_as}
use Rattle.exact_comparisons.proofs.filters.filter_by_number.Goals as goal

pub returns-in_err-mask-clause-refused : goal.returns-in_err-mask-clause-refused
returns-in_err-mask-clause-refused g c =
    let column = typed_of c.in-Some.column.now in
    refused_as c.args.table.now c.args.name.now column c.in_err-mask.field-0.0 c.from_residual.result c.from_residual.ensures.1 c.in-Some.ensures.found c.in_err-mask.ensures.refused

pub returns-in_err-kept-clause-refused : goal.returns-in_err-kept-clause-refused
returns-in_err-kept-clause-refused g c =
    let column = typed_of c.in-Some.column.now in
    let mask = c.in_ok-mask.mask in
    let t = dtype_of c.in-Some.column.now.array in
    let none = no_mask_fault (IsExactTruth (served column) t c.args.operator c.args.number) (rows c.in-Some.column.now.array) (rows mask) c.args.table.now.count (dtype_of mask) (nullability_of t) c.in_ok-mask.ensures.truths c.in-Some.ensures.even c.in_ok-mask.ensures.dtype in
    refused_as c.args.table.now c.args.name.now column c.in_err-kept.field-0.0 c.from_residual-in_err-kept.result c.from_residual-in_err-kept.ensures.1 c.in-Some.ensures.found
    (memory_of (number_fault (served column) t) (option_or (mask_fault (dtype_of mask)) (filter_fault (length (rows mask)) c.args.table.now.count)) c.in_err-kept.field-0.0 c.in_ok-mask.ensures.refused none c.in_err-kept.ensures.refused)

pub returns-clause-filtered : goal.returns-clause-filtered
returns-clause-filtered g c =
    let column = typed_of c.in-Some.column.now in
    let mask = c.in_ok-mask.mask in
    let bits = same_bits (rows mask) in
    record {
      column = column;
      named = c.in-Some.ensures.found;
      compared = c.in_ok-mask.ensures.refused;
      truths = rows mask;
      each = c.in_ok-mask.ensures.truths;
      rows = c.in_ok-kept.ensures.rows ∙ ap (λ (b : List Bool). map (filter_rows b) (rows_of c.args.table.now)) bits;
      count = c.in_ok-kept.ensures.count ∙ ap (λ (b : List Bool). count_by (λ bit. bit) b) bits;
    }
