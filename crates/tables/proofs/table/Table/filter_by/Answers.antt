use Rattle.std.proofs.Common.{◌≡◌, ◌∙◌, Bool, List, None, ap, length, map}
use Rattle.std.specs.Option.{option_or}
use Rattle.std.specs.Prelude.{count_by, option_map}
use Rattle.column_base.specs.declared.dtype.DType.{DType}
use Rattle.column_core.specs.Value.{Single}
use Rattle.column_ops.specs.Filter.{filter_fault, filter_rows}
use Rattle.runend_array.specs.Array.{dtype_of, rows}
use Rattle.row_stretches.specs.Masks.{mask_fault, truths_of}
use Rattle.tables.specs.Selected.{held_bits}
use Rattle.tables.specs.Tables.{rows_of}
use Rattle.typed_columns.specs.Typed.{typed_of}
use Rattle.tables.proofs.SelectedRows.{mask_fits, refused_as_compared, refused_for_memory, same_bits, short_of_first}
use Rattle.tables.proofs.table.Table.filter_by.Goals as goal

pub returns-in_err-mask-clause-refused : goal.returns-in_err-mask-clause-refused
returns-in_err-mask-clause-refused g c =
    refused_as_compared c.args.self.now c.args.name.now c.args.value.now.dtype (typed_of c.in-Some.column.now) c.in_err-mask.field-0.0 c.from_residual.result c.from_residual.ensures.1 c.in-Some.ensures.found
    c.in_err-mask.ensures.refused

pub returns-in_err-kept-clause-refused : goal.returns-in_err-kept-clause-refused
returns-in_err-kept-clause-refused g c =
    let column = typed_of c.in-Some.column.now in
    let mask = c.in_ok-mask.mask in
    let fits = mask_fits (rows mask) c.args.operator (rows c.in-Some.column.now.array) (option_map Single c.args.value.now.value) c.args.self.now.count c.in_ok-mask.ensures.rows c.in-Some.ensures.even in
    let none : option_or (mask_fault (dtype_of mask)) (filter_fault (length (rows mask)) c.args.self.now.count) ≡ None =
    ap (λ (t : DType). option_or (mask_fault t) (filter_fault (length (rows mask)) c.args.self.now.count)) c.in_ok-mask.ensures.dtype ∙ fits in
    let error = c.in_err-kept.field-0.0 in
    refused_for_memory c.args.self.now c.args.name.now c.args.value.now.dtype column error c.from_residual-in_err-kept.result c.from_residual-in_err-kept.ensures.1 c.in-Some.ensures.found c.in_ok-mask.ensures.refused
    (short_of_first (option_or (mask_fault (dtype_of mask)) (filter_fault (length (rows mask)) c.args.self.now.count)) error none c.in_err-kept.ensures.refused)

pub returns-clause-filtered : goal.returns-clause-filtered
returns-clause-filtered g c =
    let column = typed_of c.in-Some.column.now in
    let bits : truths_of (rows c.in_ok-mask.mask) ≡ held_bits c.args.operator column (option_map Single c.args.value.now.value) = ap truths_of c.in_ok-mask.ensures.rows ∙ same_bits _ in
    record {
      column = column;
      named = c.in-Some.ensures.found;
      compared = c.in_ok-mask.ensures.refused;
      rows = c.in_ok-kept.ensures.rows ∙ ap (λ (b : List Bool). map (filter_rows b) (rows_of c.args.self.now)) bits;
      count = c.in_ok-kept.ensures.count ∙ ap (λ (b : List Bool). count_by (λ bit. bit) b) bits;
    }
