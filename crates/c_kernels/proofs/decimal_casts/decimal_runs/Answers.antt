use Rattle.std.proofs.Common.{◌≡◌, true, false}
use Rattle.column_core.specs.Kinds.{is_numbers}
use Rattle.runend_array.specs.Array.{dtype_of, rows}
use Rattle.c_kernels.proofs.RescaleEndings.{decimals_held, integers_held}
use Rattle.c_kernels.proofs.decimal_casts.decimal_runs.Goals as goal

pub returns-then-is_number_type-clause-held : goal.returns-then-is_number_type-clause-held
returns-then-is_number_type-clause-held c =
    let column = c.args.column.now in
    let tested = c.is_number_type.ensures in
    let typed = c.dtype.ensures in
    let holds = c.if-is_number_type.true in
    let is : is_numbers (dtype_of column) ≡ true = cc in
    integers_held (dtype_of column) c.args.to (rows column) c.decimals_of.result is c.decimals_of.ensures.held

pub returns-else-is_number_type-clause-held : goal.returns-else-is_number_type-clause-held
returns-else-is_number_type-clause-held c =
    let column = c.args.column.now in
    let tested = c.is_number_type.ensures in
    let typed = c.dtype.ensures in
    let fails = c.if-is_number_type.false in
    let is : is_numbers (dtype_of column) ≡ false = cc in
    decimals_held (dtype_of column) c.args.to (rows column) c.rescale.result is c.rescale.ensures.held
