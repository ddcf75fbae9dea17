use Rattle.std.proofs.Common.{◌≡◌, ◌∙◌, Bool, None, Some, ap, map, sym}
use Rattle.std.specs.Prelude.{if◌then◌else◌}
use Rattle.column_base.specs.declared.dtype.DType.{DType}
use Rattle.column_base.specs.declared.error.VortexError.TheVariants.{Unsupported}
use Rattle.column_core.specs.Kinds.{is_list, list_fault}
use Rattle.row_stretches.specs.Masks.{truths_of}
use Rattle.runend_array.specs.Array.{dtype_of, rows}
use Rattle.runend_column.proofs.ComputedRows.{ok_then}
use Rattle.tables.proofs.SelectedRows.{only_short}
use Rattle.tables.proofs.ValidMasks.{tested_truths}
use Rattle.tables.proofs.valid.valid_rows.Goals as goal

pub returns-clause-only : goal.returns-clause-only
returns-clause-only g c =
    let dtype = dtype_of c.args.column.now in
    let single = ap is_list (sym c.dtype.ensures) ∙ sym c.is_list_type.ensures.same ∙ c.if-is_list_type.false in
    only_short (list_fault dtype) c.is_valid.result (ap (λ (b : Bool). if b then Some Unsupported else None) single) c.is_valid.ensures.refused

pub returns-clause-truths : goal.returns-clause-truths
returns-clause-truths g c = ok_then c.is_valid.result _ _ (λ valid answers. ap truths_of answers.shows ∙ tested_truths (rows c.args.column.now)) c.is_valid.ensures.answers
