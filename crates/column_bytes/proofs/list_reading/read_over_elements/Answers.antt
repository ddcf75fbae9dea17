use Rattle.std.proofs.Common.{arith}
use Rattle.column_core.specs.FlatColumn.{leaf_of}
use Rattle.runend_array.specs.Array.{column_of, validity_of}
use Rattle.runend_array.specs.Column.{index_of}
use Rattle.column_fields.proofs.Refusals.{same_error}
use Rattle.column_bytes.proofs.ListReads.{no_offsets, none_over}
use Rattle.column_bytes.proofs.list_reading.read_over_elements.Goals as goal

pub returns-in-Err-clause-bad : goal.returns-in-Err-clause-bad
returns-in-Err-clause-bad g c = λ e. no_offsets _ _ _ _ _ _ (c.in-Err.ensures.bad (same_error _ _ e))

pub returns-in-Ok-read_index-clause-bad : goal.returns-in-Ok-read_index-clause-bad
returns-in-Ok-read_index-clause-bad g c =
    λ e. none_over c.args.levels c.args.rows (leaf_of c.args.elements.value) (validity_of c.args.validity) c.args.first.now c.args.counts.now (index_of (column_of c.in-Ok.offsets)) (index_of (column_of c.in-Ok-read_index.sizes)) (omega arith) (omega arith) c.in-Ok.ensures.found c.in-Ok-read_index.ensures.found (c.join_lists.ensures.bad e)
