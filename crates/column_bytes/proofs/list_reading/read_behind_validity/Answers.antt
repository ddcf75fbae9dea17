use Rattle.std.proofs.Common.{arith}
use Rattle.std.proofs.lemmas.Result.{IfOk-weaker}
use Rattle.column_core.specs.FlatColumn.{leaf_of}
use Rattle.runend_array.specs.Array.{column_of, validity_of}
use Rattle.column_fields.proofs.Refusals.{same_error}
use Rattle.column_bytes.proofs.ListReads.{no_list_fields, no_elements, are_behind, none_behind}
use Rattle.column_bytes.proofs.list_reading.read_behind_validity.Goals as goal

pub returns-in_default-clause-bad : goal.returns-in_default-clause-bad
returns-in_default-clause-bad g c = λ _. no_list_fields c.args.levels c.args.rows (validity_of c.args.validity) c.args.bytes.now (omega arith) c.in_default.ensures.none

pub returns-in-Ok-clause-found : goal.returns-in-Ok-clause-found
returns-in-Ok-clause-found g c =
    let f = c.in-Some.ensures in
    IfOk-weaker c.read_over_elements.result _ _ (λ array over. are_behind c.args.levels c.args.rows (validity_of c.args.validity) c.args.bytes.now (omega arith) _ _ _ f.small.0 f.small.1 f.small.2 f.found (leaf_of c.in-Ok.elements.value) (column_of array) c.in-Ok.ensures.found over) c.read_over_elements.ensures.found

pub returns-in-Ok-clause-bad : goal.returns-in-Ok-clause-bad
returns-in-Ok-clause-bad g c =
    let f = c.in-Some.ensures in
    λ e. none_behind c.args.levels c.args.rows (validity_of c.args.validity) c.args.bytes.now (omega arith) _ _ _ f.small.0 f.small.1 f.small.2 f.found (leaf_of c.in-Ok.elements.value) c.in-Ok.ensures.found (c.read_over_elements.ensures.bad e)

pub returns-in-Err-clause-bad : goal.returns-in-Err-clause-bad
returns-in-Err-clause-bad g c =
    let f = c.in-Some.ensures in
    λ e. no_elements c.args.levels c.args.rows (validity_of c.args.validity) c.args.bytes.now (omega arith) _ _ _ f.small.0 f.small.1 f.small.2 f.found (c.in-Err.ensures.bad (same_error _ _ e))
