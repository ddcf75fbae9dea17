use Rattle.std.proofs.Common.{◌∙◌, ap, map, sym, take_all, arith}
use Rattle.std.proofs.lemmas.List.{length-map}
use Rattle.column_core.specs.Kinds.{list_fault}
use Rattle.column_core.specs.Refusal.{first_fault}
use Rattle.column_ops.proofs.IndexPositions.{first_fault-here, first_fault-next}
use Rattle.tables.proofs.NameLists.{mapped_at}
use Rattle.tables.proofs.Worked.{dtype_in}
use Rattle.tables.proofs.joined.first_list_fault.Goals as goal

pub loop-column-preserved : goal.loop-column-preserved
loop-column-preserved g c =
    let column = c.column-item.result in
    first_fault-next list_fault (map dtype_in c.args.columns.now) c.loop-column.column-index (dtype_in column) c.loop-column.invariant
    (mapped_at dtype_in c.args.columns.now c.loop-column.column-index column (omega arith) c.column-item.is) (ap list_fault (sym c.dtype.ensures) ∙ sym c.fault_of_lists.ensures ∙ c.in_default.is)

pub returns-in-Some : goal.returns-in-Some
returns-in-Some g c =
    let column = c.column-item.result in
    sym (first_fault-here list_fault (map dtype_in c.args.columns.now) c.loop-column.column-index (dtype_in column) c.in-Some.error c.loop-column.invariant
    (mapped_at dtype_in c.args.columns.now c.loop-column.column-index column (omega arith) c.column-item.is) (ap list_fault (sym c.dtype.ensures) ∙ sym c.fault_of_lists.ensures ∙ c.in-Some.is))

pub returns : goal.returns
returns g c =
    sym (ap (first_fault list_fault) (sym (take_all c.loop-column.column-index (map dtype_in c.args.columns.now) (omega (arith, length-map c.args.columns.now dtype_in)))) ∙ c.loop-column.invariant)
