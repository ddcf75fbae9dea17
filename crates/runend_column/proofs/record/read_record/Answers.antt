use Rattle.std.proofs.Common.{Err, refl}
use Rattle.runend_array.specs.Array.{column_of}
use Rattle.runend_column.proofs.Faults.{fault_of_bytes, fault_of_parts, fault_of_slots, passed_on}
use Rattle.runend_column.proofs.record.read_record.Goals as goal

pub returns-in_err-metadata : goal.returns-in_err-metadata
returns-in_err-metadata g c =
    passed_on _ _ c.from_residual.result c.in_err-metadata.field-0.0 c.from_residual.ensures.1
    (fault_of_bytes c.args.bytes.now c.args.dtype c.args.length (column_of c.args.ends.now) (column_of c.args.values.now) (Err c.in_err-metadata.field-0.0) c.in_err-metadata.field-0.0 refl c.in_err-metadata.ensures.ok c.in_err-metadata.ensures.number c.in_err-metadata.ensures.bad)

pub returns-in_err-check_slots : goal.returns-in_err-check_slots
returns-in_err-check_slots g c =
    passed_on _ _ c.from_residual-in_err-check_slots.result c.in_err-check_slots.field-0.0 c.from_residual-in_err-check_slots.ensures.1
    (fault_of_slots c.args.bytes.now c.in_ok-metadata.metadata c.args.dtype c.args.length (column_of c.args.ends.now) (column_of c.args.values.now) c.in_err-check_slots.field-0.0 ((c.in_ok-metadata.ensures.ok c.in_ok-metadata.metadata).0 refl) c.in_err-check_slots.ensures)

pub returns-in_err-validate_parts : goal.returns-in_err-validate_parts
returns-in_err-validate_parts g c =
    passed_on _ _ c.from_residual-in_err-validate_parts.result c.in_err-validate_parts.field-0.0 c.from_residual-in_err-validate_parts.ensures.1
    (fault_of_parts c.args.bytes.now c.in_ok-metadata.metadata c.args.dtype c.args.length (column_of c.args.ends.now) (column_of c.args.values.now) c.in_err-validate_parts.field-0.0 ((c.in_ok-metadata.ensures.ok c.in_ok-metadata.metadata).0 refl) c.in_ok-check_slots.ensures c.in_err-validate_parts.ensures)

pub returns : goal.returns
returns g c = record {
  means = (c.in_ok-metadata.ensures.ok c.in_ok-metadata.metadata).0 refl;
  slots = c.in_ok-check_slots.ensures;
  parts = c.in_ok-validate_parts.ensures;
}
