use Rattle.std.proofs.Common.{◌≡◌, length, map, take}
use Rattle.std.specs.Prelude.{is_some}
use Rattle.column_base.specs.Mask.{mask_bits}
use Rattle.column_base.specs.Validity.{validity_flags}
use Rattle.column_core.specs.Optionals.{optionals}
use Rattle.column_ops.specs.Filter.{filter_rows}
use Rattle.column_ops.proofs.filter_items.selected_flags.Given as goal

abbrev pub invariant-loop-row : goal.invariant-loop-row
invariant-loop-row g l = l.kept ≡ map is_some (filter_rows (take l.row (mask_bits l.mask)) (take l.row (optionals l.items (validity_flags l.validity (length l.items)))))
