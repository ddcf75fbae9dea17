use Rattle.std.proofs.Common.{ℕ, ap, arith, refl, length}
use Rattle.column_fields.specs.Varint.{varint}
use Rattle.column_fields.proofs.SizeLaws.{varint_bytes}
use Rattle.column_fields.proofs.stored.U64StoredEnd.longer.Goals as goal

pub returns-clause-size : goal.returns-clause-size
returns-clause-size c =
    omega (arith, varint_bytes c.saturating_sub.result _ (omega arith) refl, ap (λ (n : ℕ). length (varint n)) c.saturating_sub.ensures)
