use Rattle.std.proofs.Common.{ℕ, ◌∙◌, ap, arith, length}
use Rattle.column_fields.specs.Varint.{varint}
use Rattle.column_fields.proofs.LengthBytes.{long_u16}
use Rattle.column_fields.proofs.stored.U16StoredEnd.longer.Goals as goal

pub returns-clause-size : goal.returns-clause-size
returns-clause-size c =
    long_u16 c.saturating_sub-length.result _ _ (omega arith) c.from.ensures c.from-2.ensures ∙ ap (λ (n : ℕ). length (varint n)) c.saturating_sub-length.ensures
