use Rattle.std.proofs.Common.{ℕ, ◌∙◌, ap, arith, length}
use Rattle.column_fields.specs.Varint.{varint}
use Rattle.column_fields.proofs.LengthBytes.{long_u8}
use Rattle.column_fields.proofs.stored.U8StoredEnd.longer.Goals as goal

pub returns-clause-size : goal.returns-clause-size
returns-clause-size c =
    long_u8 c.saturating_sub.result _ (omega arith) c.from.ensures ∙ ap (λ (n : ℕ). length (varint n)) c.saturating_sub.ensures
