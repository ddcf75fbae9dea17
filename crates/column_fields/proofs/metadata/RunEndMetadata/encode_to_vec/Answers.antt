use Rattle.std.proofs.Common.{arith}
use Rattle.std.proofs.lemmas.Int.{ints}
use Rattle.column_fields.proofs.RecordWriting.{written, written_means}
use Rattle.column_fields.proofs.metadata.RunEndMetadata.encode_to_vec.Goals as goal

pub returns-clause-means : goal.returns-clause-means
returns-clause-means g c =
    written_means _ _ c.requires (written _ _ _ _ c.args.self.now _ c.in_ok-out.ensures.items (omega (arith, ints)) c.push_field.ensures.written c.push_field-2.ensures.written c.push_field-3.ensures.written)
