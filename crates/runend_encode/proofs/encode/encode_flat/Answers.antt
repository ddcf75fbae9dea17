use Rattle.runend_encode.proofs.Encodings.{IsRowEncoding-of_numbers}
use Rattle.runend_encode.proofs.encode.encode_flat.Goals as goal

pub returns-in_ok-ends-in-Primitive-clause-encoding : goal.returns-in_ok-ends-in-Primitive-clause-encoding
returns-in_ok-ends-in-Primitive-clause-encoding g c =
    rw c.in-Primitive.is
    (IsRowEncoding-of_numbers c.in-Primitive.array.now c.in_ok-ends-in-Primitive.ends c.in_ok-ends-in-Primitive.values c.in_ok-ends-in-Primitive.ensures.encoding)
