use Rattle.std.proofs.Common.{◌≡◌, ℕ, ◌∙◌, length, sym}
use Rattle.std.specs.Prelude.{option_map}
use Rattle.std.proofs.lemmas.List.{length-map}
use Rattle.column_core.specs.Value.{Single}
use Rattle.column_core.specs.PrimitiveForm.{PrimitiveForm, primitive_rows}
use Rattle.runend_array.specs.Array.{column_of}
use Rattle.runend_windows.specs.Encoding.{number_rows}
use Rattle.runend_array.proofs.Encodings.{encoding_parts, encoded_of_parts}
use Rattle.runend_array.proofs.array.RunEnd.encode.Goals as goal

-- how many rows there are
counted : (form : PrimitiveForm) (n : ℕ) → n ≡ length (primitive_rows form) → n ≡ length (number_rows form)
counted form n e = e ∙ sym (length-map (primitive_rows form) (option_map Single))

pub new_unchecked-requires : goal.new_unchecked-requires
new_unchecked-requires g c =
    encoding_parts c.in-Primitive.plain c.in_ok-ends.ends (column_of c.in_ok-ends.values) c.len-count.result c.in_ok-ends.ensures.encoding
    (counted c.in-Primitive.plain c.len-count.result c.len-count.ensures.rows)

pub returns-clause-encoded : goal.returns-clause-encoded
returns-clause-encoded g c =
    rw (c.in-Primitive.is, c.new_unchecked.ensures)
    (encoded_of_parts c.in-Primitive.plain c.in_ok-ends.ends (column_of c.in_ok-ends.values) c.len-count.result c.in_ok-ends.ensures.encoding
    (counted c.in-Primitive.plain c.len-count.result c.len-count.ensures.rows))
