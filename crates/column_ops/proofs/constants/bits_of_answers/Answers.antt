use Rattle.std.proofs.Common.{rules, ◌∙◌, FitsSigned, pos, to_z, of_z}
use Rattle.std.specs.Int.{w64, w128}
use Rattle.std.proofs.lemmas.Int.{to_z-of_z}
use Rattle.column_base.specs.Numbers.{numbers}
use Rattle.column_base.specs.Validity.{form_of}
use Rattle.column_ops.proofs.ConstantBits.{bits-numbers, bits-decimals}
use Rattle.column_ops.proofs.constants.bits_of_answers.Goals as goal

pub returns-in-Primitive-Unsigned-clause-bits : goal.returns-in-Primitive-Unsigned-clause-bits
returns-in-Primitive-Unsigned-clause-bits g c =
    let array = c.in-Primitive-Unsigned.array.now in
    rw (c.in-Primitive-Unsigned.is-0, c.in-Primitive-Unsigned.is-1)
    (bits-numbers c.bits_of_numbers.result c.args.operator (to_z w128 (of_z w128 c.from-right.result)) (pos c.in-Primitive-Unsigned.number) (form_of c.validity.result.now) array.validity
    (numbers c.values.result.now) array.numbers (to_z-of_z w128 c.from-right.result (record { sfits = c.from-right.type_inv }) ∙ c.from-right.ensures) c.values.ensures.shows c.validity.ensures.form c.bits_of_numbers.ensures.bits)

pub returns-in-Primitive-Signed-clause-bits : goal.returns-in-Primitive-Signed-clause-bits
returns-in-Primitive-Signed-clause-bits g c =
    let array = c.in-Primitive-Signed.array.now in
    let fits : FitsSigned w64 c.in-Primitive-Signed.number = search rules in
    rw (c.in-Primitive-Signed.is-0, c.in-Primitive-Signed.is-1)
    (bits-numbers c.bits_of_numbers-in-Primitive-Signed.result c.args.operator (to_z w128 (of_z w128 c.from-right-in-Primitive-Signed.result)) c.in-Primitive-Signed.number
    (form_of c.validity-in-Primitive-Signed.result.now) array.validity (numbers c.values-in-Primitive-Signed.result.now) array.numbers
    (to_z-of_z w128 c.from-right-in-Primitive-Signed.result (record { sfits = c.from-right-in-Primitive-Signed.type_inv }) ∙ c.from-right-in-Primitive-Signed.ensures ∙ to_z-of_z w64 c.in-Primitive-Signed.number fits)
    c.values-in-Primitive-Signed.ensures.shows c.validity-in-Primitive-Signed.ensures.form c.bits_of_numbers-in-Primitive-Signed.ensures.bits)

pub returns-in-Decimal-Decimal-clause-bits : goal.returns-in-Decimal-Decimal-clause-bits
returns-in-Decimal-Decimal-clause-bits g c =
    let array = c.in-Decimal-Decimal.array.now in
    let fits : FitsSigned w128 c.in-Decimal-Decimal.number = search rules in
    rw (c.in-Decimal-Decimal.is-0, c.in-Decimal-Decimal.is-1)
    (bits-decimals c.bits_of_items.result c.args.operator (to_z w128 (of_z w128 c.in-Decimal-Decimal.number)) c.in-Decimal-Decimal.number (form_of c.validity-in-Decimal-Decimal.result.now) array.validity
    c.values-in-Decimal-Decimal.result.now array.numbers (to_z-of_z w128 c.in-Decimal-Decimal.number fits) c.values-in-Decimal-Decimal.ensures c.validity-in-Decimal-Decimal.ensures.form c.bits_of_items.ensures.bits)
