use Rattle.std.proofs.Common.{◌∙◌, to_z, of_z, sym, ap}
use Rattle.std.specs.Int.{w128}
use Rattle.std.proofs.lemmas.Int.{to_z-of_z}
use Rattle.column_base.specs.Numbers.{numbers}
use Rattle.column_base.specs.Validity.{form_of}
use Rattle.column_ops.proofs.ConstantBits.{bits-shown}
use Rattle.column_ops.proofs.constants.bits_of_numbers.Goals as goal

pub returns-in-I8-match_each_native-clause-bits : goal.returns-in-I8-match_each_native-clause-bits
returns-in-I8-match_each_native-clause-bits g c =
    bits-shown c.bits_of_native-5.result c.args.operator (to_z w128 (of_z w128 c.args.right)) c.args.right (form_of c.args.validity.now) c.as_slice-5.result.now (numbers c.args.values.now)
    (to_z-of_z w128 c.args.right c.ranges.right) (c.as_slice-5.ensures.value ∙ sym (ap numbers c.in-I8-match_each_native.is)) c.bits_of_native-5.ensures.bits

pub returns-in-I16-match_each_native-clause-bits : goal.returns-in-I16-match_each_native-clause-bits
returns-in-I16-match_each_native-clause-bits g c =
    bits-shown c.bits_of_native-6.result c.args.operator (to_z w128 (of_z w128 c.args.right)) c.args.right (form_of c.args.validity.now) c.as_slice-6.result.now (numbers c.args.values.now)
    (to_z-of_z w128 c.args.right c.ranges.right) (c.as_slice-6.ensures.value ∙ sym (ap numbers c.in-I16-match_each_native.is)) c.bits_of_native-6.ensures.bits

pub returns-in-I32-match_each_native-clause-bits : goal.returns-in-I32-match_each_native-clause-bits
returns-in-I32-match_each_native-clause-bits g c =
    bits-shown c.bits_of_native-7.result c.args.operator (to_z w128 (of_z w128 c.args.right)) c.args.right (form_of c.args.validity.now) c.as_slice-7.result.now (numbers c.args.values.now)
    (to_z-of_z w128 c.args.right c.ranges.right) (c.as_slice-7.ensures.value ∙ sym (ap numbers c.in-I32-match_each_native.is)) c.bits_of_native-7.ensures.bits

pub returns-in-I64-match_each_native-clause-bits : goal.returns-in-I64-match_each_native-clause-bits
returns-in-I64-match_each_native-clause-bits g c =
    bits-shown c.bits_of_native-8.result c.args.operator (to_z w128 (of_z w128 c.args.right)) c.args.right (form_of c.args.validity.now) c.as_slice-8.result.now (numbers c.args.values.now)
    (to_z-of_z w128 c.args.right c.ranges.right) (c.as_slice-8.ensures.value ∙ sym (ap numbers c.in-I64-match_each_native.is)) c.bits_of_native-8.ensures.bits
