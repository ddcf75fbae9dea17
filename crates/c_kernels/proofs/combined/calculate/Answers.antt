use Rattle.std.proofs.Common.{◌≡◌, ◌∙◌, true, false, sym}
use Rattle.runend_array.specs.Array.{dtype_of}
use Rattle.c_kernels.specs.Combined.{are_decimals}
use Rattle.c_kernels.proofs.Calculations.{decimals_made, first_as, integers_made, refused_as}
use Rattle.c_kernels.proofs.combined.calculate.Goals as goal

pub returns-then-are_decimals-clause-made : goal.returns-then-are_decimals-clause-made
returns-then-are_decimals-clause-made c =
    let both : are_decimals (dtype_of c.args.left.now) (dtype_of c.args.right.now) ≡ true = cc in
    decimals_made c.args.operator c.args.left.now c.args.right.now c.decimal_numeric.result both c.decimal_numeric.ensures.answers c.decimal_numeric.ensures.within

pub returns-then-are_decimals-clause-refused : goal.returns-then-are_decimals-clause-refused
returns-then-are_decimals-clause-refused c =
    let both : are_decimals (dtype_of c.args.left.now) (dtype_of c.args.right.now) ≡ true = cc in
    refused_as c.args.operator c.args.left.now c.args.right.now c.decimal_numeric.result true both c.decimal_numeric.ensures.refused

pub returns-then-are_decimals-clause-first : goal.returns-then-are_decimals-clause-first
returns-then-are_decimals-clause-first c =
    let both : are_decimals (dtype_of c.args.left.now) (dtype_of c.args.right.now) ≡ true = cc in
    first_as c.args.operator c.args.left.now c.args.right.now c.decimal_numeric.result true both c.decimal_numeric.ensures.first

pub returns-else-are_decimals-clause-made : goal.returns-else-are_decimals-clause-made
returns-else-are_decimals-clause-made c =
    let both : are_decimals (dtype_of c.args.left.now) (dtype_of c.args.right.now) ≡ false = cc in
    integers_made c.args.operator c.args.left.now c.args.right.now c.numeric.result both c.numeric.ensures.answers

pub returns-else-are_decimals-clause-refused : goal.returns-else-are_decimals-clause-refused
returns-else-are_decimals-clause-refused c =
    let both : are_decimals (dtype_of c.args.left.now) (dtype_of c.args.right.now) ≡ false = cc in
    refused_as c.args.operator c.args.left.now c.args.right.now c.numeric.result false both c.numeric.ensures.refused

pub returns-else-are_decimals-clause-first : goal.returns-else-are_decimals-clause-first
returns-else-are_decimals-clause-first c =
    let both : are_decimals (dtype_of c.args.left.now) (dtype_of c.args.right.now) ≡ false = cc in
    first_as c.args.operator c.args.left.now c.args.right.now c.numeric.result false both c.numeric.ensures.first
