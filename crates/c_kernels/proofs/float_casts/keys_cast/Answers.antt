use Rattle.runend_array.specs.Array.{dtype_of}
use Rattle.c_kernels.proofs.CastEndings.{passed_on}
use Rattle.c_kernels.proofs.FloatEndings.{no_floats}
use Rattle.c_kernels.proofs.float_casts.keys_cast.Goals as goal

pub returns-in_err-integers_of_floats-clause-first : goal.returns-in_err-integers_of_floats-clause-first
returns-in_err-integers_of_floats-clause-first c error fault =
    let failed = c.in_err-integers_of_floats in
    let passed = c.from_residual in
    passed_on c.integers_of_floats.result passed.result failed.field-0.0 error failed.was passed.ensures.1 (no_floats (dtype_of c.args.floats.now) c.integers_of_floats.result error c.integers_of_floats.ensures.mismatch fault)
