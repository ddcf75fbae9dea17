use Rattle.std.proofs.Common.{false, true}
use Rattle.runend_array.specs.Array.{dtype_of}
use Rattle.c_kernels.proofs.CastEndings.{floats_boxed, passed_on}
use Rattle.c_kernels.proofs.FloatEndings.{no_floats}
use Rattle.c_kernels.proofs.float_casts.floats_cast.Goals as goal

pub returns-in_ok-round_floats-clause-made : goal.returns-in_ok-round_floats-clause-made
returns-in_ok-round_floats-clause-made c =
    let runs = c.in_ok-round_floats in
    floats_boxed c.args.is_rounded true c.args.to c.args.floats.now runs.field-0 c.boxed_runs.result (λ made. made.value.array) c.if-is_rounded.true runs.ensures.cast c.boxed_runs.ensures.form

pub returns-in_ok-cast_floats-clause-made : goal.returns-in_ok-cast_floats-clause-made
returns-in_ok-cast_floats-clause-made c =
    let runs = c.in_ok-cast_floats in
    let boxed = c.boxed_runs-else-is_rounded in
    floats_boxed c.args.is_rounded false c.args.to c.args.floats.now runs.field-0 boxed.result (λ made. made.value.array) c.if-is_rounded.false runs.ensures.cast boxed.ensures.form

pub returns-in_err-cast_floats-clause-first : goal.returns-in_err-cast_floats-clause-first
returns-in_err-cast_floats-clause-first c error fault =
    let failed = c.in_err-cast_floats in
    let passed = c.from_residual-in_err-cast_floats in
    passed_on c.cast_floats.result passed.result failed.field-0.0 error failed.was passed.ensures.1 (no_floats (dtype_of c.args.floats.now) c.cast_floats.result error c.cast_floats.ensures.mismatch fault)
