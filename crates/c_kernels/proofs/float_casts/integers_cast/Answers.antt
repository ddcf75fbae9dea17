use Rattle.std.proofs.Common.{false, true}
use Rattle.runend_array.specs.Array.{dtype_of}
use Rattle.c_kernels.proofs.CastEndings.{integers_boxed, no_integers, passed_on}
use Rattle.c_kernels.proofs.float_casts.integers_cast.Goals as goal

pub returns-in_ok-round_integers-clause-made : goal.returns-in_ok-round_integers-clause-made
returns-in_ok-round_integers-clause-made c =
    let runs = c.in_ok-round_integers in
    integers_boxed c.args.is_rounded true c.args.to c.args.integers.now runs.field-0 c.boxed_runs.result (λ made. made.value.array) c.if-is_rounded.true runs.ensures.cast c.boxed_runs.ensures.form

pub returns-in_ok-floats_of_integers-clause-made : goal.returns-in_ok-floats_of_integers-clause-made
returns-in_ok-floats_of_integers-clause-made c =
    let runs = c.in_ok-floats_of_integers in
    let boxed = c.boxed_runs-else-is_rounded in
    integers_boxed c.args.is_rounded false c.args.to c.args.integers.now runs.field-0 boxed.result (λ made. made.value.array) c.if-is_rounded.false runs.ensures.cast boxed.ensures.form

pub returns-in_err-floats_of_integers-clause-first : goal.returns-in_err-floats_of_integers-clause-first
returns-in_err-floats_of_integers-clause-first c error fault =
    let failed = c.in_err-floats_of_integers in
    let passed = c.from_residual-in_err-floats_of_integers in
    passed_on c.floats_of_integers.result passed.result failed.field-0.0 error failed.was passed.ensures.1 (no_integers (dtype_of c.args.integers.now) c.floats_of_integers.result error c.floats_of_integers.ensures.mismatch fault)
