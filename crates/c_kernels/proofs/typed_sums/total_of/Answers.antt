use Rattle.std.proofs.Common.{refl, Err}
use Rattle.column_base.specs.declared.error.VortexError.TheVariants.{OutOfMemory}
use Rattle.runend_decimals.specs.declared.fault.DecimalError.TheVariants.{Refused}
use Rattle.c_kernels.proofs.TypedSumEndings.{passed}
use Rattle.c_kernels.proofs.typed_sums.total_of.Goals as goal

pub returns-in-Err-clause-memory : goal.returns-in-Err-clause-memory
returns-in-Err-clause-memory c = λ integers read short.
    c.typed_sum.ensures.in_place integers (read c.context-ctx.result c.context-ctx.ensures) (passed c.typed_sum.result (Err c.in-Err.why) c.in-Err.why (Refused OutOfMemory) c.in-Err.is refl short)
