use Rattle.std.proofs.Common.{arith}
use Rattle.column_fields.proofs.Refusals.{same_error}
use Rattle.column_bytes.proofs.Scalars.{is_constant_body, no_constant_body}
use Rattle.column_bytes.proofs.constants.read_constant.Goals as goal

pub returns-in-Ok-clause-found : goal.returns-in-Ok-clause-found
returns-in-Ok-clause-found g c = is_constant_body _ _ c.args.bytes.now c.in-Ok.scalar _ (omega arith) c.new.ensures c.in-Ok.ensures.found

pub returns-in-Err-clause-bad : goal.returns-in-Err-clause-bad
returns-in-Err-clause-bad g c = λ e. no_constant_body _ _ c.args.bytes.now (c.in-Err.ensures.bad (same_error _ _ e))
