use Rattle.std.proofs.Common.{arith}
use Rattle.std.proofs.lemmas.Bool.{OnTrue_at, OnTrue_from, OnFalse_at, OnFalse_from}
use Rattle.column_bytes.proofs.ConstantChecks.{constant_found}
use Rattle.column_bytes.proofs.Scalars.{no_constant_body}
use Rattle.column_bytes.proofs.constant_checks.is_constant.Goals as goal

pub returns-clause-yes : goal.returns-clause-yes
returns-clause-yes c = OnTrue_from c.is_scalar.result _ (λ e. constant_found _ _ c.args.bytes.now (omega arith) (OnTrue_at e c.is_scalar.ensures.yes))

pub returns-clause-no : goal.returns-clause-no
returns-clause-no c = OnFalse_from c.is_scalar.result _ (λ e. no_constant_body _ _ c.args.bytes.now (OnFalse_at e c.is_scalar.ensures.no))
