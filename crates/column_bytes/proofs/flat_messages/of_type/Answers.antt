use Rattle.std.proofs.Common.{sym, ◌∙◌}
use Rattle.column_core.specs.SameType.{same_dtype-decides}
use Rattle.column_fields.proofs.Refusals.{not_true}
use Rattle.column_bytes.proofs.flat_messages.of_type.Goals as goal

pub returns-then-eq-clause-typed : goal.returns-then-eq-clause-typed
returns-then-eq-clause-typed g c = sym c.dtype.ensures ∙ (same_dtype-decides c.dtype.result c.args.dtype).0 (sym c.eq.ensures ∙ c.if-eq.true)

pub returns-clause-other : goal.returns-clause-other
returns-clause-other g c = λ _ e. not_true c.eq.result c.if-eq.false (c.eq.ensures ∙ (same_dtype-decides c.dtype.result c.args.dtype).1 (c.dtype.ensures ∙ e))
