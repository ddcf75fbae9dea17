use Rattle.std.proofs.Common.{arith}
use Rattle.column_base.specs.Validity.{form_of}
use Rattle.column_bytes.proofs.TextLaws.{not_blank}
use Rattle.column_bytes.proofs.views.read_views.Goals as goal

pub returns-then-not-is_empty_at_nulls-clause-bad : goal.returns-then-not-is_empty_at_nulls-clause-bad
returns-then-not-is_empty_at_nulls-clause-bad g c =
    λ _. not_blank (form_of c.args.validity.now) c.args.rows c.args.total c.args.sizes.now c.in_ok-views.views.items (omega arith) c.in_ok-views.ensures.found (rw c.deref.ensures.value at c.if-not-is_empty_at_nulls.ensures.no)
