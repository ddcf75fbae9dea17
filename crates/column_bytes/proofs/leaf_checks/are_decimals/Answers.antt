use Rattle.std.proofs.Common.{arith}
use Rattle.std.proofs.lemmas.Bool.{OnTrue_at, OnTrue_from, OnFalse_at, OnFalse_from}
use Rattle.column_bytes.proofs.LeafChecks.{decimals_held}
use Rattle.column_bytes.proofs.Leaves.{no_decimals_fields, other_decimals}
use Rattle.column_bytes.proofs.leaf_checks.are_decimals.Goals as goal

pub returns-in_default-clause-no : goal.returns-in_default-clause-no
returns-in_default-clause-no c = no_decimals_fields c.args.rows c.args.bytes.now (omega arith) c.in_default.ensures.none

pub returns-clause-yes : goal.returns-clause-yes
returns-clause-yes c =
    OnTrue_from c.holds_decimals.result _ (λ e. decimals_held c.args.rows _ _ c.in-Some.items.now c.args.bytes.now (omega arith) c.in-Some.ensures.counted c.in-Some.ensures.typed c.in-Some.ensures.found (OnTrue_at e c.holds_decimals.ensures.yes))

pub returns-clause-no : goal.returns-clause-no
returns-clause-no c =
    OnFalse_from c.holds_decimals.result _ (λ e. other_decimals c.args.rows _ _ c.in-Some.items.now c.args.bytes.now (omega arith) (omega arith) c.in-Some.ensures.found c.in-Some.ensures.counted c.in-Some.ensures.typed (OnFalse_at e c.holds_decimals.ensures.no))
