use Rattle.std.proofs.Common.{arith}
use Rattle.std.proofs.lemmas.Bool.{OnTrue_at, OnTrue_from, OnFalse_at, OnFalse_from}
use Rattle.column_bytes.proofs.LeafChecks.{truths_held}
use Rattle.column_bytes.proofs.Leaves.{no_truths_fields, no_bits}
use Rattle.column_bytes.proofs.leaf_checks.are_truths.Goals as goal

pub returns-in_default-clause-no : goal.returns-in_default-clause-no
returns-in_default-clause-no c = no_truths_fields c.args.rows c.args.bytes.now (omega arith) c.in_default.ensures.none

pub returns-clause-yes : goal.returns-clause-yes
returns-clause-yes c =
    OnTrue_from c.holds_bits.result _ (λ e. truths_held c.args.rows _ c.in-Some.items.now c.args.bytes.now (omega arith) c.in-Some.ensures.counted c.in-Some.ensures.found (OnTrue_at e c.holds_bits.ensures.yes))

pub returns-clause-no : goal.returns-clause-no
returns-clause-no c =
    OnFalse_from c.holds_bits.result _ (λ e. no_bits c.args.rows _ c.in-Some.items.now c.args.bytes.now (omega arith) (omega arith) c.in-Some.ensures.found c.in-Some.ensures.counted (OnFalse_at e c.holds_bits.ensures.no))
