use Rattle.column_fields.proofs.Refusals.{same_error}
use Rattle.column_bytes.proofs.RunLaws.{are_ends}
use Rattle.column_bytes.proofs.runs.read_ends.Goals as goal

pub returns-in-Ok-clause-found : goal.returns-in-Ok-clause-found
returns-in-Ok-clause-found g c =
    are_ends _ c.args.ends_type _ c.args.lengths.now _ c.new_unchecked.ensures c.in-Ok.ensures.typed c.in-Ok.ensures.found c.in-Ok.ensures.rises c.in-Ok.ensures.fit

pub returns-in-Err-clause-bad : goal.returns-in-Err-clause-bad
returns-in-Err-clause-bad g c = λ e. c.in-Err.ensures.bad (same_error _ _ e)
