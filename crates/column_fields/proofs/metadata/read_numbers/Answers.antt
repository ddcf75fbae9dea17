use Rattle.std.proofs.Common.{rules}
use Rattle.std.proofs.lemmas.List.{nil_from_length}
use Rattle.column_fields.proofs.Varints.{if_none}
use Rattle.column_fields.proofs.Records.{all_read, stuck}
use Rattle.column_fields.proofs.metadata.read_numbers.Goals as goal

pub returns-in_err-field-clause-none : goal.returns-in_err-field-clause-none
returns-in_err-field-clause-none c =
    if_none _ _ (stuck _ c.loop-rest.rest.now _ _ _ c.loop-rest.invariant (search rules) c.in_err-field.ensures.none)

pub returns-clause-found : goal.returns-clause-found
returns-clause-found c = all_read _ c.loop-rest.rest.now _ _ _ c.loop-rest.invariant (nil_from_length _ (search rules))
