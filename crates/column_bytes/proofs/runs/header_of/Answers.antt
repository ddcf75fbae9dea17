use Rattle.std.proofs.Common.{◌∙◌, ap}
use Rattle.column_bytes.specs.Bytes.{kind_number}
use Rattle.column_bytes.proofs.runs.header_of.Goals as goal

pub returns-clause-kind : goal.returns-clause-kind
returns-clause-kind g c = c.number_of_kind.ensures ∙ ap kind_number c.dtype.ensures
