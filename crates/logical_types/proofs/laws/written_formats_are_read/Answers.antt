use Rattle.logical_types.proofs.Unique.{only_named, written_read}
use Rattle.logical_types.proofs.laws.written_formats_are_read.Goals as goal

pub returns-clause-read : goal.returns-clause-read
returns-clause-read c = written_read

pub returns-clause-only : goal.returns-clause-only
returns-clause-only c = only_named
