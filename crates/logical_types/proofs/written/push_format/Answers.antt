use Rattle.logical_types.proofs.Unique.{written_read}
use Rattle.logical_types.proofs.written.push_format.Goals as goal

pub returns-in-Decimal-clause-read : goal.returns-in-Decimal-clause-read
returns-in-Decimal-clause-read g c = written_read c.args.annotation.logical c.args.annotation.zone.now c.args.annotation.named
