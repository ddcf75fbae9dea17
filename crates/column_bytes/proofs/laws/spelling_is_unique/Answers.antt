use Rattle.column_bytes.proofs.Messages.{message_one}
use Rattle.column_bytes.proofs.laws.spelling_is_unique.Goals as goal

pub returns : goal.returns
returns c = message_one
