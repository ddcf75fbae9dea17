use Rattle.column_bytes.proofs.TypedMessages.{typed_one}
use Rattle.column_bytes.proofs.typed.typed_spelling_is_unique.Goals as goal

pub returns : goal.returns
returns c = typed_one
