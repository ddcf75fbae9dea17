use Rattle.std.proofs.Common.{refl}
use Rattle.column_fields.proofs.Refusals.{same_error}
use Rattle.column_bytes.proofs.Leaves.{no_texts_body, texts_body}
use Rattle.column_bytes.proofs.texts.read_texts.Goals as goal

pub returns-in-Ok-clause-found : goal.returns-in-Ok-clause-found
returns-in-Ok-clause-found g c = texts_body c.args.kind _ _ c.args.bytes.now c.in-Ok.texts refl c.in-Ok.ensures.found

pub returns-in-Err-clause-bad : goal.returns-in-Err-clause-bad
returns-in-Err-clause-bad g c = λ e. no_texts_body c.args.kind _ _ c.args.bytes.now refl (c.in-Err.ensures.bad (same_error _ _ e))
