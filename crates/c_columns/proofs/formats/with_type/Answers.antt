use Rattle.std.proofs.Common.{inr}
use Rattle.std.proofs.lemmas.Result.{IfErr-weaker}
use Rattle.c_columns.proofs.formats.with_type.Goals as goal

pub returns-clause-refused : goal.returns-clause-refused
returns-clause-refused c = IfErr-weaker c.boxed_under.result _ _ (λ error h. inr (record { told = h; text = c.in_ok-name.ensures.text })) c.boxed_under.ensures.only
