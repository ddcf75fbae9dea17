use Rattle.std.proofs.Common.{arith}
use Rattle.column_base.specs.Validity.{form_of}
use Rattle.column_bytes.proofs.TextLaws.{no_texts_over}
use Rattle.column_bytes.proofs.text_reading.read_rows.Goals as goal

pub returns-in-Ok-clause-bad : goal.returns-in-Ok-clause-bad
returns-in-Ok-clause-bad g c =
    λ e. no_texts_over c.args.kind c.args.rows (form_of c.args.validity) c.args.sizes.now c.args.content.now c.in-Ok.views.items (omega arith) c.in-Ok.ensures.found (c.join_texts.ensures.bad e)
