use Rattle.std.proofs.Common.{sym, ◌∙◌}
use Rattle.std.specs.Prelude.{unsigned_abs}
use Rattle.std.proofs.lemmas.List.{length-map}
use Rattle.column_base.specs.Validity.{form_of}
use Rattle.runend_windows.specs.Ends.{ends_of}
use Rattle.runend_windows.proofs.DecodedLeaves.{IsDecodedLeaf-decimals}
use Rattle.runend_windows.proofs.flat.decode_decimals.Goals as goal

pub returns-clause-flat : goal.returns-clause-flat
returns-clause-flat g c =
    let values = c.args.values.now in
    rw (c.new_unchecked.ensures, c.decimal_dtype.ensures)
    (IsDecodedLeaf-decimals values.decimal (ends_of c.args.ends.now) values.numbers values.validity c.args.offset c.args.count c.in_ok-numbers.numbers.items (form_of c.in_ok-numbers.rows) c.requires.window
    (c.requires.paired ∙ sym (length-map c.args.ends.now.numbers unsigned_abs)) c.validity-validity.ensures.counted
    (rw (c.values.ensures, c.validity-validity.ensures.form) at c.in_ok-numbers.ensures.decoded))
