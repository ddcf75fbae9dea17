use Rattle.std.proofs.Common.{length, map, sym, ap, ◌∙◌}
use Rattle.std.specs.Prelude.{unsigned_abs}
use Rattle.column_base.specs.Validity.{form_of}
use Rattle.runend_windows.proofs.DecodedLeaves.{IsDecodedLeaf-truths}
use Rattle.runend_windows.proofs.StoredNumbers.{length-naturals}
use Rattle.runend_windows.proofs.decode_bool.decode_under.Goals as goal

pub decode_parts-requires-clause-paired : goal.decode_parts-requires-clause-paired
decode_parts-requires-clause-paired g c = ap length c.values.ensures ∙ c.requires.paired

pub decode_parts-requires-clause-fits : goal.decode_parts-requires-clause-fits
decode_parts-requires-clause-fits g c = rw (c.validity.ensures.form, c.values.ensures) c.validity.ensures.counted

pub returns-clause-flat : goal.returns-clause-flat
returns-clause-flat g c =
    let ends = map unsigned_abs (map g.E.NativePType.number c.args.ends.now) in
    let values = c.args.values.now in
    let long = length-naturals g.E.NativePType.number c.args.ends.now in
    rw c.new_unchecked.ensures
    (IsDecodedLeaf-truths ends values.bits values.validity c.args.offset c.args.count c.in_ok-bits.bits (form_of c.in_ok-bits.rows) c.requires.window (c.requires.paired ∙ sym long)
    c.validity.ensures.counted (rw (c.values.ensures, c.validity.ensures.form) at c.in_ok-bits.ensures.decoded))
