use Rattle.std.proofs.Common.{sym, ◌∙◌}
use Rattle.std.specs.Prelude.{unsigned_abs}
use Rattle.std.proofs.lemmas.List.{length-map}
use Rattle.column_base.specs.Validity.{form_of}
use Rattle.runend_windows.specs.Ends.{ends_of}
use Rattle.runend_windows.proofs.DecodedLeaves.{AreVarBins-decoded, IsDecodedLeaf-varbins}
use Rattle.runend_windows.proofs.flat.decode_views.Goals as goal

pub new_unchecked-requires : goal.new_unchecked-requires
new_unchecked-requires g c =
    let values = c.args.values.now in
    rw (c.kind.ensures, c.in-Ok.ensures.shared)
    (AreVarBins-decoded values.kind values.buffers (ends_of c.args.ends.now) values.views values.validity c.args.offset c.args.count c.in_ok-views.views.items (form_of c.in_ok-views.rows)
    c.requires.window (c.requires.paired ∙ sym (length-map c.args.ends.now.numbers unsigned_abs)) c.views.ensures.accepted
    (rw (c.views.ensures.stored, c.validity-validity.ensures.form) at c.in_ok-views.ensures.decoded))

pub returns-in-Ok-clause-flat : goal.returns-in-Ok-clause-flat
returns-in-Ok-clause-flat g c =
    let values = c.args.values.now in
    rw (c.new_unchecked.ensures, c.kind.ensures, c.in-Ok.ensures.shared)
    (IsDecodedLeaf-varbins values.kind values.buffers (ends_of c.args.ends.now) values.views values.validity c.args.offset c.args.count c.in_ok-views.views.items (form_of c.in_ok-views.rows)
    c.requires.window (c.requires.paired ∙ sym (length-map c.args.ends.now.numbers unsigned_abs)) c.views.ensures.accepted.counted
    (rw (c.views.ensures.stored, c.validity-validity.ensures.form) at c.in_ok-views.ensures.decoded))
