use Rattle.std.proofs.Common.{sym, ◌∙◌}
use Rattle.column_base.specs.Validity.{form_of}
use Rattle.runend_windows.proofs.StoredNumbers.{optionals-valid, optionals-null}
use Rattle.runend_windows.proofs.shown.shown_at.Goals as goal

pub returns-then-is_valid-clause-shows : goal.returns-then-is_valid-clause-shows
returns-then-is_valid-clause-shows g c =
    optionals-valid g.T.NativePType.number c.args.items.now (form_of c.args.validity.now) c.args.row c.index-items-row.result
    c.requires.fits c.requires.within c.index-items-row.is (sym c.is_valid.ensures ∙ c.if-is_valid.true)

pub returns-else-is_valid-clause-shows : goal.returns-else-is_valid-clause-shows
returns-else-is_valid-clause-shows g c =
    optionals-null g.T.NativePType.number c.args.items.now (form_of c.args.validity.now) c.args.row
    c.requires.fits c.requires.within (sym c.is_valid.ensures ∙ c.if-is_valid.false)
