use Rattle.std.proofs.Common.{◌≡◌, ℕ, length, map, sym, ap, subst, pos, ◌∙◌}
use Rattle.std.specs.Prelude.{unsigned_abs}
use Rattle.std.proofs.lemmas.List.{length-map}
use Rattle.column_base.specs.ValidityForm.{HasLength}
use Rattle.column_base.specs.Validity.{form_of}
use Rattle.runend_windows.specs.Ends.{ends_of}
use Rattle.runend_windows.specs.Decoding.{AreDecoded}
use Rattle.runend_windows.proofs.DecodedItems.{AreDecoded-map}
use Rattle.runend_windows.proofs.DecodedLeaves.{IsDecodedFlat-numbers}
use Rattle.runend_windows.proofs.decode.decode_as.Goals as goal

pub returns-clause-flat : goal.returns-clause-flat
returns-clause-flat g c =
    let number = g.T.NativePType.number in
    let ends = ends_of c.args.ends.now in
    let values = c.args.values.now in
    let form = form_of c.args.validity.now in
    let zeroth : number c.default-zero.result ≡ pos 0 = g.met.T.NativePType.law.zeroth c.default-zero.result c.default-zero.ensures in
    let long = length-map values number in
    let fits : HasLength form (length (map number values)) = rw long c.requires.fits in
    let decoded : AreDecoded (pos 0) ends (map number values) form c.args.offset c.args.count (map number c.in_ok-items.items.items) (form_of c.in_ok-items.rows) =
    rw (← zeroth) (AreDecoded-map number c.default-zero.result ends values form c.args.offset c.args.count c.in_ok-items.items.items (form_of c.in_ok-items.rows) c.in_ok-items.ensures.decoded) in
    rw (c.new_unchecked.ensures, c.wrap.ensures.shows, c.wrap.ensures.typed)
    (IsDecodedFlat-numbers g.T.NativePType.PTYPE ends (map number values) form c.args.offset c.args.count (map number c.in_ok-items.items.items) (form_of c.in_ok-items.rows) c.requires.window
    (long ∙ c.requires.paired ∙ sym (length-map c.args.ends.now.numbers unsigned_abs)) fits decoded)

pub decode_rows-requires : goal.decode_rows-requires
decode_rows-requires g c = record { plain = c.requires.plain; window = c.requires.window; paired = c.requires.paired; fits = c.requires.fits }

pub new_unchecked-requires : goal.new_unchecked-requires
new_unchecked-requires g c =
    let decoded = c.in_ok-items.ensures.decoded in
    let long = ap length c.wrap.ensures.shows ∙ length-map c.in_ok-items.items.items g.T.NativePType.number ∙ decoded.covered.counted in
    subst (λ (n : ℕ). HasLength (form_of c.in_ok-items.rows) n) (sym long) decoded.fits
