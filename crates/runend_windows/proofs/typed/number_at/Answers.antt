use Rattle.std.proofs.Common.{Some, true, length, map, refl, arith, ap, ◌∙◌}
use Rattle.std.specs.Option.{option_map}
use Rattle.std.proofs.lemmas.List.{length-map}
use Rattle.std.proofs.lemmas.Option.{slice_get-map, slice_get_read}
use Rattle.column_base.specs.Mask.{mask_bits}
use Rattle.column_core.proofs.OptionalRows.{optionals-at, null-at}
use Rattle.runend_windows.proofs.typed.number_at.Goals as goal

pub returns-then-value-clause-number : goal.returns-then-value-clause-number
returns-then-value-clause-number g c =
    let number = g.T.NativePType.number in
    let values = c.args.values.now in
    let value = c.index-values-run.result in
    let item = slice_get_read values (length values) c.args.run value refl c.requires.within c.index-values-run.is in
    optionals-at (map number values) (mask_bits c.args.mask.now) c.args.run (number value) true (slice_get-map number values c.args.run ∙ ap (option_map number) item)
    (c.value.ensures ∙ ap Some c.if-value.true)

pub returns-else-value-clause-number : goal.returns-else-value-clause-number
returns-else-value-clause-number g c =
    let number = g.T.NativePType.number in
    let long = length-map c.args.values.now number in
    null-at (map number c.args.values.now) (mask_bits c.args.mask.now) c.args.run (omega arith) (c.value.ensures ∙ ap Some c.if-value.false)
