use Rattle.std.proofs.Common.{◌∙◌, ap, sym, subst, ℤ, w32}
use Rattle.std.proofs.lemmas.Int.{to_z-of_z}
use Rattle.c_columns.specs.Calls.{fill_with_passed}
use Rattle.c_columns.specs.Ending.{EndsOnGiven, EndsOnPassed}
use Rattle.c_columns.specs.Handle.{array_in, format_in}
use Rattle.c_columns.proofs.Endings.{ends_filled}
use Rattle.c_columns.proofs.Held.{lent_array}
use Rattle.hivevigil.proofs.FormatEndings.{format_filled}
use Rattle.hivevigil.proofs.commands.hv_fill.Goals as goal

pub returns-clause-ended : goal.returns-clause-ended
returns-clause-ended c =
    let back = to_z-of_z w32 c.apply.result (record { sfits = c.apply.type_inv }) in
    let here = c.put.ensures ∙ sym c.in-Some.ensures.found in
    let ended = subst (λ h. EndsOnGiven (array_in h) c.fill_command-command.result c.apply.result c.apply.new.error) here c.apply.ensures.ended in
    subst (λ (code : ℤ). EndsOnPassed c.args.value.now c.args.text.now (fill_with_passed c.args.value.now c.args.text.now) (array_in c.args.column.now.column) code c.apply.new.error) (sym back)
    (ends_filled c.args.value.now c.args.text.now c.fill_command-command.result (array_in c.args.column.now.column) c.deref.result.now.array c.apply.result c.apply.new.error (lent_array c.deref.ensures c.in-Some.ensures.array) c.fill_command-command.ensures ended)

pub returns-clause-typed : goal.returns-clause-typed
returns-clause-typed c = λ zero.
    let back = to_z-of_z w32 c.apply.result (record { sfits = c.apply.type_inv }) in
    let done = sym back ∙ zero in
    let here = ap format_in (c.put.ensures ∙ sym c.in-Some.ensures.found) in
    c.apply.ensures.typed done ∙ format_filled c.args.session.now _ c.args.value.now c.args.text.now c.fill_command-command.result c.deref.result.now.array _ _ _ c.fill_command-command.ensures (c.apply.ensures.made done) ∙ here
