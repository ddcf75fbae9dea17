use Rattle.std.proofs.Common.{◌+◌, ◌-◌, ◌*◌, ◌<◌, ℕ, ℤ, get_or, length, pos, refl, ap, arith}
use Rattle.std.specs.Int.{bit_at}
use Rattle.std.proofs.lemmas.Option.{slice_get-get_or}
use Rattle.column_base.proofs.ValidityRows.{has_row}
use Rattle.column_core.specs.Value.{Number}
use Rattle.column_core.proofs.OptionalRows.{rows_within_numbers}
use Rattle.runend_encode.proofs.RowTests.{go_on-by_items}
use Rattle.runend_encode.proofs.row_changes.PrimitiveArrayRowChanges.change_word.Goals as goal

pub changed_integers-items-requires : goal.changed_integers-items-requires
changed_integers-items-requires g c =
    let few = rows_within_numbers c.args.self.now in
    rw c.values.ensures.shows (omega arith)

pub changed_optionals-requires : goal.changed_optionals-requires
changed_optionals-requires g c =
    let form = c.args.self.now in
    let few = rows_within_numbers form in
    rw c.validity.ensures.form (has_row form.validity (length form.numbers) (c.args.index * 64) c.validity.ensures.counted (omega arith))

pub returns : goal.returns
returns g c = λ lane within shown.
    let form = c.args.self.now in
    let few = rows_within_numbers form in
    let row : ℕ = c.args.index * 64 + lane in
    let has : row < length form.numbers = omega arith in
    let last : row - 1 < length form.numbers = omega arith in
    let same = c.validity.ensures.form in
    let told = rw same at c.changed_optionals.ensures in
    go_on-by_items (λ (x : ℤ). Number x) form.numbers form.validity (length form.numbers) row (bit_at c.changed_optionals.result lane) (bit_at c.changed_integers-items.result lane)
    (get_or form.numbers (row - 1) (pos 0)) (get_or form.numbers row (pos 0)) (λ a b equal. cc) c.validity.ensures.counted refl has
    (slice_get-get_or form.numbers (row - 1) (pos 0) last) (slice_get-get_or form.numbers row (pos 0) has)
    (rw c.values.ensures.shows at (c.changed_integers-items.ensures lane within (omega (arith, ap length c.values.ensures.shows))))
    (told.valid lane within) (told.null lane within) (told.one lane within)
