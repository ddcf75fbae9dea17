use Rattle.std.proofs.Common.{◌+◌, ◌-◌, ◌*◌, ◌<◌, ℕ, Bool, false, get_or, length, refl, ap, arith}
use Rattle.std.specs.Int.{bit_at}
use Rattle.std.proofs.lemmas.Option.{slice_get-get_or}
use Rattle.column_base.proofs.ValidityRows.{has_row}
use Rattle.column_core.specs.Value.{Truth}
use Rattle.column_core.proofs.OptionalRows.{rows_within_bits}
use Rattle.runend_windows.proofs.ChangedItems.{bits-go_on}
use Rattle.runend_encode.proofs.RowTests.{go_on-by_items}
use Rattle.runend_encode.proofs.row_changes.BoolArrayRowChanges.change_word.Goals as goal

pub changed_bits-items-requires : goal.changed_bits-items-requires
changed_bits-items-requires g c =
    let few = rows_within_bits c.args.self.now in
    omega (arith, c.words.ensures.least, ap length c.values.ensures)

pub changed_optionals-requires : goal.changed_optionals-requires
changed_optionals-requires g c =
    let form = c.args.self.now in
    let few = rows_within_bits form in
    rw c.validity.ensures.form (has_row form.validity (length form.bits) (c.args.index * 64) c.validity.ensures.counted (omega arith))

pub returns : goal.returns
returns g c = λ lane within shown.
    let form = c.args.self.now in
    let few = rows_within_bits form in
    let row : ℕ = c.args.index * 64 + lane in
    let has : row < length form.bits = omega arith in
    let last : row - 1 < length form.bits = omega arith in
    let same = c.validity.ensures.form in
    let told = rw same at c.changed_optionals.ensures in
    go_on-by_items (λ (x : Bool). Truth x) form.bits form.validity (length form.bits) row (bit_at c.changed_optionals.result lane) (bit_at c.changed_bits-items.result lane)
    (get_or form.bits (row - 1) false) (get_or form.bits row false) (λ a b equal. cc) c.validity.ensures.counted refl has
    (slice_get-get_or form.bits (row - 1) false last) (slice_get-get_or form.bits row false has)
    (bits-go_on c.words.result.now form.bits row (bit_at c.changed_bits-items.result lane) (rw c.values.ensures at c.words.ensures) has (c.changed_bits-items.ensures.same lane within) (c.changed_bits-items.ensures.differs lane within))
    (told.valid lane within) (told.null lane within) (told.one lane within)
