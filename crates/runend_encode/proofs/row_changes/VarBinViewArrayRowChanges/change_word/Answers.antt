use Rattle.std.proofs.Common.{◌+◌, ◌*◌, ◌<◌, ℕ, length, ap, arith}
use Rattle.std.specs.Int.{bit_at}
use Rattle.column_base.proofs.ValidityRows.{has_row}
use Rattle.column_core.proofs.OptionalRows.{rows_within_views}
use Rattle.runend_encode.proofs.RowTests.{go_on-by_views}
use Rattle.runend_encode.proofs.row_changes.VarBinViewArrayRowChanges.change_word.Goals as goal

pub overflow_mul-start : goal.overflow_mul-start
overflow_mul-start g c =
    let few = rows_within_views c.args.self.now in
    omega (arith, few, ap length c.views-stored.ensures.stored, c.requires, c.views-stored.type_inv)

pub changed_views-items-requires : goal.changed_views-items-requires
changed_views-items-requires g c =
    let few = rows_within_views c.args.self.now in
    rw c.views-stored.ensures.stored (omega arith)

pub changed_optionals-unlike-requires : goal.changed_optionals-unlike-requires
changed_optionals-unlike-requires g c =
    let form = c.args.self.now in
    let few = rows_within_views form in
    rw c.validity.ensures.form (has_row form.validity (length form.views) (c.args.index * 64) c.validity.ensures.counted (omega arith))

pub differing_rows-requires-clause-told : goal.differing_rows-requires-clause-told
differing_rows-requires-clause-told g c = λ lane within shown none.
    let form = c.args.self.now in
    let few = rows_within_views form in
    let row : ℕ = c.args.index * 64 + lane in
    let has : row < length form.views = omega arith in
    let same = c.validity.ensures.form in
    let told = rw same at c.changed_optionals-unlike.ensures in
    go_on-by_views form row (bit_at c.changed_optionals-unlike.result lane) (bit_at c.changed_views-items.result lane) c.validity.ensures.counted has
    (rw c.views-stored.ensures.stored at (c.changed_views-items.ensures lane within (omega (arith, ap length c.views-stored.ensures.stored)))) (told.valid lane within) (told.one lane within) none
