use Rattle.std.proofs.Common.{◌≡◌, ◌∙◌, ◌^◌, ◌<◌, List, Option, ap, arith, length, map, sym}
use Rattle.std.proofs.lemmas.List.Sums.{count_by-le-length}
use Rattle.std.specs.String.{string_bytes}
use Rattle.column_core.specs.Value.{Value}
use Rattle.column_base.specs.Mask.{mask_bits}
use Rattle.column_ops.specs.Filter.{filter_rows}
use Rattle.column_ops.proofs.SelectedRows.{length-filter_rows}
use Rattle.tables.specs.Tables.{TableForm}
use Rattle.tables.proofs.Worked.{kept_of, worked_as}
use Rattle.tables.proofs.table.Table.rows_selected.Goals as goal

pub selected_of_each-requires-clause-even : goal.selected_of_each-requires-clause-even
selected_of_each-requires-clause-even g c = rw c.deref-2.ensures.value c.self.invariant.even

pub selected_of_each-requires-clause-fits : goal.selected_of_each-requires-clause-fits
selected_of_each-requires-clause-fits g c = c.requires.fits ∙ sym (ap (λ (t : TableForm). t.count) c.self.view_is)

pub invariant_of-result : goal.invariant_of-result
invariant_of-result g c =
    let own = c.self.inside in
    let bits = mask_bits c.args.mask.now in
    let fits : length bits ≡ own.rows = c.requires.fits ∙ sym (ap (λ (t : TableForm). t.count) c.self.view_is) in
    let counts = (λ (all : List (Option Value)) (long : length all ≡ own.rows). length-filter_rows bits all (fits ∙ sym long) ∙ sym c.true_count-rows.ensures) in
    let few = count_by-le-length (λ bit. bit) bits in
    let small : c.true_count-rows.result < 2 ^ 64 = omega (arith, few, fits, c.true_count-rows.ensures, c.self.invariant.small) in
    (worked_as (λ t. t) (filter_rows bits) (map string_bytes own.names.items) (map string_bytes c.in_ok-names.names.items) own.columns.items c.deref-2.result.now c.in-Ok.columns.items own.rows c.true_count-rows.result c.args.self.now
    (c.in_ok-names.ensures.names ∙ ap (map string_bytes) c.deref.ensures.value) c.deref-2.ensures.value c.self.view_is small counts c.self.invariant
    (record { shown = c.in-Ok.ensures.rows; dtypes = c.in-Ok.ensures.dtypes; formats = c.in-Ok.ensures.formats })).table

pub returns-clause-rows : goal.returns-clause-rows
returns-clause-rows g c =
    let own = c.self.inside in
    let bits = mask_bits c.args.mask.now in
    let fits : length bits ≡ own.rows = c.requires.fits ∙ sym (ap (λ (t : TableForm). t.count) c.self.view_is) in
    let counts = (λ (all : List (Option Value)) (long : length all ≡ own.rows). length-filter_rows bits all (fits ∙ sym long) ∙ sym c.true_count-rows.ensures) in
    let few = count_by-le-length (λ bit. bit) bits in
    let small : c.true_count-rows.result < 2 ^ 64 = omega (arith, few, fits, c.true_count-rows.ensures, c.self.invariant.small) in
    (worked_as (λ t. t) (filter_rows bits) (map string_bytes own.names.items) (map string_bytes c.in_ok-names.names.items) own.columns.items c.deref-2.result.now c.in-Ok.columns.items own.rows c.true_count-rows.result c.args.self.now
    (c.in_ok-names.ensures.names ∙ ap (map string_bytes) c.deref.ensures.value) c.deref-2.ensures.value c.self.view_is small counts c.self.invariant
    (record { shown = c.in-Ok.ensures.rows; dtypes = c.in-Ok.ensures.dtypes; formats = c.in-Ok.ensures.formats })).shown

pub returns-clause-kept : goal.returns-clause-kept
returns-clause-kept g c =
    let own = c.self.inside in
    let bits = mask_bits c.args.mask.now in
    let fits : length bits ≡ own.rows = c.requires.fits ∙ sym (ap (λ (t : TableForm). t.count) c.self.view_is) in
    let counts = (λ (all : List (Option Value)) (long : length all ≡ own.rows). length-filter_rows bits all (fits ∙ sym long) ∙ sym c.true_count-rows.ensures) in
    let few = count_by-le-length (λ bit. bit) bits in
    let small : c.true_count-rows.result < 2 ^ 64 = omega (arith, few, fits, c.true_count-rows.ensures, c.self.invariant.small) in
    kept_of (filter_rows bits) c.args.self.now _ (worked_as (λ t. t) (filter_rows bits) (map string_bytes own.names.items) (map string_bytes c.in_ok-names.names.items) own.columns.items c.deref-2.result.now c.in-Ok.columns.items own.rows c.true_count-rows.result c.args.self.now
    (c.in_ok-names.ensures.names ∙ ap (map string_bytes) c.deref.ensures.value) c.deref-2.ensures.value c.self.view_is small counts c.self.invariant
    (record { shown = c.in-Ok.ensures.rows; dtypes = c.in-Ok.ensures.dtypes; formats = c.in-Ok.ensures.formats }))
