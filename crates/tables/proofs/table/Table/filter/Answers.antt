use Rattle.std.proofs.Common.{◌≡◌, ◌∙◌, ℕ, Bool, List, None, Some, ap, arith, length, map, subst, sym}
use Rattle.std.specs.Option.{option_or}
use Rattle.std.specs.Prelude.{IfOk, count_by}
use Rattle.std.proofs.lemmas.List.{length-map}
use Rattle.std.proofs.lemmas.List.Sums.{count_by-le-length}
use Rattle.std.proofs.lemmas.Result.{IfOk-weaker}
use Rattle.column_base.specs.Mask.{mask_bits}
use Rattle.column_ops.proofs.SelectedRows.{length-places}
use Rattle.column_ops.specs.Filter.{filter_fault, filter_rows}
use Rattle.runend_array.specs.Array.{dtype_of, rows}
use Rattle.row_stretches.specs.declared.stretches.Stretch.{Stretch}
use Rattle.row_stretches.specs.Masks.{is_true, mask_fault, truths_of}
use Rattle.row_stretches.specs.Stretches.{stretch_places, stretch_rows}
use Rattle.tables.specs.Tables.{TableForm, rows_of}
use Rattle.tables.proofs.TableRows.{bit_of_each, fault_seen, selected_alike, table_seen, told}
use Rattle.tables.proofs.table.Table.filter.Goals as goal

pub returns-in-Some-clause-refused : goal.returns-in-Some-clause-refused
returns-in-Some-clause-refused g c =
    let count = ap (λ (t : TableForm). t.count) c.self.view_is in
    told (option_or (mask_fault (dtype_of c.args.mask.now)) (filter_fault (length (rows c.args.mask.now)) c.args.self.now.count)) c.in-Some.error
    (sym (fault_seen (Some c.in-Some.error) c.dtype.result (dtype_of c.args.mask.now) c.len.result (length (rows c.args.mask.now)) c.self.inside.rows c.args.self.now.count
    c.dtype.ensures c.len.ensures count c.in-Some.ensures))

pub rows_in-kept-requires-clause-small : goal.rows_in-kept-requires-clause-small
rows_in-kept-requires-clause-small g c =
    let count = ap (λ (t : TableForm). t.count) c.self.view_is in
    let none = sym (fault_seen None c.dtype.result (dtype_of c.args.mask.now) c.len.result (length (rows c.args.mask.now)) c.self.inside.rows c.args.self.now.count
    c.dtype.ensures c.len.ensures count c.in_default.ensures) in
    let same = bit_of_each (rows c.args.mask.now) (dtype_of c.args.mask.now) c.args.self.now.count none in
    let bits = truths_of (rows c.args.mask.now) in
    let places = ap (λ (order : List Stretch). length (stretch_places order)) c.deref.ensures.value ∙ ap length c.in_ok-order-in-None.ensures.stretches.places ∙ length-places bits in
    let few = count_by-le-length (λ bit. bit) bits in
    omega (arith, places, few, same, c.self.invariant.small, count)

pub returns-in_ok-order-in-None-clause-rows : goal.returns-in_ok-order-in-None-clause-rows
returns-in_ok-order-in-None-clause-rows g c =
    let count = ap (λ (t : TableForm). t.count) c.self.view_is in
    let none = sym (fault_seen None c.dtype.result (dtype_of c.args.mask.now) c.len.result (length (rows c.args.mask.now)) c.self.inside.rows c.args.self.now.count
    c.dtype.ensures c.len.ensures count c.in_default.ensures) in
    let same = bit_of_each (rows c.args.mask.now) (dtype_of c.args.mask.now) c.args.self.now.count none in
    let bits = truths_of (rows c.args.mask.now) in
    let long = sym (length-map (rows c.args.mask.now) is_true) ∙ same in
    IfOk-weaker c.rows_in-kept.result (λ table. rows_of table ≡ map (λ all. stretch_rows all c.deref.result.now) (rows_of c.args.self.now)) (λ table. rows_of table ≡ map (filter_rows bits) (rows_of c.args.self.now))
    (λ table shown. shown ∙ selected_alike c.args.self.now c.deref.result.now bits (table_seen c.self.view_is c.self.invariant)
    (λ all counted. ap (λ (order : List Stretch). stretch_rows all order) c.deref.ensures.value ∙ c.in_ok-order-in-None.ensures.selects all (counted ∙ sym long))) c.rows_in-kept.ensures.rows

pub returns-in_ok-order-in-None-clause-count : goal.returns-in_ok-order-in-None-clause-count
returns-in_ok-order-in-None-clause-count g c =
    let bits = truths_of (rows c.args.mask.now) in
    let places = ap (λ (order : List Stretch). length (stretch_places order)) c.deref.ensures.value ∙ ap length c.in_ok-order-in-None.ensures.stretches.places ∙ length-places bits in
    IfOk-weaker c.rows_in-kept.result (λ table. table.count ≡ length (stretch_places c.deref.result.now)) (λ table. table.count ≡ count_by (λ bit. bit) bits) (λ table counted. counted ∙ places) c.rows_in-kept.ensures.count

pub returns-in-Some-2-clause-rows : goal.returns-in-Some-2-clause-rows
returns-in-Some-2-clause-rows g c =
    let bits = truths_of (rows c.args.mask.now) in
    let same : mask_bits c.in-Some-2.bits ≡ bits = rw c.in-Some-2.is at c.in_ok-bits.ensures.bits in
    subst (λ (l : List Bool). IfOk c.rows_selected-kept.result (λ table. rows_of table ≡ map (filter_rows l) (rows_of c.args.self.now))) same c.rows_selected-kept.ensures.rows
