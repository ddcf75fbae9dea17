use Rattle.std.proofs.Common.{◌≡◌, ◌∙◌, ℕ, ap, arith, length, map, subst, sym}
use Rattle.runend_array.specs.Array.{IsRowValidity, column_of, validity_of}
use Rattle.runend_array.specs.Column.{Column, Runs, column_rows}
use Rattle.runend_array.specs.Lists.{HasRows, RowValidityForm, list_count, row_flag_at}
use Rattle.runend_windows.specs.Window.{run_rows}
use Rattle.runend_pairs.specs.NullCounts.{null_rows, where_true}
use Rattle.runend_pairs.proofs.NullCounted.{all_nulls, bits_nulls, no_nulls, runs_nulls}
use Rattle.runend_pairs.proofs.null_counts.nulls_of_lists.Goals as goal

pub returns-in-NonNullable : goal.returns-in-NonNullable
returns-in-NonNullable g c =
    let is = sym c.validity.ensures.form ∙ ap validity_of c.in-NonNullable.is in
    no_nulls c.args.lists.now (λ (i : ℕ). ap (λ (form : RowValidityForm). row_flag_at form i) is)

pub returns-in-AllValid : goal.returns-in-AllValid
returns-in-AllValid g c =
    let is = sym c.validity.ensures.form ∙ ap validity_of c.in-AllValid.is in
    no_nulls c.args.lists.now (λ (i : ℕ). ap (λ (form : RowValidityForm). row_flag_at form i) is)

pub returns-in-AllInvalid : goal.returns-in-AllInvalid
returns-in-AllInvalid g c =
    let is = sym c.validity.ensures.form ∙ ap validity_of c.in-AllInvalid.is in
    c.len.ensures.offsets ∙ all_nulls c.args.lists.now (λ (i : ℕ). ap (λ (form : RowValidityForm). row_flag_at form i) is)

pub returns-in-Bits : goal.returns-in-Bits
returns-in-Bits g c =
    let lists = c.args.lists.now in
    let bits = c.in-Bits.bits in
    let is = sym c.validity.ensures.form ∙ ap validity_of c.in-Bits.is in
    let long : length bits ≡ list_count lists = subst (λ (form : RowValidityForm). HasRows form (list_count lists)) is c.validity.ensures.lists.flagged in
    let whole = bits_nulls lists bits is long in
    omega (arith, whole, c.saturating_sub.ensures, c.true_count.ensures, c.len-in-Bits.ensures.offsets)

pub returns-in-Runs : goal.returns-in-Runs
returns-in-Runs g c =
    let lists = c.args.lists.now in
    let runs = c.in-Runs.runs.value in
    let is = sym c.validity.ensures.form ∙ ap validity_of c.in-Runs.is in
    let long : runs.count ≡ list_count lists = subst (λ (form : RowValidityForm). HasRows form (list_count lists)) is c.validity.ensures.lists.flagged in
    let plain = subst IsRowValidity c.in-Runs.is c.validity.ensures.plain in
    let nulls = λ (r : Runs) (values : Column). null_rows (run_rows r.ends (map where_true (column_rows values)) r.offset r.count) in
    c.nulls_in_runs.ensures ∙ ap (λ (r : Runs). nulls r (column_of c.values.result.now)) c.deref.ensures
    ∙ ap (λ (values : Column). nulls runs values) (c.values.ensures.form ∙ ap (λ (r : Runs). r.values) c.deref-in-Runs.ensures) ∙ runs_nulls lists runs is long plain
