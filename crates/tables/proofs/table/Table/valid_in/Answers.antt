use Rattle.std.proofs.Common.{◌≡◌, ◌∙◌, ℕ, List, None, ap, length, map, subst, sym}
use Rattle.std.specs.Option.{option_or}
use Rattle.std.specs.String.{string_bytes}
use Rattle.column_ops.specs.Filter.{filter_fault}
use Rattle.row_stretches.specs.Masks.{mask_fault, truths_of}
use Rattle.runend_array.specs.Array.{dtype_of, rows}
use Rattle.runend_column.proofs.ComputedRows.{ok_then2}
use Rattle.typed_columns.specs.Typed.{typed_of}
use Rattle.typed_columns.specs.declared.typed_column.TypedColumn.{TypedColumn}
use Rattle.tables.specs.Tables.{AreEven, TableForm}
use Rattle.tables.specs.WithoutNull.{valid_places}
use Rattle.tables.proofs.Selections.{named_even}
use Rattle.tables.proofs.TableRows.{table_seen}
use Rattle.tables.proofs.ValidTables.{short_first, valid_mask_fits, valid_table}
use Rattle.tables.proofs.table.Table.valid_in.Goals as goal

pub mask_of_valid-mask-requires : goal.mask_of_valid-mask-requires
mask_of_valid-mask-requires g c =
    let own = c.args.self.now in
    let columns = c.in_ok-columns.columns.items in
    let counted = ap (λ (t : TableForm). t.count) c.self.view_is in
    let even = named_even own (map string_bytes c.args.names.now) (map typed_of columns) (table_seen c.self.view_is c.self.invariant) c.in_ok-columns.ensures.columns in
    record { even = subst (λ (all : List (TypedColumn _)). AreEven (map typed_of all) c.self.inside.rows) (sym c.deref.ensures.value) (subst (AreEven (map typed_of columns)) (sym counted) even) }

pub returns-clause-only : goal.returns-clause-only
returns-clause-only g c =
    let own = c.args.self.now in
    let mask = c.in_ok-mask.mask in
    let lent = map (λ (column : TypedColumn _). rows column.array) c.deref.result.now in
    let truths = c.in_ok-mask.ensures.truths ∙ ap (valid_places lent) (ap (λ (t : TableForm). t.count) c.self.view_is) in
    short_first (option_or (mask_fault (dtype_of mask)) (filter_fault (length (rows mask)) own.count)) c.filter-kept.result (valid_mask_fits (rows mask) (dtype_of mask) lent own.count c.in_ok-mask.ensures.dtype truths) c.filter-kept.ensures.refused

pub returns-clause-valid : goal.returns-clause-valid
returns-clause-valid g c =
    let own = c.args.self.now in
    let mask = c.in_ok-mask.mask in
    let columns = c.in_ok-columns.columns.items in
    let lent = map (λ (column : TypedColumn _). rows column.array) c.deref.result.now in
    let truths = c.in_ok-mask.ensures.truths ∙ ap (valid_places lent) (ap (λ (t : TableForm). t.count) c.self.view_is)
    ∙ ap (λ (all : List (TypedColumn _)). valid_places (map (λ (column : TypedColumn _). rows column.array) all) own.count) c.deref.ensures.value in
    ok_then2 c.filter-kept.result _ _ _ (λ table shown counted. valid_table own table (map string_bytes c.args.names.now) columns (truths_of (rows mask)) c.in_ok-columns.ensures.columns truths shown counted)
    c.filter-kept.ensures.rows c.filter-kept.ensures.count
