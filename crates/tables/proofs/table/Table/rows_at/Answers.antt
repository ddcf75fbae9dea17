use Rattle.std.proofs.Common.{◌≡◌, ◌∙◌, ◌^◌, ◌<◌, ℕ, Option, ap, arith, length, map}
use Rattle.std.specs.Prelude.{option_map}
use Rattle.std.specs.String.{string_bytes}
use Rattle.std.proofs.lemmas.List.{length-map}
use Rattle.column_base.specs.declared.error.VortexError.{VortexError}
use Rattle.column_core.specs.PrimitiveForm.{optional_numbers, primitive_dtype}
use Rattle.column_core.specs.Value.{Number}
use Rattle.column_ops.specs.Take.{take_fault}
use Rattle.tables.specs.Tables.{TableForm, table_with}
use Rattle.typed_columns.specs.Typed.{typed_of}
use Rattle.tables.proofs.SelectedRows.{taken_of, taken_table}
use Rattle.tables.proofs.table.Table.rows_at.Goals as goal

pub taken_of_each-requires-clause-even : goal.taken_of_each-requires-clause-even
taken_of_each-requires-clause-even g c = rw c.deref-2.ensures.value c.self.invariant.even

pub taken_of_each-requires-clause-within : goal.taken_of_each-requires-clause-within
taken_of_each-requires-clause-within g c =
    let fault : ℕ → Option VortexError = (λ count. take_fault (optional_numbers c.args.indices.now) count) in
    ap fault (ap (λ (t : TableForm). t.count) c.self.view_is) ∙ c.requires.within

pub invariant_of-result : goal.invariant_of-result
invariant_of-result g c =
    let own = c.self.inside in
    let indices = optional_numbers c.args.indices.now in
    let counted : c.len-rows.result ≡ length indices = c.len-rows.ensures.rows ∙ length-map indices (option_map Number) in
    let small : c.len-rows.result < 2 ^ 64 = omega arith in
    (taken_table indices (primitive_dtype c.args.indices.now) (map string_bytes own.names.items) (map string_bytes c.in_ok-names.names.items) own.columns.items c.deref-2.result.now c.in-Ok.columns.items own.rows c.len-rows.result c.args.self.now
    (c.in_ok-names.ensures.names ∙ ap (map string_bytes) c.deref.ensures.value) c.deref-2.ensures.value c.self.view_is small counted c.self.invariant
    (record { shown = c.in-Ok.ensures.rows; dtypes = c.in-Ok.ensures.dtypes; formats = c.in-Ok.ensures.formats })).table

pub returns-clause-taken : goal.returns-clause-taken
returns-clause-taken g c =
    let own = c.self.inside in
    let indices = optional_numbers c.args.indices.now in
    let counted : c.len-rows.result ≡ length indices = c.len-rows.ensures.rows ∙ length-map indices (option_map Number) in
    let small : c.len-rows.result < 2 ^ 64 = omega arith in
    taken_of indices (primitive_dtype c.args.indices.now) c.args.self.now (table_with (map string_bytes c.in_ok-names.names.items) (map typed_of c.in-Ok.columns.items) c.len-rows.result) counted
    (taken_table indices (primitive_dtype c.args.indices.now) (map string_bytes own.names.items) (map string_bytes c.in_ok-names.names.items) own.columns.items c.deref-2.result.now c.in-Ok.columns.items own.rows c.len-rows.result c.args.self.now
    (c.in_ok-names.ensures.names ∙ ap (map string_bytes) c.deref.ensures.value) c.deref-2.ensures.value c.self.view_is small counted c.self.invariant
    (record { shown = c.in-Ok.ensures.rows; dtypes = c.in-Ok.ensures.dtypes; formats = c.in-Ok.ensures.formats }))
