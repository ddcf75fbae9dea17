use Rattle.std.proofs.Common.{◌∙◌, ℕ, Option, ap, sym}
use Rattle.column_base.specs.declared.error.VortexError.{VortexError}
use Rattle.column_core.specs.PrimitiveForm.{optional_numbers}
use Rattle.column_ops.specs.Take.{take_fault}
use Rattle.tables.specs.Tables.{TableForm}
use Rattle.tables.proofs.TableRows.{refused_first, told}
use Rattle.tables.proofs.table.Table.take.Goals as goal

pub returns-in-Some-clause-refused : goal.returns-in-Some-clause-refused
returns-in-Some-clause-refused g c =
    let fault : ℕ → Option VortexError = (λ count. take_fault (optional_numbers c.args.indices.now) count) in
    let count = ap (λ (t : TableForm). t.count) c.self.view_is in
    told (fault c.args.self.now.count) c.in-Some.error (ap fault (sym count) ∙ sym c.in-Some.ensures)

pub rows_at-requires : goal.rows_at-requires
rows_at-requires g c =
    let fault : ℕ → Option VortexError = (λ count. take_fault (optional_numbers c.args.indices.now) count) in
    let count = ap (λ (t : TableForm). t.count) c.self.view_is in
    record { within = ap fault (sym count) ∙ sym c.in_default.ensures }

pub returns-clause-refused : goal.returns-clause-refused
returns-clause-refused g c =
    let fault : ℕ → Option VortexError = (λ count. take_fault (optional_numbers c.args.indices.now) count) in
    let count = ap (λ (t : TableForm). t.count) c.self.view_is in
    refused_first (fault c.args.self.now.count) c.rows_at.result (ap fault (sym count) ∙ sym c.in_default.ensures) c.rows_at.ensures.only
