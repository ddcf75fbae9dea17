use Rattle.std.proofs.Common.{◌∙◌, ◌++◌, List, Option, ap, length, arith}
use Rattle.column_core.specs.Value.{Value}
use Rattle.runend_array.specs.Array.{dtype_of, rows}
use Rattle.runend_builder.specs.Builder.{Built}
use Rattle.runend_builder.specs.Encoded.{IsEncodedRows}
use Rattle.tables.proofs.Appends.{encoded_as, passed_for_memory, refused_for_memory}
use Rattle.tables.proofs.joined.runs_of_both.Goals as goal

pub returns-in_err-append_rows-clause-only : goal.returns-in_err-append_rows-clause-only
returns-in_err-append_rows-clause-only g c =
    let none = ap (λ (b : Built). length b.rows) c.requires.empty in
    passed_for_memory c.in_err-append_rows.field-0.0 c.from_residual.result c.from_residual.ensures.1
    (refused_for_memory c.args.builder.now.dtype (dtype_of c.args.column.now) (length c.args.builder.now.rows) (length (rows c.args.column.now)) c.in_err-append_rows.field-0.0 (ap (λ (b : Built). b.dtype) c.requires.empty)
    (omega (arith, none, c.requires.fits)) c.in_err-append_rows.ensures.refused)

pub returns-in_err-append_rows-2-clause-only : goal.returns-in_err-append_rows-2-clause-only
returns-in_err-append_rows-2-clause-only g c =
    let held = c.append_rows.new.self in
    let count = ap (λ (l : List (Option Value)). length l) (c.in_ok-append_rows.ensures.rows ∙ ap (λ (b : Built). b.rows ++ rows c.args.column.now) c.requires.empty) in
    passed_for_memory c.in_err-append_rows-2.field-0.0 c.from_residual-in_err-append_rows-2.result c.from_residual-in_err-append_rows-2.ensures.1
    (refused_for_memory held.dtype (dtype_of c.args.other.now) (length held.rows) (length (rows c.args.other.now)) c.in_err-append_rows-2.field-0.0
    (c.in_ok-append_rows.ensures.dtype ∙ ap (λ (b : Built). b.dtype) c.requires.empty ∙ c.requires.typed) (omega (arith, count, c.requires.fits)) c.in_err-append_rows-2.ensures.refused)

pub returns-clause-encoded : goal.returns-clause-encoded
returns-clause-encoded g c =
    let first = c.in_ok-append_rows.ensures.rows ∙ ap (λ (b : Built). b.rows ++ rows c.args.column.now) c.requires.empty in
    encoded_as IsEncodedRows c.append_rows-2.new.self (rows c.args.column.now ++ rows c.args.other.now) (dtype_of c.args.column.now) c.finish.result
    (c.in_ok-append_rows-2.ensures.rows ∙ ap (λ (l : List (Option Value)). l ++ rows c.args.other.now) first)
    (c.in_ok-append_rows-2.ensures.dtype ∙ c.in_ok-append_rows.ensures.dtype ∙ ap (λ (b : Built). b.dtype) c.requires.empty) c.finish.ensures.encoded
