use Rattle.std.proofs.Common.{◌≡◌, ℕ, List, subst}
use Rattle.std.specs.Prelude.{IfOk}
use Rattle.typed_columns.specs.Typed.{format_of, typed_of}
use Rattle.tables.proofs.Appends.{joined_part}
use Rattle.tables.proofs.joined.joined.Goals as goal

pub returns-clause-joined : goal.returns-clause-joined
returns-clause-joined g c =
    let formatted = subst (λ (text : List ℕ). IfOk c.with_format.result (λ made. format_of made ≡ text)) c.as_str.ensures.value c.with_format.ensures.format in
    joined_part (typed_of c.args.column.now) (typed_of c.args.other.now) c.in_ok-runs.field-0 c.in_ok-array.array c.with_format.result c.in_ok-runs.ensures.encoded c.in_ok-array.ensures.form c.with_format.ensures.array formatted
