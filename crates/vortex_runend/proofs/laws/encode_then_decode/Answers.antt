use Rattle.std.proofs.Common.{◌≡◌, List, Option, subst}
use Rattle.std.specs.Prelude.{IfOk}
use Rattle.column_core.specs.Value.{Value}
use Rattle.runend_array.specs.Array.{column_of, rows}
use Rattle.runend_array.specs.Column.{column_rows}
use Rattle.runend_array.proofs.Encodings.{encoded_rows}
use Rattle.vortex_runend.proofs.laws.encode_then_decode.Goals as goal

pub returns-clause-rows : goal.returns-clause-rows
returns-clause-rows g c =
    let same : rows c.in_ok-encoded.encoded ≡ rows c.args.array =
    rw c.in_ok-encoded.ensures.form (encoded_rows (column_of c.args.array) c.in_ok-runs.runs c.in_ok-runs.ensures.encoded) in
    subst (λ (shown : List (Option Value)). IfOk c.canonicalize-decoded.result (λ decoded. rows decoded ≡ shown)) same c.canonicalize-decoded.ensures.rows
