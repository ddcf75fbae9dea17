use Rattle.std.proofs.Common.{◌≡◌, ◌++◌, List, Option, length, ap, subst, arith}
use Rattle.std.specs.Prelude.{OnOk}
use Rattle.column_core.specs.FlatColumn.{leaf_of}
use Rattle.column_core.specs.Value.{Value}
use Rattle.runend_array.specs.Array.{dtype_of, rows}
use Rattle.runend_builder.proofs.Encodings.{encoding_of_itself, rows_of_encoding}
use Rattle.runend_builder.proofs.builder.RunBuilder.append_part.Goals as goal

pub append_runs-appended-requires-clause-encoded : goal.append_runs-appended-requires-clause-encoded
append_runs-appended-requires-clause-encoded g c =
    encoding_of_itself (rows c.args.array.now) (dtype_of c.args.array.now) c.args.self.now.dtype c.in_ok-ends.ends (leaf_of c.in_ok-ends.values) c.requires.typed c.in_ok-ends.ensures.encoding

pub append_runs-appended-requires-clause-small : goal.append_runs-appended-requires-clause-small
append_runs-appended-requires-clause-small g c =
    let same = ap length (rows_of_encoding (rows c.args.array.now) (dtype_of c.args.array.now) c.in_ok-ends.ends (leaf_of c.in_ok-ends.values) c.in_ok-ends.ensures.encoding) in
    omega (arith, same, c.requires.small)

pub returns-clause-rows : goal.returns-clause-rows
returns-clause-rows g c =
    let own = c.args.self.now in
    subst (λ (rs : List (Option Value)). OnOk c.append_runs-appended.result (c.append_runs-appended.new.self.rows ≡ own.rows ++ rs))
    (rows_of_encoding (rows c.args.array.now) (dtype_of c.args.array.now) c.in_ok-ends.ends (leaf_of c.in_ok-ends.values) c.in_ok-ends.ensures.encoding) c.append_runs-appended.ensures.rows
