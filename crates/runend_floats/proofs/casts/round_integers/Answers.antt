use Rattle.std.proofs.Common.{◌∙◌, ap, map, sym}
use Rattle.column_sums.specs.SumAnswer.{number_in}
use Rattle.runend_array.specs.Array.{dtype_of, rows}
use Rattle.column_floats.specs.Casts.{Becomes, IsKeyNearInteger}
use Rattle.column_floats.specs.Formats.{keys_of_format}
use Rattle.runend_floats.specs.CastRuns.{is_integers}
use Rattle.runend_floats.proofs.CastLists.{refused_integers}
use Rattle.runend_floats.proofs.Rounded.{near_exists, never_refused}
use Rattle.runend_floats.proofs.casts.round_integers.Goals as goal

pub returns-in-Primitive-clause-refused : goal.returns-in-Primitive-clause-refused
returns-in-Primitive-clause-refused g c =
    let becomes = Becomes (keys_of_format c.args.to) (IsKeyNearInteger c.args.to) in
    refused_integers (dtype_of c.args.column.now) (ap is_integers (sym c.dtype.ensures ∙ c.in-Primitive.is)) c.cast_column.result
    (never_refused becomes (map number_in (rows c.args.column.now)) c.cast_column.result (near_exists c.args.to) c.cast_column.ensures.refused)
