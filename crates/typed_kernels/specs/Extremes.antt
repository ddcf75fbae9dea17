-- The least and the greatest row, by what rows are worked as.
use Rattle.std.specs.Prelude.{◌≡◌, ◌≢◌, map, MatchOption}
use Rattle.column_floats.specs.Extremes.{AreExtremes, NoneCounts}
use Rattle.column_sums.specs.SumAnswer.{number_in}
use Rattle.float_bits.specs.declared.formats.FloatFormat.{FloatFormat}
use Rattle.float_bits.specs.Number.{IsNan}
use Rattle.runend_array.specs.Column.{column_rows, plain_of}
use Rattle.runend_commands.specs.Extremes.{AreExtremesIfAny}
use Rattle.typed_columns.specs.Typed.{TypedForm}
use Rattle.typed_kernels.specs.Served.{served}
use Rattle.typed_kernels.specs.declared.meanings.Served.TheVariants as served_as
use Rattle.typed_kernels.specs.declared.extremes.TypedExtremes.{TypedExtremes}
use Rattle.typed_kernels.specs.declared.extremes.TypedExtremes.TheVariants.{Stored, Floats}

-- of floats the least and the greatest number, else the least and the greatest row as they are stored
abbrev pub AreTypedExtremes : {A : Type 0} → TypedForm → TypedExtremes A → Type 0
AreTypedExtremes c (Stored found) = ((f : FloatFormat) → served c ≢ served_as.Floats f) × AreExtremesIfAny (plain_of c.column) found
AreTypedExtremes c (Floats f found) =
    (served c ≡ served_as.Floats f) × MatchOption found (NoneCounts (λ bits. ¬ IsNan f bits) f (map number_in (column_rows c.column)))
    (λ ends. AreExtremes (λ bits. ¬ IsNan f bits) f (map number_in (column_rows c.column)) ends.0 ends.1)
