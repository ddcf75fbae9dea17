-- The least and the greatest row of the column of a handle, as C receives them, by what the rows are worked as.
use Rattle.std.specs.Prelude.{◌≢◌, ◌≤ℤ◌, ℕ, ℤ, Bool, true, false, List, Option, Some, None, map}
use Rattle.std.specs.Global.{Global}
use Rattle.column_core.specs.Value.{PlainColumn}
use Rattle.column_floats.specs.Extremes.{IsCounted, NoneCounts}
use Rattle.column_sums.specs.SumAnswer.{number_in}
use Rattle.float_bits.specs.declared.formats.FloatFormat.{FloatFormat}
use Rattle.float_bits.specs.Number.{IsNan}
use Rattle.float_bits.specs.TotalOrder.{total_key}
use Rattle.runend_commands.specs.Meaning.{plain}
use Rattle.typed_columns.specs.Typed.{typed_of}
use Rattle.typed_columns.specs.declared.typed_column.TypedColumn.{TypedColumn}
use Rattle.typed_kernels.specs.Served.{served}
use Rattle.typed_kernels.specs.declared.meanings.Served.{Served}
use Rattle.typed_kernels.specs.declared.meanings.Served.TheVariants.{Stored, Floats, Times}
use Rattle.c_columns.specs.InPlace.{IsExtremeNeverShortOn}
use Rattle.c_columns.specs.Values.{IsExtremeOf}
use Rattle.c_columns.specs.declared.row_value.RowValue.{RowValue}
use Rattle.c_columns.specs.declared.sessions.Session.{Session}
use Rattle.c_kernels.specs.TypedRows.{IsFloatRowTold}

-- a number of a row
abbrev pub IsNumberIn : FloatFormat → List (Option ℤ) → ℕ → Type 0
IsNumberIn f keys bits = IsCounted (λ float. ¬ IsNan f float) f keys bits

-- the least or the greatest number of rows that are stored by these keys, -0.0 below 0.0; none where no row is a number
abbrev pub IsLastNumber : Bool → FloatFormat → List (Option ℤ) → Option ℕ → Type 0
IsLastNumber greatest f keys None = NoneCounts (λ float. ¬ IsNan f float) f keys
IsLastNumber false f keys (Some bits) = IsNumberIn f keys bits × ((other : ℕ) → IsNumberIn f keys other → total_key f bits ≤ℤ total_key f other)
IsLastNumber true f keys (Some bits) = IsNumberIn f keys bits × ((other : ℕ) → IsNumberIn f keys other → total_key f other ≤ℤ total_key f bits)

-- it is that number, or null
pub record IsFloatEnd (greatest : Bool) (f : FloatFormat) (keys : List (Option ℤ)) (value : RowValue) : Type 0 where
  pub float : Option ℕ
  pub last : IsLastNumber greatest f keys float
  pub told : IsFloatRowTold f float value

-- it is the least or the greatest row of a column whose rows are worked so
abbrev pub IsEndBy : Served → Bool → PlainColumn → List ℕ → RowValue → Type 0
IsEndBy Stored greatest before text value = IsExtremeOf greatest before text value
IsEndBy (Floats f) greatest before text value = IsFloatEnd greatest f (map number_in before.rows) value
IsEndBy (Times t) greatest before text value = IsExtremeOf greatest before text value

abbrev pub IsEndOf : Bool → TypedColumn Global → List ℕ → RowValue → Type 0
IsEndOf greatest c text value = IsEndBy (served (typed_of c)) greatest (plain c.array) text value

-- what is not floats, texts or bytes is not copied where the kernel reads it
abbrev pub IsEndNeverShortOn : Session → Option (TypedColumn Global) → ℤ → Type 0
IsEndNeverShortOn s None code = Unit {0}
IsEndNeverShortOn s (Some c) code = ((f : FloatFormat) → served (typed_of c) ≢ Floats f) → IsExtremeNeverShortOn s (Some c.array) code
