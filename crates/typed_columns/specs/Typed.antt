-- Columns with what Arrow calls the type of their rows.
use Rattle.std.specs.Coded.{Coded, code_by, coded_list, coded_ℕ, coded×}
use Rattle.std.specs.Prelude.{refl, ℕ, List}
use Rattle.std.specs.String.{string_bytes}
use Rattle.runend_array.specs.Array.{column_of}
use Rattle.runend_array.specs.Column.{Column}
use Rattle.runend_array.specs.ColumnCode.{column_code}
use Rattle.typed_columns.specs.declared.typed_column.TypedColumn.{TypedColumn}

-- a column, and the format of Arrow that says what its rows mean, in UTF-8: empty where none does
pub record TypedForm : Type 0 where
  pub format : List ℕ
  pub column : Column

-- the format of a column as it is held
abbrev pub format_of : {A : Type 0} → TypedColumn A → List ℕ
format_of held = string_bytes held.format

-- the form of a column as it is held
abbrev pub typed_of : {A : Type 0} → TypedColumn A → TypedForm
typed_of held = record { format = format_of held; column = column_of held.array }

-- the code by which two columns are compared
abbrev pub typed_code : Coded TypedForm
typed_code = code_by (List ℕ × Column) (coded× (coded_list coded_ℕ) column_code) (λ c. (c.format, c.column)) (λ p. record { format = p.0; column = p.1 }) (λ _. refl)
