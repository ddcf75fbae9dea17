-- Rows that are null in none of several columns.
use Rattle.std.specs.Prelude.{◌≡◌, ℕ, Bool, List, [], ◌∷◌, Option, count_by, is_some, map}
use Rattle.std.specs.List.{AllZip, list_all, range_with_len}
use Rattle.column_core.specs.Value.{Value}
use Rattle.column_ops.specs.Filter.{filter_rows}
use Rattle.runend_array.specs.Column.{column_rows}
use Rattle.row_groups.specs.Groups.{row_across}
use Rattle.tables.specs.Tables.{IsNamed, TableForm, rows_of}
use Rattle.typed_columns.specs.Typed.{TypedForm}

-- no column is null at a place
abbrev pub is_valid_across : List (List (Option Value)) → ℕ → Bool
is_valid_across columns place = list_all is_some (row_across columns place)

-- at which of `count` places no column is
abbrev pub valid_places : List (List (Option Value)) → ℕ → List Bool
valid_places columns count = map (is_valid_across columns) (range_with_len 0 count)

-- these names, or those of all columns where there are none
abbrev pub chosen_names : List (List ℕ) → List (List ℕ) → List (List ℕ)
chosen_names own [] = own
chosen_names own (name ∷ names) = name ∷ names

-- the rows of each column at the places at which none of the columns of these names is null
pub record IsWithoutNull (before : TableForm) (names : List (List ℕ)) (after : TableForm) : Type 0 where
  pub columns : List TypedForm
  pub named : AllZip (IsNamed before) names columns
  pub rows : rows_of after ≡ map (filter_rows (valid_places (map (λ c. column_rows c.column) columns) before.count)) (rows_of before)
  pub count : after.count ≡ count_by (λ bit. bit) (valid_places (map (λ c. column_rows c.column) columns) before.count)
