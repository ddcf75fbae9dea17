-- What a column in a handle says of its rows and of its format.
use Rattle.std.proofs.Common.{◌≡◌, ◌∙◌, ap, subst, sym, Option, Some, None}
use Rattle.std.specs.Prelude.{IsSomeAnd}
use Rattle.std.specs.Global.{Global}
use Rattle.runend_array.specs.declared.array_ref.ArrayRef.{ArrayRef}
use Rattle.typed_columns.specs.Typed.{format_of}
use Rattle.typed_columns.specs.declared.typed_column.TypedColumn.{TypedColumn}
use Rattle.c_columns.specs.Handle.{array_in, format_in}

abbrev Held : Type 0
Held = Option (TypedColumn Global)

pub array_none : (c : Held) → c ≡ None → array_in c ≡ None
array_none c none = ap array_in none

pub array_some : (c : Held) (column : TypedColumn Global) → c ≡ Some column → array_in c ≡ Some column.array
array_some c column some = ap array_in some

pub format_some : (c : Held) (column : TypedColumn Global) → c ≡ Some column → format_in c ≡ format_of column
format_some c column some = ap format_in some

-- the rows that are lent are those of the column that was taken out
pub lent_array : {c : Option (ArrayRef Global)} {boxed lent : TypedColumn Global} → lent ≡ boxed → c ≡ Some boxed.array → c ≡ Some lent.array
lent_array same some = some ∙ ap (λ (column : TypedColumn Global). Some column.array) (sym same)

-- what holds of the rows of the column that is put in
pub array_is : (c : Held) (column : TypedColumn Global) (P : ArrayRef Global → Type 0) → c ≡ Some column → P column.array → IsSomeAnd (array_in c) P
array_is c column P some is = subst (λ (h : Held). IsSomeAnd (array_in h) P) (sym some) is
