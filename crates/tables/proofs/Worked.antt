-- Columns worked on one by one, under their formats.
use Rattle.std.proofs.Common.{◌≡◌, ◌∙◌, ◌+◌, ◌^◌, ◌<◌, ◌≤◌, ◌++◌, ℕ, zero, suc, List, [], ◌∷◌, Option, ap, arith, get_or, length, map, refl, subst, sym, take}
use Rattle.std.specs.String.{string_bytes}
use Rattle.std.proofs.lemmas.List.{length-map, map-append, take_all, take_more}
use Rattle.std.proofs.lemmas.Option.{get_or_from_slice_get}
use Rattle.column_base.specs.declared.dtype.DType.{DType}
use Rattle.column_core.specs.Value.{Value}
use Rattle.runend_array.specs.Array.{dtype_of, rows}
use Rattle.runend_array.specs.Column.{column_dtype, column_rows}
use Rattle.typed_columns.specs.declared.typed_column.TypedColumn.{TypedColumn}
use Rattle.tables.specs.Tables.{AreEven, IsKept, IsTable, TableForm, dtypes_of, formats_of, rows_of, table_with}
use Rattle.typed_columns.specs.Typed.{TypedForm, typed_of}
use Rattle.tables.proofs.NameLists.{formats_utf8, mapped_at}

abbrev pub shown_in : {A : Type 0} → TypedColumn A → List (Option Value)
shown_in column = rows column.array

abbrev pub dtype_in : {A : Type 0} → TypedColumn A → DType
dtype_in column = dtype_of column.array

abbrev pub format_in : {A : Type 0} → TypedColumn A → List ℕ
format_in column = string_bytes column.format

-- what is pushed is the work done on the next item
pub mapped_more : {X Z : Type 0} (source work : X → Z) (xs kept next : List X) (k : ℕ) (x y : X) → k < length xs → x ≡ get_or xs k x → source y ≡ work x
    → map source kept ≡ map work (take k xs) → next ≡ kept ++ y ∷ [] → map source next ≡ map work (take (k + 1) xs)
mapped_more {X} {Z} source work xs kept next k x y within here same before pushed =
    let more : take (k + 1) xs ≡ take k xs ++ x ∷ [] = take_more xs k x within ∙ ap (λ (z : X). take k xs ++ z ∷ []) (sym here) in
    ap (map source) pushed ∙ map-append source kept (y ∷ []) ∙ ap (λ (zs : List Z). zs ++ source y ∷ []) before ∙ ap (λ (z : Z). map work (take k xs) ++ z ∷ []) same
    ∙ sym (ap (map work) more ∙ map-append work (take k xs) (x ∷ []))

-- a column has as many rows as the table
pub count_of : {A : Type 0} (columns : List (TypedColumn A)) (count k : ℕ) (column : TypedColumn A) → AreEven (map typed_of columns) count → k < length columns → column ≡ get_or columns k column → length (rows column.array) ≡ count
count_of columns count k column even within here =
    let at : get_or (map typed_of columns) k (typed_of column) ≡ typed_of column =
    get_or_from_slice_get (map typed_of columns) k (typed_of column) (typed_of column) (mapped_at typed_of columns k column within here) in
    sym (ap (λ (c : TypedForm). length (column_rows c.column)) at) ∙ even k (typed_of column) (omega (arith, within, length-map columns typed_of))

-- the first `k` columns have been worked on
pub record AreWorked {A : Type 0} (typed : DType → DType) (work : List (Option Value) → List (Option Value)) (columns kept : List (TypedColumn A)) (k : ℕ) : Type 0 where
  pub shown : map shown_in kept ≡ map (λ column. work (shown_in column)) (take k columns)
  pub dtypes : map dtype_in kept ≡ map (λ column. typed (dtype_in column)) (take k columns)
  pub formats : map format_in kept ≡ map format_in (take k columns)

pub none_worked : {A : Type 0} (typed : DType → DType) (work : List (Option Value) → List (Option Value)) (columns kept : List (TypedColumn A)) → kept ≡ [] → AreWorked typed work columns kept 0
none_worked typed work columns kept empty = record { shown = ap (map shown_in) empty; dtypes = ap (map dtype_in) empty; formats = ap (map format_in) empty }

pub worked_more : {A : Type 0} (typed : DType → DType) (work : List (Option Value) → List (Option Value)) (columns kept next : List (TypedColumn A)) (k : ℕ) (column part : TypedColumn A)
    → k < length columns → column ≡ get_or columns k column → shown_in part ≡ work (shown_in column) → dtype_in part ≡ typed (dtype_in column) → format_in part ≡ format_in column
    → AreWorked typed work columns kept k → next ≡ kept ++ part ∷ [] → AreWorked typed work columns next (k + 1)
worked_more typed work columns kept next k column part within here shown dtype format worked pushed = record {
  shown = mapped_more shown_in (λ c. work (shown_in c)) columns kept next k column part within here shown worked.shown pushed;
  dtypes = mapped_more dtype_in (λ c. typed (dtype_in c)) columns kept next k column part within here dtype worked.dtypes pushed;
  formats = mapped_more format_in format_in columns kept next k column part within here format worked.formats pushed;
}

pub record IsWorked {A : Type 0} (typed : DType → DType) (work : List (Option Value) → List (Option Value)) (columns kept : List (TypedColumn A)) : Type 0 where
  pub shown : map shown_in kept ≡ map (λ column. work (shown_in column)) columns
  pub dtypes : map dtype_in kept ≡ map (λ column. typed (dtype_in column)) columns
  pub formats : map format_in kept ≡ map format_in columns

pub all_worked : {A : Type 0} (typed : DType → DType) (work : List (Option Value) → List (Option Value)) (columns kept : List (TypedColumn A)) (k : ℕ) → length columns ≤ k → AreWorked typed work columns kept k → IsWorked typed work columns kept
all_worked typed work columns kept k all worked = record {
  shown = worked.shown ∙ ap (map (λ column. work (shown_in column))) (take_all k columns all);
  dtypes = worked.dtypes ∙ ap (map (λ column. typed (dtype_in column))) (take_all k columns all);
  formats = worked.formats ∙ ap (map format_in) (take_all k columns all);
}

map_twice : {X Y Z : Type 0} (f : Y → Z) (g : X → Y) (xs : List X) → map f (map g xs) ≡ map (λ x. f (g x)) xs
map_twice f g [] = refl
map_twice {X} {Y} {Z} f g (x ∷ xs) = ap (λ (zs : List Z). f (g x) ∷ zs) (map_twice f g xs)

-- as many rows in each column, where the work leaves as many of columns of one number of rows
even_after : {A : Type 0} (work : List (Option Value) → List (Option Value)) (n m : ℕ) → ((all : List (Option Value)) → length all ≡ n → length (work all) ≡ m) → (columns kept : List (TypedColumn A))
    → map shown_in kept ≡ map (λ column. work (shown_in column)) columns → AreEven (map typed_of columns) n → AreEven (map typed_of kept) m
even_after work n m counts columns [] shown even k d within = absurd (omega (arith, within))
even_after work n m counts [] (y ∷ kept) shown even k d within = absurd (omega (arith, ap length shown))
even_after work n m counts (x ∷ columns) (y ∷ kept) shown even zero d within =
    ap length (ap (λ (l : List (List (Option Value))). get_or l 0 []) shown) ∙ counts (shown_in x) (even 0 (typed_of x) (omega arith))
even_after work n m counts (x ∷ columns) (y ∷ kept) shown even (suc k) d within =
    let rest : map shown_in kept ≡ map (λ column. work (shown_in column)) columns = cc in
    even_after work n m counts columns kept rest (λ i e below. even (suc i) e (omega (arith, below))) k d (omega (arith, within))

-- the table of columns that are worked on, under the same names
pub record IsWorkedTable (typed : DType → DType) (work : List (Option Value) → List (Option Value)) (before after : TableForm) : Type 0 where
  pub table : IsTable after
  pub shown : rows_of after ≡ map work (rows_of before)
  pub names : after.names ≡ before.names
  pub formats : formats_of after ≡ formats_of before
  pub dtypes : dtypes_of after ≡ map (λ c. typed (column_dtype c.column)) before.columns

-- the types stay
pub kept_of : (work : List (Option Value) → List (Option Value)) (before after : TableForm) → IsWorkedTable (λ t. t) work before after → IsKept before after
kept_of work before after made = record { names = made.names; formats = made.formats; dtypes = made.dtypes }

pub worked_table : {A : Type 0} (typed : DType → DType) (work : List (Option Value) → List (Option Value)) (names : List (List ℕ)) (columns kept : List (TypedColumn A)) (n m : ℕ) → m < 2 ^ 64
    → ((all : List (Option Value)) → length all ≡ n → length (work all) ≡ m) → IsTable (table_with names (map typed_of columns) n) → IsWorked typed work columns kept
    → IsWorkedTable typed work (table_with names (map typed_of columns) n) (table_with names (map typed_of kept) m)
worked_table typed work names columns kept n m small counts table worked =
    let long : length (map typed_of kept) ≡ length (map typed_of columns) =
    length-map kept typed_of ∙ sym (length-map kept format_in) ∙ ap length worked.formats ∙ length-map columns format_in ∙ sym (length-map columns typed_of) in
    record {
      table = record {
        named = table.named ∙ sym long;
        distinct = table.distinct;
        texts = table.texts;
        formats = formats_utf8 kept;
        even = even_after work n m counts columns kept worked.shown table.even;
        small = small;
      };
      shown = map_twice (λ (c : TypedForm). column_rows c.column) typed_of kept ∙ worked.shown ∙ sym (map_twice work (λ (c : TypedForm). column_rows c.column) (map typed_of columns) ∙ map_twice (λ (c : TypedForm). work (column_rows c.column)) typed_of columns);
      names = refl;
      formats = map_twice (λ (c : TypedForm). c.format) typed_of kept ∙ worked.formats ∙ sym (map_twice (λ (c : TypedForm). c.format) typed_of columns);
      dtypes = map_twice (λ (c : TypedForm). column_dtype c.column) typed_of kept ∙ worked.dtypes ∙ sym (map_twice (λ (c : TypedForm). typed (column_dtype c.column)) typed_of columns);
    }

-- the same of a table that is seen otherwise, where its columns are lent and its names copied
pub worked_as : {A : Type 0} (typed : DType → DType) (work : List (Option Value) → List (Option Value)) (names copies : List (List ℕ)) (columns lent kept : List (TypedColumn A)) (n m : ℕ) (own : TableForm) → copies ≡ names → lent ≡ columns
    → table_with names (map typed_of columns) n ≡ own → m < 2 ^ 64 → ((all : List (Option Value)) → length all ≡ n → length (work all) ≡ m) → IsTable (table_with names (map typed_of columns) n) → IsWorked typed work lent kept
    → IsWorkedTable typed work own (table_with copies (map typed_of kept) m)
worked_as {A} typed work names copies columns lent kept n m own copied is_lent seen small counts table worked =
    let made = worked_table typed work names columns kept n m small counts table (subst (λ (l : List (TypedColumn A)). IsWorked typed work l kept) is_lent worked) in
    let of_own = subst (λ (t : TableForm). IsWorkedTable typed work t (table_with names (map typed_of kept) m)) seen made in
    subst (λ (l : List (List ℕ)). IsWorkedTable typed work own (table_with l (map typed_of kept) m)) (sym copied) of_own
