-- Columns joined place by place, and what stays of a table.
use Rattle.std.proofs.Common.{◌≡◌, ◌≢◌, ◌∙◌, ◌+◌, ◌<◌, ◌≤◌, ◌^◌, ◌++◌, ◌&&◌, ℕ, zero, suc, List, [], ◌∷◌, Bool, true, false, Option, None, Some, cond, inl, inr, not, true≢false, length, map, take, refl, sym, ap, subst, get_or, length-append, nat_lt, arith}
use Rattle.std.specs.Prelude.{All, Decides, Err, IfErr, IfOk, IsErrAnd, IsOkUnless, Ok, Result, String, bytes_eq, slice_get, string_bytes, string_eq}
use Rattle.std.specs.Cmp.Lexicographic.{pointwise}
use Rattle.std.specs.Option.{option_or}
use Rattle.std.specs.Str.{IsUtf8}
use Rattle.std.proofs.lemmas.Bool.Decides.{Decides-ltb}
use Rattle.std.proofs.lemmas.List.{length-map, take_all, take_more}
use Rattle.std.proofs.lemmas.Option.{get_or_from_slice_get}
use Rattle.std.proofs.lemmas.Slice.Eq.{bytes_eq-Decides, slice_eq-Decides}
use Rattle.column_base.specs.declared.dtype.DType.{DType}
use Rattle.column_base.specs.declared.error.VortexError.{VortexError}
use Rattle.column_base.specs.declared.error.VortexError.TheVariants.{OutOfMemory, WindowOverflow}
use Rattle.column_core.specs.Kinds.{list_fault}
use Rattle.column_core.specs.Refusal.{IsErrorFor, first_fault}
use Rattle.column_core.specs.SameType.{same_dtype-decides}
use Rattle.column_core.specs.Value.{Value}
use Rattle.column_ops.proofs.IndexPositions.{neither}
use Rattle.runend_array.specs.Array.{column_of, dtype_of, rows}
use Rattle.runend_array.specs.Column.{Runs, column_dtype, column_of_runs, column_rows}
use Rattle.runend_array.specs.declared.array_ref.ArrayRef.{ArrayRef}
use Rattle.runend_builder.specs.Builder.{Built, append_fault}
use Rattle.runend_builder.specs.Encoded.{IsEncodedRows}
use Rattle.runend_column.proofs.MinimalRuns.{least_rows}
use Rattle.runend_windows.specs.Window.{run_rows}
use Rattle.tables.specs.Appended.{AreJoined, IsAppendError, IsAppendable, IsAppended, IsFirstOther, IsJoinedColumn, append_fault as table_fault, joining_fault, type_of}
use Rattle.tables.specs.Tables.{AreEven, IsTable, TableForm, dtypes_of, table_with}
use Rattle.typed_columns.specs.Typed.{TypedForm, typed_of}
use Rattle.typed_columns.specs.declared.typed_column.TypedColumn.{TypedColumn}
use Rattle.tables.specs.declared.fault.TableError.{TableError}
use Rattle.tables.specs.declared.fault.TableError.TheVariants.{Refused}
use Rattle.tables.proofs.NameLists.{formats_utf8, mapped_at}
use Rattle.tables.proofs.Worked.{count_of, dtype_in}

-- ---- one column

-- the encoding of rows shows them
encoded_rows : (all : List (Option Value)) (dtype : DType) (runs : Runs) → IsEncodedRows all dtype runs → column_rows (column_of_runs runs) ≡ all
encoded_rows all dtype runs encoded =
    ap (λ (start : ℕ). run_rows runs.ends (column_rows runs.values) start runs.count) encoded.offset
    ∙ least_rows all runs.ends (column_rows runs.values) runs.count (sym encoded.count) encoded.cover

-- so it is the encoding of its own rows
joined_of_encoded : (column other joined : TypedForm) (runs : Runs) → IsEncodedRows (column_rows column.column ++ column_rows other.column) (column_dtype column.column) runs → joined.column ≡ column_of_runs runs
    → joined.format ≡ column.format → IsJoinedColumn column other joined
joined_of_encoded column other joined runs encoded same formatted =
    let shown = ap column_rows same ∙ encoded_rows (column_rows column.column ++ column_rows other.column) (column_dtype column.column) runs encoded in
    let dtype = ap column_dtype same ∙ encoded.dtype in
    record {
      rows = shown;
      typed = λ i. (formatted i, dtype i);
      form = (
        runs,
        same,
        subst (λ (t : DType). IsEncodedRows (column_rows joined.column) t runs) (sym dtype)
            (subst (λ (all : List (Option Value)). IsEncodedRows all (column_dtype column.column) runs) (sym shown) encoded),
      );
    }

pub joined_part : {A E : Type 0} (column other : TypedForm) (runs : Runs) (array : ArrayRef A) (result : Result (TypedColumn A) E) → IsEncodedRows (column_rows column.column ++ column_rows other.column) (column_dtype column.column) runs
    → column_of array ≡ column_of_runs runs → IfOk result (λ made. made.array ≡ array) → IfOk result (λ made. (typed_of made).format ≡ column.format) → IfOk result (λ part. IsJoinedColumn column other (typed_of part))
joined_part column other runs array (Ok part) encoded formed held formatted = joined_of_encoded column other (typed_of part) runs encoded (ap column_of held ∙ formed) formatted
joined_part column other runs array (Err error) encoded formed held formatted = tt

-- rows of the builder's type are refused only for memory where there are fewer than 2^64 in all
pub refused_for_memory : (own dtype : DType) (count more : ℕ) (error : VortexError) → own ≡ dtype → count + more < 2 ^ 64 → IsErrorFor (append_fault own dtype count more) error → error ≡ OutOfMemory
refused_for_memory own dtype count more error typed fits (inl short) = short
refused_for_memory own dtype count more error typed fits (inr has) =
    let takes : append_fault own dtype count more ≡ None = rw ((same_dtype-decides dtype own).1 (sym typed), (Decides-ltb (count + more) (2 ^ 64)).1 fits) refl in
    let both : None ≡ Some error = sym takes ∙ has in absurd (cc)

-- ---- columns, place by place

more_joined : (xs ys zs : List TypedForm) (x y z : TypedForm) → AreJoined xs ys zs → IsJoinedColumn x y z → AreJoined (xs ++ x ∷ []) (ys ++ y ∷ []) (zs ++ z ∷ [])
more_joined [] [] [] x y z joined one = (one, tt)
more_joined [] [] (c ∷ zs) x y z joined one = absurd joined
more_joined [] (b ∷ ys) zs x y z joined one = absurd joined
more_joined (a ∷ xs) [] zs x y z joined one = absurd joined
more_joined (a ∷ xs) (b ∷ ys) [] x y z joined one = absurd joined
more_joined (a ∷ xs) (b ∷ ys) (c ∷ zs) x y z joined one = (joined.0, more_joined xs ys zs x y z joined.1 one)

-- before the first place
pub none_joined : {A : Type 0} (kept : List (TypedColumn A)) → kept ≡ [] → AreJoined [] [] (map typed_of kept)
none_joined {A} kept empty = subst (λ (items : List (TypedColumn A)). AreJoined [] [] (map typed_of items)) (sym empty) tt

-- the forms up to one place more
mapped_next : {X Z : Type 0} (f : X → Z) (xs : List X) (k : ℕ) (x : X) → k < length xs → x ≡ get_or xs k x → take (k + 1) (map f xs) ≡ take k (map f xs) ++ f x ∷ []
mapped_next {X} {Z} f xs k x within here =
    take_more (map f xs) k (f x) (omega (arith, within, length-map xs f)) ∙ ap (λ (z : Z). take k (map f xs) ++ z ∷ []) (get_or_from_slice_get (map f xs) k (f x) (f x) (mapped_at f xs k x within here))

mapped_last : {A : Type 0} (kept : List (TypedColumn A)) (part : TypedColumn A) → map typed_of (kept ++ part ∷ []) ≡ map typed_of kept ++ typed_of part ∷ []
mapped_last [] part = refl
mapped_last (x ∷ kept) part = ap (λ (l : List TypedForm). typed_of x ∷ l) (mapped_last kept part)

-- one place more
pub joined_more : {A : Type 0} (columns others kept next : List (TypedColumn A)) (k : ℕ) (column other part : TypedColumn A) → k < length columns → k < length others → column ≡ get_or columns k column
    → other ≡ get_or others k other → IsJoinedColumn (typed_of column) (typed_of other) (typed_of part) → AreJoined (take k (map typed_of columns)) (take k (map typed_of others)) (map typed_of kept) → next ≡ kept ++ part ∷ []
    → AreJoined (take (k + 1) (map typed_of columns)) (take (k + 1) (map typed_of others)) (map typed_of next)
joined_more {A} columns others kept next k column other part within within_others here there one joined pushed =
    let first = mapped_next typed_of columns k column within here in
    let second = mapped_next typed_of others k other within_others there in
    let third : map typed_of next ≡ map typed_of kept ++ typed_of part ∷ [] = ap (map typed_of) pushed ∙ mapped_last kept part in
    subst (λ (xs : List TypedForm). AreJoined xs (take (k + 1) (map typed_of others)) (map typed_of next)) (sym first)
    (subst (λ (ys : List TypedForm). AreJoined (take k (map typed_of columns) ++ typed_of column ∷ []) ys (map typed_of next)) (sym second)
    (subst (λ (zs : List TypedForm). AreJoined (take k (map typed_of columns) ++ typed_of column ∷ []) (take k (map typed_of others) ++ typed_of other ∷ []) zs) (sym third)
    (more_joined (take k (map typed_of columns)) (take k (map typed_of others)) (map typed_of kept) (typed_of column) (typed_of other) (typed_of part) joined one)))

-- all places
pub all_joined : (xs ys zs : List TypedForm) (k : ℕ) → length xs ≤ k → length ys ≤ k → AreJoined (take k xs) (take k ys) zs → AreJoined xs ys zs
all_joined xs ys zs k all all_others joined =
    subst (λ (l : List TypedForm). AreJoined l ys zs) (take_all k xs all) (subst (λ (l : List TypedForm). AreJoined (take k xs) l zs) (take_all k ys all_others) joined)

joined_count : (xs ys zs : List TypedForm) → AreJoined xs ys zs → length zs ≡ length xs
joined_count [] [] [] joined = refl
joined_count [] [] (z ∷ zs) joined = absurd joined
joined_count [] (y ∷ ys) zs joined = absurd joined
joined_count (x ∷ xs) [] zs joined = absurd joined
joined_count (x ∷ xs) (y ∷ ys) [] joined = absurd joined
joined_count (x ∷ xs) (y ∷ ys) (z ∷ zs) joined = ap suc (joined_count xs ys zs joined.1)

-- each column has as many rows as the two of its place
even_joined : (n m : ℕ) (xs ys zs : List TypedForm) → AreJoined xs ys zs → AreEven xs n → AreEven ys m → AreEven zs (n + m)
even_joined n m [] [] [] joined even even_others k d within = absurd (omega (arith, within))
even_joined n m [] [] (z ∷ zs) joined even even_others k d within = absurd joined
even_joined n m [] (y ∷ ys) zs joined even even_others k d within = absurd joined
even_joined n m (x ∷ xs) [] zs joined even even_others k d within = absurd joined
even_joined n m (x ∷ xs) (y ∷ ys) [] joined even even_others k d within = absurd joined
even_joined n m (x ∷ xs) (y ∷ ys) (z ∷ zs) joined even even_others zero d within =
    let own : length (column_rows x.column) ≡ n = even 0 x (omega arith) in
    let next : length (column_rows y.column) ≡ m = even_others 0 y (omega arith) in
    ap length joined.0.rows ∙ length-append (column_rows x.column) (column_rows y.column) ∙ ap (λ (k : ℕ). k + length (column_rows y.column)) own ∙ ap (λ (k : ℕ). n + k) next
even_joined n m (x ∷ xs) (y ∷ ys) (z ∷ zs) joined even even_others (suc k) d within =
    even_joined n m xs ys zs joined.1 (λ i e below. even (suc i) e (omega (arith, below))) (λ i e below. even_others (suc i) e (omega (arith, below))) k d (omega (arith, within))

-- ---- what is asked of each place

same_item : {X : Type 0} (y x : X) → ◌≡◌ {A = Option X} (Some y) (Some x) → y ≡ x
same_item y x same = cc

fault_at : {X : Type 0} (fault : X → Option VortexError) (xs : List X) (k : ℕ) (x : X) → first_fault fault xs ≡ None → slice_get xs k ≡ Some x → fault x ≡ None
fault_at fault [] k x none here = absurd (cc)
fault_at fault (y ∷ xs) zero x none here = ap fault (sym (same_item y x here)) ∙ (neither (fault y) (first_fault fault xs) none).0
fault_at fault (y ∷ xs) (suc k) x none here = fault_at fault xs k x ((neither (fault y) (first_fault fault xs) none).1) here

pub below_of_none : (count : ℕ) → cond (nat_lt count (2 ^ 64)) None (Some WindowOverflow) ≡ None → count < 2 ^ 64
below_of_none count none = (Decides-ltb count (2 ^ 64)).0 (is_below (nat_lt count (2 ^ 64)) none)
  where
    is_below : (below : Bool) → cond below None (Some WindowOverflow) ≡ None → below ≡ true
    is_below true none = refl
    is_below false none = absurd (cc)

-- neither lists nor too many rows refuse a joining
pub joining_none : (dtypes : List DType) (count : ℕ) → joining_fault dtypes count ≡ None → (first_fault list_fault dtypes ≡ None) × (count < 2 ^ 64)
joining_none dtypes count none =
    let fine = neither (first_fault list_fault dtypes) (cond (nat_lt count (2 ^ 64)) None (Some WindowOverflow)) none in
    (fine.0, below_of_none count fine.1)

-- the two columns of a place are of one type, not one of lists, and have fewer than 2^64 rows together
pub record AreJoinable {A : Type 0} (column other : TypedColumn A) : Type 0 where
  pub typed : dtype_of column.array ≡ dtype_of other.array
  pub single : list_fault (dtype_of column.array) ≡ None
  pub fits : length (rows column.array) + length (rows other.array) < 2 ^ 64

mapped_twice_at : {A : Type 0} (columns : List (TypedColumn A)) (k : ℕ) (column : TypedColumn A) → k < length columns → column ≡ get_or columns k column → slice_get (map type_of (map typed_of columns)) k ≡ Some (type_of (typed_of column))
mapped_twice_at [] k column within here = absurd (omega (arith, within))
mapped_twice_at {A} (y ∷ xs) zero column within here = ap (λ (z : TypedColumn A). Some (type_of (typed_of z))) (sym here)
mapped_twice_at (y ∷ xs) (suc k) column within here = mapped_twice_at xs k column (omega (arith, within)) here

pub joinable_at : {A : Type 0} (columns others : List (TypedColumn A)) (count more k : ℕ) (column other : TypedColumn A) → map type_of (map typed_of columns) ≡ map type_of (map typed_of others) → AreEven (map typed_of columns) count
    → AreEven (map typed_of others) more → joining_fault (map dtype_in columns) (count + more) ≡ None → k < length columns → k < length others → column ≡ get_or columns k column → other ≡ get_or others k other → AreJoinable column other
joinable_at columns others count more k column other typed even even_others none within within_others here there =
    let fine = joining_none (map dtype_in columns) (count + more) none in
    let same : type_of (typed_of column) ≡ type_of (typed_of other) = same_item (type_of (typed_of column)) (type_of (typed_of other))
    (sym (mapped_twice_at columns k column within here) ∙ ap (λ (ts : List (List ℕ × DType)). slice_get ts k) typed ∙ mapped_twice_at others k other within_others there) in
    record {
      typed = ap (λ (t : List ℕ × DType). t.1) same;
      single = fault_at list_fault (map dtype_in columns) k (dtype_in column) fine.0 (mapped_at dtype_in columns k column within here);
      fits = omega (arith, fine.1, count_of columns count k column even within here, count_of others more k other even_others within_others there);
    }

pub same_length : {A : Type 0} (columns others : List (TypedColumn A)) → map type_of (map typed_of columns) ≡ map type_of (map typed_of others) → length columns ≡ length others
same_length columns others typed =
    sym (length-map columns typed_of) ∙ sym (length-map (map typed_of columns) type_of) ∙ ap length typed ∙ length-map (map typed_of others) type_of ∙ length-map others typed_of

-- ---- names

mapped_names : {A : Type 0} (xs ys : List (String A)) → pointwise string_eq xs ys ≡ pointwise bytes_eq (map string_bytes xs) (map string_bytes ys)
mapped_names [] [] = refl
mapped_names [] (y ∷ ys) = refl
mapped_names (x ∷ xs) [] = refl
mapped_names (x ∷ xs) (y ∷ ys) = ap (λ (r : Bool). bytes_eq (string_bytes x) (string_bytes y) && r) (mapped_names xs ys)

-- `==` holds of names exactly where their bytes are the same
pub names-decide : {A : Type 0} (xs ys : List (String A)) → Decides (pointwise string_eq xs ys) (map string_bytes xs ≡ map string_bytes ys)
names-decide xs ys = slice_eq-Decides bytes_eq-Decides (map string_bytes xs) (map string_bytes ys) (pointwise string_eq xs ys) (mapped_names xs ys)

-- ---- the first column of another type

twice_next : {A : Type 0} (columns : List (TypedColumn A)) (k : ℕ) (column : TypedColumn A) → k < length columns → column ≡ get_or columns k column
    → take (k + 1) (map type_of (map typed_of columns)) ≡ take k (map type_of (map typed_of columns)) ++ type_of (typed_of column) ∷ []
twice_next columns k column within here =
    take_more (map type_of (map typed_of columns)) k (type_of (typed_of column)) (omega (arith, within, length-map columns typed_of, length-map (map typed_of columns) type_of))
    ∙ ap (λ (t : List ℕ × DType). take k (map type_of (map typed_of columns)) ++ t ∷ []) (get_or_from_slice_get (map type_of (map typed_of columns)) k (type_of (typed_of column)) (type_of (typed_of column)) (mapped_twice_at columns k column within here))

-- the types of one place more are the same
pub types_more : {A : Type 0} (columns others : List (TypedColumn A)) (k : ℕ) (column other : TypedColumn A) → k < length columns → k < length others → column ≡ get_or columns k column → other ≡ get_or others k other
    → type_of (typed_of column) ≡ type_of (typed_of other) → take k (map type_of (map typed_of columns)) ≡ take k (map type_of (map typed_of others))
    → take (k + 1) (map type_of (map typed_of columns)) ≡ take (k + 1) (map type_of (map typed_of others))
types_more columns others k column other within within_others here there same before =
    twice_next columns k column within here ∙ ap (λ (ts : List (List ℕ × DType)). ts ++ type_of (typed_of column) ∷ []) before
    ∙ ap (λ (t : List ℕ × DType). take k (map type_of (map typed_of others)) ++ t ∷ []) same ∙ sym (twice_next others k other within_others there)

-- the types of all places
pub types_all : {A : Type 0} (columns others : List (TypedColumn A)) (k : ℕ) → length columns ≤ k → length columns ≡ length others → take k (map type_of (map typed_of columns)) ≡ take k (map type_of (map typed_of others))
    → map type_of (map typed_of columns) ≡ map type_of (map typed_of others)
types_all columns others k all counts same =
    sym (take_all k (map type_of (map typed_of columns)) (omega (arith, all, length-map columns typed_of, length-map (map typed_of columns) type_of))) ∙ same
    ∙ take_all k (map type_of (map typed_of others)) (omega (arith, all, counts, length-map others typed_of, length-map (map typed_of others) type_of))

pub first_other : {A : Type 0} (columns others : List (TypedColumn A)) (k : ℕ) (column other : TypedColumn A) → k < length columns → k < length others → column ≡ get_or columns k column → other ≡ get_or others k other
    → type_of (typed_of column) ≢ type_of (typed_of other) → take k (map type_of (map typed_of columns)) ≡ take k (map type_of (map typed_of others)) → IsFirstOther (map type_of (map typed_of columns)) (map type_of (map typed_of others)) k
first_other columns others k column other within within_others here there differ before = record {
  within = omega (arith, within, length-map columns typed_of, length-map (map typed_of columns) type_of);
  differs = λ same. differ (same_item (type_of (typed_of column)) (type_of (typed_of other)) (sym (mapped_twice_at columns k column within here) ∙ same ∙ mapped_twice_at others k other within_others there));
  before = before;
}

pub not_false : (b : Bool) → not b ≡ false → b ≡ true
not_false true same = refl
not_false false same = sym same

-- ---- lists and the number of rows

-- the fault of joining, where no column has lists
pub joining_of_count : (dtypes : List DType) (count : ℕ) → first_fault list_fault dtypes ≡ None → joining_fault dtypes count ≡ cond (nat_lt count (2 ^ 64)) None (Some WindowOverflow)
joining_of_count dtypes count none = ap (λ (own : Option VortexError). option_or own (cond (nat_lt count (2 ^ 64)) None (Some WindowOverflow))) none

-- ---- the tables

-- the types of columns as they are seen
dtypes_seen : {A : Type 0} (columns : List (TypedColumn A)) → map dtype_in columns ≡ map (λ c. column_dtype c.column) (map typed_of columns)
dtypes_seen [] = refl
dtypes_seen (x ∷ columns) = ap (λ (ts : List DType). dtype_in x ∷ ts) (dtypes_seen columns)

-- the fault of joining the columns of two tables
pub same_fault : {A : Type 0} (before other : TableForm) (columns : List (TypedColumn A)) (count more : ℕ) → map typed_of columns ≡ before.columns → count ≡ before.count → more ≡ other.count
    → joining_fault (map dtype_in columns) (count + more) ≡ table_fault before other
same_fault before other columns count more seen counted counted_more =
    ap (λ (ts : List DType). joining_fault ts (count + more)) (dtypes_seen columns ∙ ap (map (λ c. column_dtype c.column)) seen)
    ∙ ap (λ (n : ℕ). joining_fault (dtypes_of before) (n + more)) counted ∙ ap (λ (n : ℕ). joining_fault (dtypes_of before) (before.count + n)) counted_more

-- columns that are joined, as two tables are seen
pub joined_as : {A : Type 0} (columns others lent lent_others kept : List (TypedColumn A)) (own other : List TypedForm) → lent ≡ columns → lent_others ≡ others → map typed_of columns ≡ own → map typed_of others ≡ other
    → AreJoined (map typed_of lent) (map typed_of lent_others) (map typed_of kept) → AreJoined own other (map typed_of kept)
joined_as columns others lent lent_others kept own other is_lent are_lent seen seen_other joined =
    subst (λ (l : List TypedForm). AreJoined l other (map typed_of kept)) (ap (map typed_of) is_lent ∙ seen)
    (subst (λ (l : List TypedForm). AreJoined (map typed_of lent) l (map typed_of kept)) (ap (map typed_of) are_lent ∙ seen_other) joined)

-- a table of which another one's rows come after
pub record IsJoinedTable (before other after : TableForm) : Type 0 where
  pub table : IsTable after
  pub appended : IsAppended before other after

pub joined_table : {A : Type 0} (names copies : List (List ℕ)) (kept : List (TypedColumn A)) (count more made : ℕ) (own other : TableForm) → copies ≡ names → names ≡ own.names → IsTable own → IsTable other → count ≡ own.count → more ≡ other.count
    → made ≡ count + more → made < 2 ^ 64 → AreJoined own.columns other.columns (map typed_of kept) → IsJoinedTable own other (table_with copies (map typed_of kept) made)
joined_table names copies kept count more made own other copied named table table_other counted counted_more is small joined =
    let is_named : copies ≡ own.names = copied ∙ named in
    let sum : own.count + other.count ≡ made = omega (arith, counted, counted_more, is) in
    record {
      table = record {
        named = ap length is_named ∙ table.named ∙ sym (joined_count own.columns other.columns (map typed_of kept) joined);
        distinct = subst (λ (l : List (List ℕ)). (i j : ℕ) → i < j → j < length l → slice_get l i ≢ slice_get l j) (sym is_named) table.distinct;
        texts = subst (λ (l : List (List ℕ)). All IsUtf8 l) (sym is_named) table.texts;
        formats = formats_utf8 kept;
        even = subst (λ (n : ℕ). AreEven (map typed_of kept) n) sum (even_joined own.count other.count own.columns other.columns (map typed_of kept) joined table.even table_other.even);
        small = small;
      };
      appended = record { names = is_named; columns = joined; count = sym sum };
    }

-- ---- what refuses

-- what `!=` says of names
pub names_same : {A : Type 0} (xs ys : List (String A)) (other : Bool) → other ≡ not (pointwise string_eq xs ys) → other ≡ false → map string_bytes xs ≡ map string_bytes ys
names_same xs ys other is same = (names-decide xs ys).0 (not_false (pointwise string_eq xs ys) (sym is ∙ same))

pub names_of_both : {A : Type 0} (before other : TableForm) (xs ys : List (String A)) (differ : Bool) → map string_bytes xs ≡ before.names → map string_bytes ys ≡ other.names → differ ≡ not (pointwise string_eq xs ys)
    → differ ≡ false → before.names ≡ other.names
names_of_both before other xs ys differ seen seen_other is same = sym seen ∙ names_same xs ys differ is same ∙ seen_other

pub names_differ : {A : Type 0} (xs ys : List (String A)) (other : Bool) → other ≡ not (pointwise string_eq xs ys) → other ≡ true → map string_bytes xs ≢ map string_bytes ys
names_differ xs ys other is differ same =
    let equal = (names-decide xs ys).1 same in
    let wrong : true ≡ false = sym differ ∙ is ∙ ap not equal in
    true≢false wrong

-- the types of columns, as a table is seen
pub first_as : (xs ys own other : List TypedForm) (place : ℕ) → xs ≡ own → ys ≡ other → IsFirstOther (map type_of xs) (map type_of ys) place → IsFirstOther (map type_of own) (map type_of other) place
first_as xs ys own other place seen seen_other first =
    subst (λ (l : List TypedForm). IsFirstOther (map type_of l) (map type_of other) place) seen (subst (λ (l : List TypedForm). IsFirstOther (map type_of xs) (map type_of l) place) seen_other first)

pub types_as : (xs ys own other : List TypedForm) → xs ≡ own → ys ≡ other → map type_of xs ≡ map type_of ys → map type_of own ≡ map type_of other
types_as xs ys own other seen seen_other same = sym (ap (map type_of) seen) ∙ same ∙ ap (map type_of) seen_other

-- the error of the fault that there is
pub error_of_fault : (fault : Option VortexError) (error : VortexError) → fault ≡ Some error → option_or fault (Some OutOfMemory) ≡ Some error
error_of_fault fault error is = ap (λ (own : Option VortexError). option_or own (Some OutOfMemory)) is

-- memory is refused only where nothing else refuses
pub error_of_memory : (fault : Option VortexError) (error : VortexError) → fault ≡ None → error ≡ OutOfMemory → option_or fault (Some OutOfMemory) ≡ Some error
error_of_memory fault error none short = ap (λ (own : Option VortexError). option_or own (Some OutOfMemory)) none ∙ ap (λ (e : VortexError). Some e) (sym short)

-- an error that is passed on is memory's, where it was before
pub passed_for_memory : {T : Type 0} (error : VortexError) (result : Result T VortexError) → IsErrAnd result (λ passed. passed ≡ error) → error ≡ OutOfMemory → IsOkUnless result OutOfMemory
passed_for_memory error (Ok value) passed short = absurd passed
passed_for_memory error (Err other) passed short = passed ∙ short

-- what is so of a builder's rows, where these are known
pub encoded_as : {X E : Type 0} (P : List (Option Value) → DType → X → Type 0) (built : Built) (all : List (Option Value)) (dtype : DType) (result : Result X E) → built.rows ≡ all → built.dtype ≡ dtype
    → IfOk result (P built.rows built.dtype) → IfOk result (P all dtype)
encoded_as P built all dtype result shown typed encoded =
    subst (λ (t : DType). IfOk result (P all t)) typed (subst (λ (shown_rows : List (Option Value)). IfOk result (P shown_rows built.dtype)) shown encoded)

-- the append is refused only for memory where nothing else refuses
pub append_short : {T : Type 0} (before other : TableForm) (error : VortexError) (result : Result T TableError) → IsErrAnd result (λ passed. passed ≡ Refused error) → IsAppendable before other → error ≡ OutOfMemory
    → IfErr result (IsAppendError before other)
append_short before other error (Ok value) passed fine short = tt
append_short before other error (Err found) passed fine short =
    subst (λ (e : TableError). IsAppendError before other e) (sym passed) (fine.names, fine.types, error_of_memory (table_fault before other) error fine.allowed short)
