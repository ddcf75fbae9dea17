-- The columns of groups: the rows at which they begin, and answers of their rows.
use Rattle.std.proofs.Common.{◌≡◌, ◌∙◌, ◌+◌, ◌-◌, ◌<◌, ◌++◌, ℕ, List, [], ◌∷◌, Option, Some, ap, arith, get_or, length, map, refl, subst, sym, inl, inr}
use Rattle.std.specs.Prelude.{All, Err, IfOk, Ok, Result, slice_get}
use Rattle.std.specs.List.{AllZip, range_with_len}
use Rattle.std.proofs.lemmas.Bool.{cases_lt}
use Rattle.std.proofs.lemmas.Option.{get_or_from_slice_get}
use Rattle.std.proofs.lemmas.List.Elements.{All-cons, All-head, All-nil, All-tail}
use Rattle.column_base.specs.declared.dtype.DType.{DType}
use Rattle.column_core.specs.Value.{Value}
use Rattle.runend_array.specs.Column.{column_rows}
use Rattle.runend_encode.specs.Starts.{rows_at}
use Rattle.runend_pairs.specs.declared.group_fault.GroupError.{GroupError}
use Rattle.runend_pairs.specs.declared.group_fault.GroupError.TheVariants as groups
use Rattle.runend_windows.specs.Starts.{starts_from}
use Rattle.row_groups.specs.Groups.{AreEndsOf, row_alone}
use Rattle.row_groups.proofs.Changes.{starts_within}
use Rattle.row_stretches.specs.declared.stretches.Stretch.{Stretch}
use Rattle.row_stretches.specs.Stretches.{IsWithin, stretch_places, stretch_rows}
use Rattle.row_stretches.proofs.Places.{rows_of_places}
use Rattle.typed_columns.specs.declared.typed_column.TypedColumn.{TypedColumn}
use Rattle.typed_columns.specs.Typed.{TypedForm, typed_of}
use Rattle.typed_groups.specs.Answers.{IsFoldedRefusal}
use Rattle.tables.specs.GroupFaults.{IsAnswerRefusal, IsFirstUnserved, IsServed}
use Rattle.tables.specs.Grouping.{AskedForm, IsHeadColumn}
use Rattle.tables.specs.Tables.{AreEven, IsNamed, TableForm}
use Rattle.tables.proofs.Worked.{dtype_in, format_in, shown_in}

-- ---- the rows at which groups begin

pub places_alone : (starts : List ℕ) → stretch_places (map row_alone starts) ≡ starts
places_alone [] = refl
places_alone (start ∷ starts) =
    let one : start + 1 - start ≡ 1 = omega arith in
    ap (λ (n : ℕ). range_with_len start n ++ stretch_places (map row_alone starts)) one ∙ ap (λ (rest : List ℕ). start ∷ rest) (places_alone starts)

pub within_alone : (count : ℕ) (starts : List ℕ) → All (λ start. start < count) starts → All (IsWithin count) (map row_alone starts)
within_alone count [] within = All-nil (IsWithin count)
within_alone count (start ∷ starts) within =
    let here = All-head (λ s. s < count) start starts within in
    All-cons (IsWithin count) (row_alone start) (map row_alone starts) (record { ordered = omega arith; inside = omega (arith, here) }) (within_alone count starts (All-tail (λ s. s < count) start starts within))

-- the rows of a column there
rows_alone_at : (all : List (Option Value)) (count : ℕ) (order : List Stretch) (ends : List ℕ) → AreEndsOf count ends → length all ≡ count → order ≡ map row_alone (starts_from 0 ends) → stretch_rows all order ≡ rows_at all (starts_from 0 ends)
rows_alone_at all count order ends whole long alone =
    let within = subst (λ (n : ℕ). All (IsWithin n) (map row_alone (starts_from 0 ends))) (sym long) (within_alone count (starts_from 0 ends) (starts_within count ends whole)) in
    ap (stretch_rows all) alone ∙ rows_of_places all (map row_alone (starts_from 0 ends)) within ∙ ap (rows_at all) (places_alone (starts_from 0 ends))

-- and of each column
pub heads_zipped : {A : Type 0} (columns made : List (TypedColumn A)) (count : ℕ) (order : List Stretch) (ends : List ℕ) → AreEndsOf count ends → AreEven (map typed_of columns) count → order ≡ map row_alone (starts_from 0 ends)
    → map shown_in made ≡ map (λ c. stretch_rows (shown_in c) order) columns → map dtype_in made ≡ map dtype_in columns → map format_in made ≡ map format_in columns → AllZip (IsHeadColumn ends) (map typed_of columns) (map typed_of made)
heads_zipped [] [] count order ends whole even alone shown dtypes formats = tt
heads_zipped [] (y ∷ made) count order ends whole even alone shown dtypes formats = absurd (omega (arith, ap length shown))
heads_zipped (x ∷ columns) [] count order ends whole even alone shown dtypes formats = absurd (omega (arith, ap length shown))
heads_zipped (x ∷ columns) (y ∷ made) count order ends whole even alone shown dtypes formats =
    let P = λ (c : TypedForm). length (column_rows c.column) ≡ count in
    let long = All-head P (typed_of x) (map typed_of columns) even in
    let rest_shown : map shown_in made ≡ map (λ c. stretch_rows (shown_in c) order) columns = cc in
    let rest_dtypes : map dtype_in made ≡ map dtype_in columns = cc in
    let rest_formats : map format_in made ≡ map format_in columns = cc in (
      record {
        rows = ap (λ (l : List (List (Option Value))). get_or l 0 []) shown ∙ rows_alone_at (shown_in x) count order ends whole long alone;
        typed = ap (λ (l : List DType). get_or l 0 (dtype_in x)) dtypes;
        format = ap (λ (l : List (List ℕ)). get_or l 0 []) formats;
      },
      heads_zipped columns made count order ends whole (All-tail P (typed_of x) (map typed_of columns) even) alone rest_shown rest_dtypes rest_formats,
    )

-- what holds of an answer in three ways
pub ok_then3 : {T E : Type 0} (result : Result T E) (P P' P'' Q : T → Type 0) → ((value : T) → P value → P' value → P'' value → Q value) → IfOk result P → IfOk result P' → IfOk result P'' → IfOk result Q
ok_then3 (Ok value) P P' P'' Q then' h h' h'' = then' value h h' h''
ok_then3 (Err error) P P' P'' Q then' h h' h'' = tt

-- one answer is refused as its column is
pub answer_refused : (t : TableForm) (ends : List ℕ) (asks : AskedForm) (column : TypedForm) (error : GroupError) → IsNamed t asks.column column → IsFoldedRefusal ends asks.fold column error → IsAnswerRefusal t ends asks error
answer_refused t ends asks column (groups.Refused error) named refused = refused
answer_refused t ends asks column (groups.SumOverflow group) named refused = record { column = column; named = named; first = refused }

-- the first answer that is not served
pub first_unserved : (t : TableForm) (asked : List AskedForm) (place : ℕ) (asks : AskedForm) → slice_get asked place ≡ Some asks → ((k : ℕ) (d : AskedForm) → k < place → IsServed t (get_or asked k d)) → IsFirstUnserved t asked place asks
first_unserved t asked place asks there before = record {
  there = there;
  before = λ k other below is. subst (IsServed t) (get_or_from_slice_get asked k other other is) (before k other below);
}

-- one answer more that is served
pub served_more : (t : TableForm) (asked : List AskedForm) (place : ℕ) (asks : AskedForm) → slice_get asked place ≡ Some asks → IsServed t asks → ((k : ℕ) (d : AskedForm) → k < place → IsServed t (get_or asked k d))
    → (k : ℕ) (d : AskedForm) → k < place + 1 → IsServed t (get_or asked k d)
served_more t asked place asks there served before k d below = elim (cases_lt k place) [
  | inl under ↦ before k d under
  | inr past ↦ let at : k ≡ place = omega (arith, past, below) in
      subst (IsServed t) (sym (ap (λ (i : ℕ). get_or asked i d) at ∙ get_or_from_slice_get asked place asks d there)) served
]
