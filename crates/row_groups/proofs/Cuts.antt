-- Groups that are cut where one more column changes.
use Rattle.std.proofs.Common.{◌≡◌, ◌∙◌, ◌^◌, ◌<◌, ◌≤◌, ◌-◌, ◌++◌, ℕ, List, [], ◌∷◌, Option, None, Some, ap, arith, length, map, refl, slice_index, subst, sym, zero-add}
use Rattle.std.proofs.lemmas.List.{map-append}
use Rattle.std.proofs.lemmas.List.FromFn.{get_or-map-range_with_len, length-map-range_with_len}
use Rattle.std.proofs.lemmas.Option.{slice_get-get_or}
use Rattle.column_base.specs.declared.dtype.DType.{DType}
use Rattle.column_core.specs.Leaf.{Leaf}
use Rattle.column_core.specs.PrimitiveForm.{PrimitiveForm}
use Rattle.column_core.specs.Value.{Value}
use Rattle.runend_encode.specs.Encoding.{IsRowEncoding}
use Rattle.runend_windows.specs.Cover.{IsTightCover}
use Rattle.runend_windows.specs.Ends.{ends_of}
use Rattle.runend_windows.specs.Starts.{starts_from}
use Rattle.row_groups.specs.Groups.{AreCommonEnds, AreEndsOf, AreGroupEnds, row_across, rows_across}
use Rattle.row_groups.specs.Orders.{row_at}
use Rattle.row_groups.proofs.Changes.{AreChanges, changes_of_cover, common_changes, tight_cover}
use Rattle.row_groups.proofs.PlaceOrders.{parts_equal}

-- rows across one more column are equal where both are
across_split : (columns : List (List (Option Value))) (more : List (Option Value)) (i j : ℕ) → row_across (columns ++ more ∷ []) i ≡ row_across (columns ++ more ∷ []) j
    → (row_across columns i ≡ row_across columns j) × (row_at more i ≡ row_at more j)
across_split [] more i j same = (refl, (parts_equal (row_at more i) (row_at more j) [] [] same).0)
across_split (rows ∷ columns) more i j same =
    let parts = parts_equal (row_at rows i) (row_at rows j) (row_across (columns ++ more ∷ []) i) (row_across (columns ++ more ∷ []) j) same in
    let rest = across_split columns more i j parts.1 in
    ((λ n. parts.0 n ∷ rest.0 n), rest.1)

across_join : (columns : List (List (Option Value))) (more : List (Option Value)) (i j : ℕ) → row_across columns i ≡ row_across columns j → row_at more i ≡ row_at more j
    → row_across (columns ++ more ∷ []) i ≡ row_across (columns ++ more ∷ []) j
across_join columns more i j same here =
    map-append (λ (rows : List (Option Value)). row_at rows i) columns (more ∷ [])
    ∙ (λ n. same n ++ here n ∷ [])
    ∙ sym (map-append (λ (rows : List (Option Value)). row_at rows j) columns (more ∷ []))

-- groups end where the rows across change
pub changes_of_groups : (columns : List (List (Option Value))) (count : ℕ) (ends : List ℕ) → AreGroupEnds columns count ends → AreChanges (row_across columns) count ends
changes_of_groups columns count ends groups =
    let rows = rows_across columns count in
    let item = row_across columns in
    let long : length rows ≡ count = length-map-range_with_len item 0 count in
    let shown = (λ (k : ℕ) (within : k < length rows). slice_get-get_or rows k (item k) within ∙ ap Some (get_or-map-range_with_len item 0 count k k (item k) (omega arith) (zero-add k))) in
    subst (λ (n : ℕ). AreChanges item n ends) long (changes_of_cover item rows ends (map item (starts_from 0 ends)) shown groups)

-- and are of all rows
pub ends_of_groups : (columns : List (List (Option Value))) (count : ℕ) (ends : List ℕ) → AreGroupEnds columns count ends → AreEndsOf count ends
ends_of_groups columns count ends groups = (changes_of_groups columns count ends groups).whole

-- the runs of a column end where its rows change
changes_of_rows : (rows : List (Option Value)) (ends : List ℕ) (values : List (Option Value)) → IsTightCover rows ends values → AreChanges (row_at rows) (length rows) ends
changes_of_rows rows ends values cover = changes_of_cover (row_at rows) rows ends values (λ k within. slice_get-get_or rows k None within) cover

-- groups cut at the ends of the runs of one more column
pub groups_cut : (columns : List (List (Option Value))) (rows : List (Option Value)) (ends others made : List ℕ) (values : List (Option Value)) → IsTightCover rows others values
    → AreCommonEnds ends others (length rows) made → AreGroupEnds columns (length rows) ends → AreGroupEnds (columns ++ rows ∷ []) (length rows) made
groups_cut columns rows ends others made values cover common groups =
    let both = row_across (columns ++ rows ∷ []) in
    tight_cover both (length rows) made (common_changes (row_across columns) (row_at rows) both (length rows) ends others made (across_split columns rows) (across_join columns rows)
    (changes_of_groups columns (length rows) ends groups) (changes_of_rows rows others values cover) common)

-- the ends of an encoding are those of groups
pub ends_of_encoding : (rows : List (Option Value)) (dtype : DType) (ends : PrimitiveForm) (values : Leaf) → IsRowEncoding rows dtype ends values → AreEndsOf (length rows) (ends_of ends)
ends_of_encoding rows dtype ends values e = record { window = e.cover.covers.window; stop = e.cover.exact.stop; filled = e.cover.tight.filled }

-- all rows are one group of no column
pub one_end : (count : ℕ) → 0 < count → count < 2 ^ 64 → AreEndsOf count (count ∷ [])
one_end count some small = record {
  window = record {
    increasing = λ k within. absurd (omega arith);
    none = λ h. absurd (omega arith);
    first = λ h. omega arith;
    last = λ h. omega arith;
    small = omega arith;
  };
  stop = refl;
  filled = λ h. some;
}

pub no_end : (count : ℕ) → count ≡ 0 → AreEndsOf count []
no_end count none = record {
  window = record {
    increasing = λ k within. absurd (omega arith);
    none = λ h. (refl, none);
    first = λ h. absurd (omega arith);
    last = λ h. absurd (omega arith);
    small = omega arith;
  };
  stop = sym none;
  filled = λ h. absurd (omega arith);
}

-- and so they are groups of equal rows
pub one_group_of_all : (count : ℕ) (ends : List ℕ) → AreEndsOf count ends → length ends ≤ 1 → AreGroupEnds [] count ends
one_group_of_all count ends whole few = tight_cover (row_across []) count ends (record {
  whole = whole;
  change = λ run there inside same. last run there inside;
  stay = λ k some inside none. refl;
})
  where
    last : (run : ℕ) → run < length ends → slice_index ends run < count → ⊥
    last run there inside =
        let same : run ≡ length ends - 1 = omega arith in
        let stop : slice_index ends run ≡ count = ap (slice_index ends) same ∙ whole.stop in
        omega arith
