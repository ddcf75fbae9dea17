-- The least and the greatest item so far, and the next row.
use Rattle.std.proofs.Common.{◌≡◌, ◌≢◌, ◌+◌, ◌<◌, ◌≤◌, ℕ, List, [], ◌∷◌, ◌++◌, Bool, true, false, Option, Some, None, cond, get_or, length, refl, sym, ap, subst}
use Rattle.std.specs.Prelude.{◌==◌, All, Contains, slice_get, slice_range}
use Rattle.std.specs.Ordering.{is_lt, ord_max, ord_min, ordering_index}
use Rattle.std.specs.declared.cmp.Ordering.{Ordering}
use Rattle.std.specs.declared.cmp.Ordering.TheVariants.{Less, Equal, Greater}
use Rattle.column_core.specs.Value.{FlatValue, Value}
use Rattle.column_ops.specs.Items.{flagged_rows, item_row}
use Rattle.column_ops.specs.Order.{flat_cmp, row_cmp}
use Rattle.column_ops.specs.OrderFacts.{IsFurthest}
use Rattle.column_ops.proofs.BestRows.{IsBest-past, IsBest-stays}
use Rattle.column_ops.proofs.ItemRows.{null-here, valid-here}
use Rattle.column_ops.proofs.OrderLaws.{flat_equal}
use Rattle.column_ops.proofs.RowRanges.{slice_range-next}

-- the first item that is not null is the furthest one to any side
pub first-furthest : (side : Ordering) (rows : List (Option Value)) (start from : ℕ) (value : Value) → side ≢ Equal → start ≤ from → slice_get rows from ≡ Some (Some value)
    → All (λ row. row ≡ None) (slice_range rows start from) → IsFurthest side (slice_range rows start (from + 1)) (Some value)
first-furthest side rows start from value sided ordered here nulls =
    subst (λ (part : List (Option Value)). IsFurthest side part (Some value)) (sym (slice_range-next rows start from (Some value) ordered here))
    (IsBest-past side (slice_range rows start from) (Some value) None sided refl nulls)

min-cases : {S : Type 0} (value : S → FlatValue) (rows : List (Option Value)) (best item : S) (o : Ordering) → row_cmp (item_row value item) (item_row value best) ≡ o
    → IsFurthest Less rows (item_row value best) → IsFurthest Less (rows ++ item_row value item ∷ []) (item_row value (cond (is_lt o) item best))
min-cases value rows best item Less e least =
    IsBest-past Less rows (item_row value item) (Some (item_row value best)) (λ f. cc) (ap (λ (o : Ordering). ordering_index o == ordering_index Less) e) least
min-cases value rows best item Equal e least =
    IsBest-stays Less rows (item_row value item) (Some (item_row value best)) (ap (λ (o : Ordering). ordering_index o == ordering_index Less) e) least
min-cases value rows best item Greater e least =
    IsBest-stays Less rows (item_row value item) (Some (item_row value best)) (ap (λ (o : Ordering). ordering_index o == ordering_index Less) e) least

-- the lesser of the least item and the next one is the least
pub min-next : {S : Type 0} (value : S → FlatValue) (cmp : S → S → Ordering) → ((a b : S) → cmp a b ≡ flat_cmp (value a) (value b)) → (rows : List (Option Value)) (best item : S)
    → IsFurthest Less rows (item_row value best) → IsFurthest Less (rows ++ item_row value item ∷ []) (item_row value (ord_min cmp best item))
min-next value cmp ordered rows best item least = min-cases value rows best item (cmp item best) (sym (ordered item best)) least

max-cases : {S : Type 0} (value : S → FlatValue) (rows : List (Option Value)) (best item : S) (o : Ordering) → row_cmp (item_row value item) (item_row value best) ≡ o
    → IsFurthest Greater rows (item_row value best) → IsFurthest Greater (rows ++ item_row value item ∷ []) (item_row value (cond (is_lt o) best item))
max-cases value rows best item Less e greatest =
    IsBest-stays Greater rows (item_row value item) (Some (item_row value best)) (ap (λ (o : Ordering). ordering_index o == ordering_index Greater) e) greatest
max-cases value rows best item Equal e greatest =
    let same = flat_equal (value item) (value best) e in
    let stays = IsBest-stays Greater rows (item_row value item) (Some (item_row value best)) (ap (λ (o : Ordering). ordering_index o == ordering_index Greater) e) greatest in
    subst (λ (v : FlatValue). IsFurthest Greater (rows ++ item_row value item ∷ []) (item_row (λ (w : FlatValue). w) v)) (sym same) stays
max-cases value rows best item Greater e greatest =
    IsBest-past Greater rows (item_row value item) (Some (item_row value best)) (λ f. cc) (ap (λ (o : Ordering). ordering_index o == ordering_index Greater) e) greatest

-- the greater of the greatest item and the next one is the greatest
pub max-next : {S : Type 0} (value : S → FlatValue) (cmp : S → S → Ordering) → ((a b : S) → cmp a b ≡ flat_cmp (value a) (value b)) → (rows : List (Option Value)) (best item : S)
    → IsFurthest Greater rows (item_row value best) → IsFurthest Greater (rows ++ item_row value item ∷ []) (item_row value (ord_max cmp best item))
max-next value cmp ordered rows best item greatest = max-cases value rows best item (cmp item best) (sym (ordered item best)) greatest

-- no best one changes at a null
stays-at_null : (side : Ordering) (rows : List (Option Value)) (row : Option Value) → IsFurthest side rows row → IsFurthest side (rows ++ None ∷ []) row
stays-at_null side rows row furthest = IsBest-stays side rows None (Some row) refl furthest

min-null_cases : {S : Type 0} (value : S → FlatValue) (rows : List (Option Value)) (best item : S) (o : Ordering) → row_cmp (item_row value item) (item_row value best) ≡ o
    → Contains rows (item_row value item) → IsFurthest Less rows (item_row value best) → IsFurthest Less (rows ++ None ∷ []) (item_row value (cond (is_lt o) item best))
min-null_cases value rows best item Less e has least = absurd (least.none_past (item_row value item) has refl e)
min-null_cases value rows best item Equal e has least = stays-at_null Less rows (item_row value best) least
min-null_cases value rows best item Greater e has least = stays-at_null Less rows (item_row value best) least

-- the lesser of the least item and one that was there stays the least at a null
pub min-null : {S : Type 0} (value : S → FlatValue) (cmp : S → S → Ordering) → ((a b : S) → cmp a b ≡ flat_cmp (value a) (value b)) → (rows : List (Option Value)) (best item : S)
    → Contains rows (item_row value item) → IsFurthest Less rows (item_row value best) → IsFurthest Less (rows ++ None ∷ []) (item_row value (ord_min cmp best item))
min-null value cmp ordered rows best item has least = min-null_cases value rows best item (cmp item best) (sym (ordered item best)) has least

max-null_cases : {S : Type 0} (value : S → FlatValue) (rows : List (Option Value)) (best item : S) (o : Ordering) → row_cmp (item_row value item) (item_row value best) ≡ o
    → Contains rows (item_row value item) → IsFurthest Greater rows (item_row value best) → IsFurthest Greater (rows ++ None ∷ []) (item_row value (cond (is_lt o) best item))
max-null_cases value rows best item Less e has greatest = stays-at_null Greater rows (item_row value best) greatest
max-null_cases value rows best item Equal e has greatest =
    let same = flat_equal (value item) (value best) e in
    subst (λ (v : FlatValue). IsFurthest Greater (rows ++ None ∷ []) (item_row (λ (w : FlatValue). w) v)) (sym same) (stays-at_null Greater rows (item_row value best) greatest)
max-null_cases value rows best item Greater e has greatest = absurd (greatest.none_past (item_row value item) has refl e)

-- the greater of the greatest item and one that was there stays the greatest at a null
pub max-null : {S : Type 0} (value : S → FlatValue) (cmp : S → S → Ordering) → ((a b : S) → cmp a b ≡ flat_cmp (value a) (value b)) → (rows : List (Option Value)) (best item : S)
    → Contains rows (item_row value item) → IsFurthest Greater rows (item_row value best) → IsFurthest Greater (rows ++ None ∷ []) (item_row value (ord_max cmp best item))
max-null value cmp ordered rows best item has greatest = max-null_cases value rows best item (cmp item best) (sym (ordered item best)) has greatest

-- the row of an item, null where its flag is false
abbrev pub row_if : {S : Type 0} → (S → FlatValue) → Bool → S → Option Value
row_if value true item = item_row value item
row_if value false item = None

-- the lesser of the least item and the one that is looked at, which was there already where the row is null
pub min-shown : {S : Type 0} (value : S → FlatValue) (cmp : S → S → Ordering) → ((a b : S) → cmp a b ≡ flat_cmp (value a) (value b)) → (rows : List (Option Value)) (best item first : S) (flag : Bool)
    → Contains rows (item_row value first) → IsFurthest Less rows (item_row value best)
    → IsFurthest Less (rows ++ row_if value flag item ∷ []) (item_row value (ord_min cmp best (cond flag item first)))
min-shown value cmp ordered rows best item first true has least = min-next value cmp ordered rows best item least
min-shown value cmp ordered rows best item first false has least = min-null value cmp ordered rows best first has least

-- the greater of the greatest item and that one
pub max-shown : {S : Type 0} (value : S → FlatValue) (cmp : S → S → Ordering) → ((a b : S) → cmp a b ≡ flat_cmp (value a) (value b)) → (rows : List (Option Value)) (best item first : S) (flag : Bool)
    → Contains rows (item_row value first) → IsFurthest Greater rows (item_row value best)
    → IsFurthest Greater (rows ++ row_if value flag item ∷ []) (item_row value (ord_max cmp best (cond flag item first)))
max-shown value cmp ordered rows best item first true has greatest = max-next value cmp ordered rows best item greatest
max-shown value cmp ordered rows best item first false has greatest = max-null value cmp ordered rows best first has greatest

-- the row at the place of an item
pub flagged-here : {S : Type 0} (value : S → FlatValue) (items : List S) (flags : List Bool) (place : ℕ) (item : S) (flag : Bool) → place < length items → item ≡ get_or items place item
    → slice_get flags place ≡ Some flag → slice_get (flagged_rows value items flags) place ≡ Some (row_if value flag item)
flagged-here value items flags place item true inside is flag = valid-here value items flags place item inside is flag
flagged-here value items flags place item false inside is flag = null-here value items flags place inside flag

-- the side that is neither of the other two
pub greatest_side : (side : Ordering) → side ≢ Less → side ≢ Equal → side ≡ Greater
greatest_side Less not_less not_equal = absurd (not_less refl)
greatest_side Equal not_less not_equal = absurd (not_equal refl)
greatest_side Greater not_less not_equal = refl
