-- Rows of items that are stored one by one: the place of each, and the flags that make some of them null.
use Rattle.std.proofs.Common.{◌≡◌, ◌∙◌, ◌+◌, ◌-◌, ◌<◌, ◌≤◌, ℕ, zero, suc, List, [], ◌∷◌, Bool, true, false, Option, Some, None, length, map, replicate, get_or, refl, sym, ap, subst, arith, inl, inr}
use Rattle.std.specs.Prelude.{slice_get, slice_range, option_map, All, count_by}
use Rattle.std.proofs.lemmas.Bool.{cases_lt}
use Rattle.std.proofs.lemmas.List.{length-map, get_or-replicate}
use Rattle.std.proofs.lemmas.Option.{slice_get-map, slice_get-get_or, slice_get_read}
use Rattle.std.proofs.lemmas.List.Sums.{count_by-le-length}
use Rattle.column_base.proofs.BitLists.{all_set, none_set, Contains-false, Contains-true}
use Rattle.column_base.proofs.Ranges.{get_or-slice_range, length-slice_range, slice_range_of_map}
use Rattle.column_core.specs.Optionals.{optionals}
use Rattle.column_core.specs.Value.{FlatValue, Value, Single}
use Rattle.column_core.proofs.OptionalRows.{length-optionals, null-at, optionals-at, optionals-slice_range}
use Rattle.column_ops.specs.Items.{flagged_rows, item_row, item_rows}
use Rattle.column_ops.proofs.RowRanges.{get_or-read, Contains-from_range}

-- what holds from one place on, before another, and there, holds up to it
pub from-next : (P : ℕ → Type 0) (start stop : ℕ) → ((k : ℕ) → start ≤ k → k < stop → P k) → P stop → (k : ℕ) → start ≤ k → k < stop + 1 → P k
from-next P start stop old new k low high =
    elim (cases_lt k stop) [
      | inl before ↦ old k low before
      | inr from ↦ let here : stop ≡ k = omega arith in subst P here new
    ]

-- what holds up to a place, and from there on, holds all the way
pub from-join : (P : ℕ → Type 0) (start middle stop : ℕ) → ((k : ℕ) → start ≤ k → k < middle → P k) → ((k : ℕ) → middle ≤ k → k < stop → P k)
    → (k : ℕ) → start ≤ k → k < stop → P k
from-join P start middle stop left right k low high =
    elim (cases_lt k middle) [
      | inl before ↦ left k low before
      | inr from ↦ right k from high
    ]

-- the row of an item is at its place
pub item-here : {S : Type 0} (value : S → FlatValue) (items : List S) (k : ℕ) (item : S) → k < length items → item ≡ get_or items k item
    → slice_get (item_rows value items) k ≡ Some (item_row value item)
item-here value items k item within is =
    slice_get-map (item_row value) items k ∙ ap (option_map (item_row value)) (slice_get_read items (length items) k item refl within is)

-- the row of an optional item
row-at : {S : Type 0} (value : S → FlatValue) (items : List S) (flags : List Bool) (k : ℕ) (o : Option S) → slice_get (optionals items flags) k ≡ Some o
    → slice_get (flagged_rows value items flags) k ≡ Some (option_map (λ (v : FlatValue). Single v) (option_map value o))
row-at value items flags k o h =
    slice_get-map (option_map (λ (v : FlatValue). Single v)) (map (option_map value) (optionals items flags)) k
    ∙ ap (option_map (option_map (λ (v : FlatValue). Single v))) (slice_get-map (option_map value) (optionals items flags) k ∙ ap (option_map (option_map value)) h)

-- the row of an item whose flag is true
pub valid-here : {S : Type 0} (value : S → FlatValue) (items : List S) (flags : List Bool) (k : ℕ) (item : S) → k < length items → item ≡ get_or items k item
    → slice_get flags k ≡ Some true → slice_get (flagged_rows value items flags) k ≡ Some (item_row value item)
valid-here value items flags k item within is flag =
    row-at value items flags k (Some item) (optionals-at items flags k item true (slice_get_read items (length items) k item refl within is) flag)

-- the row of an item whose flag is false
pub null-here : {S : Type 0} (value : S → FlatValue) (items : List S) (flags : List Bool) (k : ℕ) → k < length items → slice_get flags k ≡ Some false
    → slice_get (flagged_rows value items flags) k ≡ Some None
null-here value items flags k within flag = row-at value items flags k None (null-at items flags k within flag)

-- there are as many rows as items
pub length-item_rows : {S : Type 0} (value : S → FlatValue) (items : List S) → length (item_rows value items) ≡ length items
length-item_rows value items = length-map items (item_row value)

pub length-flagged_rows : {S : Type 0} (value : S → FlatValue) (items : List S) (flags : List Bool) → length flags ≡ length items
    → length (flagged_rows value items flags) ≡ length items
length-flagged_rows value items flags same =
    length-map (map (option_map value) (optionals items flags)) (option_map (λ (v : FlatValue). Single v))
    ∙ length-map (optionals items flags) (option_map value) ∙ length-optionals items flags same

-- rows whose flags are all true
all-valid : {S : Type 0} (value : S → FlatValue) (items : List S) (n : ℕ) → n ≡ length items → flagged_rows value items (replicate n true) ≡ item_rows value items
all-valid value [] n e = refl
all-valid value (x ∷ items) zero e = cc
all-valid value (x ∷ items) (suc n) e = ap (λ rows. item_row value x ∷ rows) (all-valid value items n (omega arith))

-- a range of rows, of ranges of items and flags
flagged-range : {S : Type 0} (value : S → FlatValue) (items : List S) (flags : List Bool) (start stop : ℕ) → length flags ≡ length items
    → slice_range (flagged_rows value items flags) start stop ≡ flagged_rows value (slice_range items start stop) (slice_range flags start stop)
flagged-range value items flags start stop same =
    slice_range_of_map (option_map (λ (v : FlatValue). Single v)) (map (option_map value) (optionals items flags)) start stop
    ∙ ap (map (option_map (λ (v : FlatValue). Single v)))
    (slice_range_of_map (option_map value) (optionals items flags) start stop ∙ ap (map (option_map value)) (sym (optionals-slice_range items flags start stop same)))

-- a range of rows whose flags are all true
pub valid-range : {S : Type 0} (value : S → FlatValue) (items : List S) (flags : List Bool) (start stop : ℕ) → length flags ≡ length items → start ≤ stop → stop ≤ length items
    → slice_range flags start stop ≡ replicate (stop - start) true → slice_range (flagged_rows value items flags) start stop ≡ slice_range (item_rows value items) start stop
valid-range value items flags start stop same ordered within valid =
    flagged-range value items flags start stop same
    ∙ ap (flagged_rows value (slice_range items start stop)) valid
    ∙ all-valid value (slice_range items start stop) (stop - start) (sym (length-slice_range items start stop ordered within))
    ∙ sym (slice_range_of_map (item_row value) items start stop)

-- rows of which none is null
pub no-nulls : {S : Type 0} (value : S → FlatValue) (items : List S) (flags : List Bool) (start stop : ℕ) → flags ≡ replicate (length items) true
    → slice_range (flagged_rows value items flags) start stop ≡ slice_range (item_rows value items) start stop
no-nulls value items flags start stop valid =
    ap (λ (fs : List Bool). slice_range (flagged_rows value items fs) start stop) valid
    ∙ ap (λ (rows : List (Option Value)). slice_range rows start stop) (all-valid value items (length items) refl)

-- a range of rows is null where the rows at its places are
pub All-null : (rows : List (Option Value)) (start stop : ℕ) → start ≤ stop → stop ≤ length rows → ((k : ℕ) → start ≤ k → k < stop → slice_get rows k ≡ Some None)
    → All (λ row. row ≡ None) (slice_range rows start stop)
All-null rows start stop ordered within nulls k d below =
    let long = length-slice_range rows start stop ordered within in
    get_or-slice_range rows start stop k d (omega arith) ∙ get_or-read rows (start + k) None d (nulls (start + k) (omega arith) (omega arith))

-- flags of a range that are all copies of one
pub flag-in_range : (flags : List Bool) (flag : Bool) (start stop : ℕ) → start ≤ stop → stop ≤ length flags → slice_range flags start stop ≡ replicate (stop - start) flag
    → (k : ℕ) → start ≤ k → k < stop → slice_get flags k ≡ Some flag
flag-in_range flags flag start stop ordered within copies k low high =
    let place : start + (k - start) ≡ k = omega arith in
    let read : get_or flags k flag ≡ flag =
    ap (λ (i : ℕ). get_or flags i flag) (sym place) ∙ sym (get_or-slice_range flags start stop (k - start) flag (omega arith))
    ∙ ap (λ (fs : List Bool). get_or fs (k - start) flag) copies ∙ get_or-replicate (stop - start) (k - start) flag flag (omega arith) in
    slice_get-get_or flags k flag (omega arith) ∙ ap (λ (f : Bool). Some f) read

-- flags of a range of which as many are true as there are
pub copies-valid : (flags : List Bool) (start stop : ℕ) → start ≤ stop → stop ≤ length flags → stop - start ≤ count_by (λ flag. flag) (slice_range flags start stop)
    → slice_range flags start stop ≡ replicate (stop - start) true
copies-valid flags start stop ordered within many =
    let long = length-slice_range flags start stop ordered within in
    let few = count_by-le-length (λ (flag : Bool). flag) (slice_range flags start stop) in
    sym (all_set (slice_range flags start stop) (omega arith)) ∙ ap (λ (n : ℕ). replicate n true) long

-- flags of a range of which none is true
pub copies-null : (flags : List Bool) (start stop : ℕ) → start ≤ stop → stop ≤ length flags → count_by (λ flag. flag) (slice_range flags start stop) ≡ 0
    → slice_range flags start stop ≡ replicate (stop - start) false
copies-null flags start stop ordered within none =
    sym (none_set (slice_range flags start stop) none) ∙ ap (λ (n : ℕ). replicate n false) (length-slice_range flags start stop ordered within)

-- a flag of a range is true where one at least is
pub some-valid : (flags : List Bool) (start stop : ℕ) → start ≤ stop → stop ≤ length flags → 0 < count_by (λ flag. flag) (slice_range flags start stop)
    → (k : ℕ) × (start ≤ k) × (k < stop) × (slice_get flags k ≡ Some true)
some-valid flags start stop ordered within some = Contains-from_range flags start stop true ordered within (Contains-true (slice_range flags start stop) some)

-- a flag of a range is false where not all are true
pub some-null : (flags : List Bool) (start stop : ℕ) → start ≤ stop → stop ≤ length flags → count_by (λ flag. flag) (slice_range flags start stop) < stop - start
    → (k : ℕ) × (start ≤ k) × (k < stop) × (slice_get flags k ≡ Some false)
some-null flags start stop ordered within few =
    let long = length-slice_range flags start stop ordered within in
    Contains-from_range flags start stop false ordered within (Contains-false (slice_range flags start stop) (omega arith))

-- each place has an item
some-item : {S : Type 0} (items : List S) (k : ℕ) → k < length items → (item : S) × (slice_get items k ≡ Some item)
some-item [] k within = absurd (omega arith)
some-item (x ∷ items) zero within = (x, refl)
some-item (x ∷ items) (suc k) within = some-item items k (omega arith)

-- a row whose flag is true is not null
pub some-here : {S : Type 0} (value : S → FlatValue) (items : List S) (flags : List Bool) (k : ℕ) → k < length items → slice_get flags k ≡ Some true
    → (seen : Value) × (slice_get (flagged_rows value items flags) k ≡ Some (Some seen))
some-here value items flags k within flag =
    let item = some-item items k within in
    (Single (value item.0), row-at value items flags k (Some item.0) (optionals-at items flags k item.0 true item.1 flag))
