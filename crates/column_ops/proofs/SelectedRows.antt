-- Lemmas on rows that bits select: they are the rows at the places of the true bits.
use Rattle.std.proofs.Common.{◌≡◌, ◌∙◌, ℕ, zero, suc, ◌+◌, ◌-◌, ◌<◌, ◌≤◌, List, [], ◌∷◌, ◌++◌, Bool, true, false, cond, Option, Some, None, length, map, get_or, drop, replicate, arith, ap, sym, subst, refl, add-one}
use Rattle.std.specs.Prelude.{count_by, filter, slice_get, slice_index_or, All, is_some, unwrap_or}
use Rattle.std.specs.List.{range_with_len}
use Rattle.std.proofs.lemmas.List.{get_or-map, length-map, length-replicate}
use Rattle.std.proofs.lemmas.List.Elements.{All-cons, All-head, All-nil, All-tail}
use Rattle.column_base.specs.Bits.{set_indices_of}
use Rattle.column_base.specs.declared.dtype.Nullability.TheVariants.{Nullable}
use Rattle.column_base.specs.declared.validity.Validity.{Validity}
use Rattle.column_base.specs.declared.validity.Validity.TheVariants.{NonNullable, AllValid, AllInvalid, Bits}
use Rattle.column_base.specs.ValidityForm.{ValidityForm, NeverNull, NoneNull, AllNull, ByBits, flags, nullability_in}
use Rattle.column_base.specs.Validity.{form_of}
use Rattle.column_base.specs.Mask.{mask_bits}
use Rattle.column_base.specs.declared.mask.Mask.{Mask}
use Rattle.column_base.specs.declared.mask.Mask.TheVariants.{AllTrue, AllFalse, Values}
use Rattle.column_base.proofs.BitLists.{count_by-true, count_by-false}
use Rattle.column_core.specs.Optionals.{optionals}
use Rattle.column_ops.specs.Filter.{filter_rows}
use Rattle.column_ops.specs.Written.{IsValidityOf}
use Rattle.column_ops.proofs.Blanked.{items_or, optionals-valid}
use Rattle.column_ops.proofs.Made.{filter_rows-map}
use Rattle.column_ops.proofs.TakenRows.{flags-of_rows, items-of_valid}

-- the places from one on at which a bit is true, in ascending order
abbrev set_indices_from : ℕ → List Bool → List ℕ
set_indices_from from bits = filter (λ i. slice_index_or bits i false) (range_with_len from (length bits - from))

range-next : (from n k : ℕ) → n ≡ k + 1 → range_with_len from n ≡ from ∷ range_with_len (from + 1) k
range-next from n k h = rw (h, add-one k) refl

drop-none : {B : Type 0} (xs : List B) (k : ℕ) → length xs ≤ k → drop k xs ≡ []
drop-none [] zero h = refl
drop-none [] (suc k) h = refl
drop-none (x ∷ xs) zero h = absurd (omega arith)
drop-none (x ∷ xs) (suc k) h = drop-none xs k (omega arith)

drop-next : {B : Type 0} (xs : List B) (k : ℕ) (d : B) → k < length xs → drop k xs ≡ get_or xs k d ∷ drop (k + 1) xs
drop-next {B = B} xs k d h = rw add-one (next xs k h)
  where
    next : (xs : List B) (k : ℕ) → k < length xs → drop k xs ≡ get_or xs k d ∷ drop (suc k) xs
    next [] k h = absurd (omega arith)
    next (x ∷ xs) zero h = refl
    next (x ∷ xs) (suc k) h = next xs k (omega arith)

-- the places from one on begin with it where its bit is true
places-next : (bits : List Bool) (from : ℕ) → from < length bits → set_indices_from from bits ≡ cond (get_or bits from false) (from ∷ set_indices_from (from + 1) bits) (set_indices_from (from + 1) bits)
places-next bits from h =
    let next : length bits - from ≡ length bits - (from + 1) + 1 = omega arith in
    rw (range-next from (length bits - from) (length bits - (from + 1)) next) refl

module _ {B : Type 0} (bits : List Bool) (rows : List (Option B)) (long : length bits ≡ length rows) where
  abbrev row_at : ℕ → Option B
  row_at i = get_or rows i None

  rows-from : (n from : ℕ) → from + n ≡ length bits → map row_at (set_indices_from from bits) ≡ filter_rows (drop from bits) (drop from rows)
  rows-from zero from h =
      let none : length bits - from ≡ 0 = omega arith in
      rw (none, drop-none bits from (omega arith)) refl
  rows-from (suc n) from h =
      let rest = rows-from n (from + 1) (omega arith) in
      rw (places-next bits from (omega arith), drop-next bits from false (omega arith), drop-next rows from None (omega arith)) (one (get_or bits from false) rest)
    where
      one : (b : Bool) → map row_at (set_indices_from (from + 1) bits) ≡ filter_rows (drop (from + 1) bits) (drop (from + 1) rows)
          → map row_at (cond b (from ∷ set_indices_from (from + 1) bits) (set_indices_from (from + 1) bits)) ≡ filter_rows (b ∷ drop (from + 1) bits) (row_at from ∷ drop (from + 1) rows)
      one true rest = ap (λ (xs : List (Option B)). row_at from ∷ xs) rest
      one false rest = rest

  pub rows-places : map row_at (set_indices_of bits) ≡ filter_rows bits rows
  rows-places = let all : length bits - 0 ≡ length bits = omega arith in rw all at (rows-from (length bits) 0 (omega arith))

-- they are places of bits
within-from : (bits : List Bool) (n from : ℕ) → from + n ≡ length bits → All (λ i. i < length bits) (set_indices_from from bits)
within-from bits zero from h =
    let none : length bits - from ≡ 0 = omega arith in
    rw none (All-nil (λ i. i < length bits))
within-from bits (suc n) from h =
    let rest = within-from bits n (from + 1) (omega arith) in
    rw (places-next bits from (omega arith)) (one (get_or bits from false) (omega arith) rest)
  where
    one : (b : Bool) → from < length bits → All (λ i. i < length bits) (set_indices_from (from + 1) bits) → All (λ i. i < length bits) (cond b (from ∷ set_indices_from (from + 1) bits) (set_indices_from (from + 1) bits))
    one true here rest = All-cons (λ i. i < length bits) from (set_indices_from (from + 1) bits) here rest
    one false here rest = rest

pub places-within : (bits : List Bool) → All (λ i. i < length bits) (set_indices_of bits)
places-within bits = let all : length bits - 0 ≡ length bits = omega arith in rw all at (within-from bits (length bits) 0 (omega arith))

-- as many rows are selected as bits are true
pub length-filter_rows : {B : Type 0} (bits : List Bool) (xs : List B) → length bits ≡ length xs → length (filter_rows bits xs) ≡ count_by (λ b. b) bits
length-filter_rows [] xs long = refl
length-filter_rows (b ∷ bits) [] long = cc
length-filter_rows (true ∷ bits) (x ∷ xs) long = omega (arith, length-filter_rows bits xs (omega arith), count_by-true bits)
length-filter_rows (false ∷ bits) (x ∷ xs) long = omega (arith, length-filter_rows bits xs (omega arith), count_by-false bits)

-- and there are as many places
pub length-places : (bits : List Bool) → length (set_indices_of bits) ≡ count_by (λ b. b) bits
length-places bits =
    let rows = map (λ (b : Bool). Some b) bits in
    let long : length bits ≡ length rows = sym (length-map bits (λ (b : Bool). Some b)) in
    sym (length-map (set_indices_of bits) (λ i. get_or rows i None)) ∙ ap length (rows-places bits rows long) ∙ length-filter_rows bits rows long

same-items : {B : Type 0} (xs ys : List B) → map (λ x. Some x) xs ≡ map (λ x. Some x) ys → xs ≡ ys
same-items [] [] same = refl
same-items [] (y ∷ ys) same = cc
same-items (x ∷ xs) [] same = cc
same-items (x ∷ xs) (y ∷ ys) same =
    let head : x ≡ y = cc in
    let rest : map (λ z. Some z) xs ≡ map (λ z. Some z) ys = cc in
    ap (λ z. z ∷ xs) head ∙ ap (λ zs. y ∷ zs) (same-items xs ys rest)

-- the items at the places of the true bits are those that the bits select
pub items-places : {B : Type 0} (bits : List Bool) (items kept : List B) → length bits ≡ length items → map (λ x. Some x) kept ≡ map (λ i. get_or (map (λ x. Some x) items) i None) (set_indices_of bits)
    → kept ≡ filter_rows bits items
items-places bits items kept long same =
    same-items kept (filter_rows bits items) (same ∙ rows-places bits (map (λ x. Some x) items) (long ∙ sym (length-map items (λ x. Some x))) ∙ filter_rows-map (λ x. Some x) bits items)

-- all rows, where each bit is true
pub filter_rows-all : {B : Type 0} (n : ℕ) (rows : List B) → n ≡ length rows → filter_rows (replicate n true) rows ≡ rows
filter_rows-all zero [] long = refl
filter_rows-all zero (x ∷ rows) long = cc
filter_rows-all (suc n) [] long = cc
filter_rows-all (suc n) (x ∷ rows) long = ap (λ rest. x ∷ rest) (filter_rows-all n rows (omega arith))

-- none, where each is false
pub filter_rows-none : {B : Type 0} (n : ℕ) (rows : List B) → filter_rows (replicate n false) rows ≡ []
filter_rows-none zero rows = refl
filter_rows-none (suc n) [] = refl
filter_rows-none (suc n) (x ∷ rows) = filter_rows-none n rows

-- rows that are all valid
pub flags-valid : {B : Type 0} (items : List B) → map is_some (map (λ x. Some x) items) ≡ replicate (length items) true
flags-valid [] = refl
flags-valid (x ∷ items) = ap (λ rest. true ∷ rest) (flags-valid items)

selected-valid : {B : Type 0} (bits : List Bool) (items : List B) → map is_some (filter_rows bits (optionals items (replicate (length items) true))) ≡ replicate (length (filter_rows bits (optionals items (replicate (length items) true)))) true
selected-valid bits items =
    rw (optionals-valid items, filter_rows-map (λ x. Some x) bits items, length-map (filter_rows bits items) (λ x. Some x)) (flags-valid (filter_rows bits items))

-- what is selected of rows that are never null
pub IsValidityOf-selected_never : {B : Type 0} (bits : List Bool) (items : List B) (form : ValidityForm) → form ≡ NeverNull
    → IsValidityOf (map is_some (filter_rows bits (optionals items (flags form (length items))))) (nullability_in form) (length (filter_rows bits (optionals items (flags form (length items))))) NeverNull
IsValidityOf-selected_never bits items NeverNull same = record { shown = sym (selected-valid bits items); fits = tt; normal = tt; some = λ wrong. cc; nullability = refl }
IsValidityOf-selected_never bits items NoneNull same = cc
IsValidityOf-selected_never bits items AllNull same = cc
IsValidityOf-selected_never bits items (ByBits marks) same = cc

-- and of rows of which none is null
pub IsValidityOf-selected_none : {B : Type 0} (bits : List Bool) (items : List B) (form : ValidityForm) → form ≡ NoneNull
    → IsValidityOf (map is_some (filter_rows bits (optionals items (flags form (length items))))) (nullability_in form) (length (filter_rows bits (optionals items (flags form (length items))))) NoneNull
IsValidityOf-selected_none bits items NoneNull same = record { shown = sym (selected-valid bits items); fits = tt; normal = tt; some = λ wrong. cc; nullability = refl }
IsValidityOf-selected_none bits items NeverNull same = cc
IsValidityOf-selected_none bits items AllNull same = cc
IsValidityOf-selected_none bits items (ByBits marks) same = cc

-- the type of all other validities has null
pub nullable-other : {A : Type 0} (validity : Validity A) → ¬ (validity ≡ NonNullable) → nullability_in (form_of validity) ≡ Nullable
nullable-other NonNullable other = absurd (other refl)
nullable-other AllValid other = refl
nullable-other AllInvalid other = refl
nullable-other (Bits bits) other = refl

-- the items that are selected of rows that are all valid
pub items-selected : {B : Type 0} (blank : B) (bits : List Bool) (items : List B) (marks : List Bool) → marks ≡ replicate (length items) true
    → filter_rows bits items ≡ map (λ row. unwrap_or row blank) (filter_rows bits (optionals items marks))
items-selected blank bits items marks all =
    sym (items-of_valid blank (filter_rows bits items)) ∙ ap (map (λ row. unwrap_or row blank)) (sym (filter_rows-map (λ x. Some x) bits items) ∙ sym (ap (filter_rows bits) (ap (optionals items) all ∙ optionals-valid items)))

all-middle : {B : Type 0} (P : B → Type 0) (xs ys : List B) (x : B) → All P (xs ++ x ∷ ys) → P x
all-middle P [] ys x all = All-head P x ys all
all-middle P (y ∷ xs) ys x all = all-middle P xs ys x (All-tail P y (xs ++ x ∷ ys) all)

shorter : {B : Type 0} (xs ys : List B) (x : B) → length xs < length (xs ++ x ∷ ys)
shorter [] ys x = omega arith
shorter (y ∷ xs) ys x = let rest = shorter xs ys x in omega arith

-- the place that comes is one of the bits, and there is room for it
pub place-next : (bits : List Bool) (yielded left rest : List ℕ) (row : ℕ) → set_indices_of bits ≡ yielded ++ left → left ≡ row ∷ rest → (row < length bits) × (length yielded < count_by (λ b. b) bits)
place-next bits yielded left rest row split step =
    let whole : set_indices_of bits ≡ yielded ++ row ∷ rest = split ∙ ap (λ places. yielded ++ places) step in
    let counted : length (set_indices_of bits) ≡ length (yielded ++ row ∷ rest) = ap length whole in (
      all-middle (λ i. i < length bits) yielded rest row (subst (λ (places : List ℕ). All (λ i. i < length bits) places) whole (places-within bits)),
      omega (arith, counted, length-places bits, shorter yielded rest row),
    )

append-one : {B : Type 0} (xs ys : List B) (x : B) → xs ++ x ∷ ys ≡ (xs ++ x ∷ []) ++ ys
append-one [] ys x = refl
append-one (y ∷ xs) ys x = ap (λ rest. y ∷ rest) (append-one xs ys x)

append-none : {B : Type 0} (xs : List B) → xs ++ [] ≡ xs
append-none [] = refl
append-none (x ∷ xs) = ap (λ rest. x ∷ rest) (append-none xs)

-- one place has come
pub split-next : (bits : List Bool) (yielded left rest : List ℕ) (row : ℕ) → set_indices_of bits ≡ yielded ++ left → left ≡ row ∷ rest → set_indices_of bits ≡ (yielded ++ row ∷ []) ++ rest
split-next bits yielded left rest row split step = split ∙ ap (λ places. yielded ++ places) step ∙ append-one yielded rest row

-- all places have come
pub split-end : (bits : List Bool) (yielded left : List ℕ) → set_indices_of bits ≡ yielded ++ left → left ≡ [] → yielded ≡ set_indices_of bits
split-end bits yielded left split none = sym (split ∙ ap (λ places. yielded ++ places) none ∙ append-none yielded)

-- the item at the place that came
pub item-here : {B : Type 0} (items : List B) (row : ℕ) (item : B) → row < length items → item ≡ get_or items row item → Some item ≡ get_or (map (λ x. Some x) items) row None
item-here items row item within read = ap (λ x. Some x) read ∙ sym (get_or-map (λ x. Some x) items row item None within)

-- a mask that selects all rows
pub mask-all : {A B : Type 0} (mask : Mask A) (count : ℕ) (rows : List B) → mask ≡ AllTrue count → length (mask_bits mask) ≡ length rows → filter_rows (mask_bits mask) rows ≡ rows
mask-all (AllTrue n) count rows same long = filter_rows-all n rows (sym (length-replicate n true) ∙ long)
mask-all (AllFalse n) count rows same long = cc
mask-all (Values bits) count rows same long = cc

-- and one that selects none
pub mask-none : {A B : Type 0} (mask : Mask A) (count : ℕ) (rows : List B) → mask ≡ AllFalse count → filter_rows (mask_bits mask) rows ≡ []
mask-none (AllTrue n) count rows same = cc
mask-none (AllFalse n) count rows same = filter_rows-none n rows
mask-none (Values bits) count rows same = cc

-- the bits of a mask that is alike in all rows
pub mask_bits-all : {A : Type 0} (mask : Mask A) (count n : ℕ) → mask ≡ AllTrue count → length (mask_bits mask) ≡ n → mask_bits mask ≡ replicate n true
mask_bits-all (AllTrue k) count n same long = ap (λ m. replicate m true) (sym (length-replicate k true) ∙ long)
mask_bits-all (AllFalse k) count n same long = cc
mask_bits-all (Values bits) count n same long = cc

pub mask_bits-none : {A : Type 0} (mask : Mask A) (count n : ℕ) → mask ≡ AllFalse count → length (mask_bits mask) ≡ n → mask_bits mask ≡ replicate n false
mask_bits-none (AllTrue k) count n same long = cc
mask_bits-none (AllFalse k) count n same long = ap (λ m. replicate m false) (sym (length-replicate k false) ∙ long)
mask_bits-none (Values bits) count n same long = cc

-- the mark at the place that came
pub mark-here : (marks : List Bool) (row : ℕ) (mark : Bool) → slice_get marks row ≡ Some mark → Some mark ≡ get_or (map (λ x. Some x) marks) row None
mark-here [] row mark here = cc
mark-here (b ∷ marks) zero mark here = sym here
mark-here (b ∷ marks) (suc row) mark here = mark-here marks row mark here

-- the item there, with a blank one where its mark is false
pub valid-here : {B : Type 0} (items : List B) (marks : List Bool) (row : ℕ) (item blank : B) → slice_get items row ≡ Some item → slice_get marks row ≡ Some true → slice_get (items_or items marks blank) row ≡ Some item
valid-here [] marks row item blank here valid = cc
valid-here (x ∷ items) [] row item blank here valid = cc
valid-here (x ∷ items) (true ∷ marks) zero item blank here valid = here
valid-here (x ∷ items) (false ∷ marks) zero item blank here valid = cc
valid-here (x ∷ items) (b ∷ marks) (suc row) item blank here valid = valid-here items marks row item blank here valid

pub null-here : {B : Type 0} (items : List B) (marks : List Bool) (row : ℕ) (blank : B) → row < length items → slice_get marks row ≡ Some false → slice_get (items_or items marks blank) row ≡ Some blank
null-here [] marks row blank within null = absurd (omega arith)
null-here (x ∷ items) [] row blank within null = cc
null-here (x ∷ items) (true ∷ marks) zero blank within null = cc
null-here (x ∷ items) (false ∷ marks) zero blank within null = refl
null-here (x ∷ items) (b ∷ marks) (suc row) blank within null = null-here items marks row blank (omega arith) null

optionals-selected : {B : Type 0} (bits : List Bool) (items : List B) (marks : List Bool) → length bits ≡ length items → length marks ≡ length items
    → optionals (filter_rows bits items) (filter_rows bits marks) ≡ filter_rows bits (optionals items marks)
optionals-selected [] items marks masked marked = refl
optionals-selected (b ∷ bits) [] marks masked marked = cc
optionals-selected (b ∷ bits) (x ∷ items) [] masked marked = cc
optionals-selected (true ∷ bits) (x ∷ items) (true ∷ marks) masked marked = ap (λ rows. Some x ∷ rows) (optionals-selected bits items marks (omega arith) (omega arith))
optionals-selected (true ∷ bits) (x ∷ items) (false ∷ marks) masked marked = ap (λ rows. None ∷ rows) (optionals-selected bits items marks (omega arith) (omega arith))
optionals-selected (false ∷ bits) (x ∷ items) (true ∷ marks) masked marked = optionals-selected bits items marks (omega arith) (omega arith)
optionals-selected (false ∷ bits) (x ∷ items) (false ∷ marks) masked marked = optionals-selected bits items marks (omega arith) (omega arith)

-- items and marks that are selected alike are the selected rows
pub filter_rows-optionals : {B : Type 0} (blank : B) (bits : List Bool) (items : List B) (marks : List Bool) → length bits ≡ length items → length marks ≡ length items
    → items_or (filter_rows bits items) (filter_rows bits marks) blank ≡ map (λ row. unwrap_or row blank) (filter_rows bits (optionals items marks))
filter_rows-optionals blank bits items marks masked marked = ap (map (λ row. unwrap_or row blank)) (optionals-selected bits items marks masked marked)

pub marks-selected : {B : Type 0} (bits : List Bool) (items : List B) (marks : List Bool) → length bits ≡ length items → length marks ≡ length items
    → filter_rows bits marks ≡ map is_some (filter_rows bits (optionals items marks))
marks-selected bits items marks masked marked =
    let long : length (filter_rows bits marks) ≡ length (filter_rows bits items) = length-filter_rows bits marks (masked ∙ sym marked) ∙ sym (length-filter_rows bits items masked) in
    sym (flags-of_rows (filter_rows bits items) (filter_rows bits marks) long) ∙ ap (map is_some) (optionals-selected bits items marks masked marked)
