-- The bytes of rows, one after the other.
use Rattle.std.proofs.Common.{◌≡◌, ◌≤◌, ◌<◌, ◌+◌, ◌-◌, ◌∙◌, ℕ, List, [], ◌∷◌, ◌++◌, Option, None, length, take, drop, get_or, map, pos, ℤ, set, ◌≢◌, ⊎_elim, sym, ap, subst, arith}
use Rattle.std.specs.Prelude.{slice_range, slice_index_or, slice_set}
use Rattle.std.proofs.lemmas.Bool.{cases_eq}
use Rattle.std.proofs.lemmas.Grind.{flat_map-append, get_or-set_at}
use Rattle.std.proofs.lemmas.List.{append-nil, length-append, length-map, map-set, get_or-set_other, take-take}
use Rattle.std.proofs.lemmas.List.Folds.{length-flat_map-take}
use Rattle.std.proofs.lemmas.Option.{slice_get-get_or}
use Rattle.std.proofs.Math.Seq.{take-append-add, take-append_seam}
use Rattle.column_base.proofs.Ranges.{get_or-slice_range, length-slice_range}
use Rattle.column_ops.proofs.RowRanges.{slice_range-next}
use Rattle.column_core.specs.Value.{Value}
use Rattle.c_columns.specs.Reads.{bytes_of, bytes_of_rows}

-- of one row more
pub bytes_more : (rows : List (Option Value)) (start stop : ℕ) → start ≤ stop → stop < length rows
    → bytes_of_rows (slice_range rows start (stop + 1)) ≡ bytes_of_rows (slice_range rows start stop) ++ bytes_of (slice_index_or rows stop None)
bytes_more rows start stop order within =
    let row = slice_index_or rows stop None in
    ap bytes_of_rows (slice_range-next rows start stop row order (slice_get-get_or rows stop None within))
    ∙ flat_map-append bytes_of (slice_range rows start stop) (row ∷ [])
    ∙ ap (λ (l : List ℕ). bytes_of_rows (slice_range rows start stop) ++ l) (append-nil (bytes_of row))

-- how many they are
pub size_more : (rows : List (Option Value)) (start stop : ℕ) → start ≤ stop → stop < length rows
    → length (bytes_of_rows (slice_range rows start (stop + 1))) ≡ length (bytes_of_rows (slice_range rows start stop)) + length (bytes_of (slice_index_or rows stop None))
size_more rows start stop order within = ap length (bytes_more rows start stop order within) ∙ length-append (bytes_of_rows (slice_range rows start stop)) (bytes_of (slice_index_or rows stop None))

-- the bytes of a row have room where those of all rows have
pub has_room : (rows : List (Option Value)) (start row stop : ℕ) → start ≤ row → row < stop → stop ≤ length rows
    → length (bytes_of_rows (slice_range rows start row)) + length (bytes_of (slice_index_or rows row None)) ≤ length (bytes_of_rows (slice_range rows start stop))
has_room rows start row stop order below within =
    let all = slice_range rows start stop in
    let count : length all ≡ stop - start = length-slice_range rows start stop (omega (arith, order, below)) within in
    let front : take (row - start) all ≡ slice_range rows start row = take-take (row - start) (stop - start) (drop start rows) (omega (arith, order, below)) in
    let at : start + (row - start) ≡ row = omega (arith, order) in
    let this : get_or all (row - start) None ≡ slice_index_or rows row None = get_or-slice_range rows start stop (row - start) None (omega (arith, order, below)) ∙ ap (λ (k : ℕ). get_or rows k None) at in
    let room = length-flat_map-take bytes_of all (row - start) None (omega (arith, count, order, below)) in
    subst (λ (l : List (Option Value)). length (bytes_of_rows l) + length (bytes_of (slice_index_or rows row None)) ≤ length (bytes_of_rows all)) front
    (subst (λ (o : Option Value). length (bytes_of_rows (take (row - start) all)) + length (bytes_of o) ≤ length (bytes_of_rows all)) this room)

-- one number more, where those before it are as they should be
pub next_offset : {T : Type 0} (number : T → ℤ) (f : ℕ → ℤ) (items : List T) (start row : ℕ) (item : T) → start ≤ row → row - start + 1 < length items
    → ((k : ℕ) → k < row - start + 1 → slice_index_or (map number items) k (pos 0) ≡ f k) → number item ≡ f (row - start + 1)
    → (k : ℕ) → k < row + 1 - start + 1 → slice_index_or (map number (slice_set items (row - start + 1) item)) k (pos 0) ≡ f k
next_offset number f items start row item order within so_far is k below =
    let set : slice_index_or (map number (slice_set items (row - start + 1) item)) k (pos 0) ≡ get_or (set (map number items) (row - start + 1) (number item)) k (pos 0) = ap (λ (l : List ℤ). get_or l k (pos 0)) (map-set number items (row - start + 1) item) in
    ⊎_elim
    (λ (same : k ≡ row - start + 1). set ∙ get_or-set_at (map number items) (row - start + 1) k (number item) (pos 0) same (subst (λ (n : ℕ). row - start + 1 < n) (sym (length-map items number)) within) ∙ is ∙ ap f (sym same))
    (λ (other : k ≢ row - start + 1). set ∙ get_or-set_other (map number items) (row - start + 1) k (number item) (pos 0) other ∙ so_far k (omega (arith, order, below, other)))
    (cases_eq k (row - start + 1))

-- before the first row there are 0 bytes
pub none_yet : (rows : List (Option Value)) (start : ℕ) → bytes_of_rows (slice_range rows start start) ≡ []
none_yet rows start = let none : start - start ≡ 0 = omega arith in ap (λ (n : ℕ). bytes_of_rows (take n (drop start rows))) none

-- the first offset
pub first_offset : {T : Type 0} (number : T → ℤ) (f : ℕ → ℤ) (items : List T) (start : ℕ) (item : T) → 0 < length items → number item ≡ f 0
    → (k : ℕ) → k < start - start + 1 → slice_index_or (map number (slice_set items 0 item)) k (pos 0) ≡ f k
first_offset number f items start item some is k below =
    let first : k ≡ 0 = omega (arith, below) in
    ap (λ (l : List ℤ). get_or l k (pos 0)) (map-set number items 0 item)
    ∙ get_or-set_at (map number items) 0 k (number item) (pos 0) first (subst (λ (n : ℕ). 0 < n) (sym (length-map items number)) some) ∙ is ∙ ap f (sym first)

-- how many bytes the first rows from a row on have
abbrev pub offset_after : List (Option Value) → ℕ → ℕ → ℤ
offset_after rows start k = pos (length (bytes_of_rows (slice_range rows start (start + k))))

-- none before the first row
pub offset_none : (rows : List (Option Value)) (start : ℕ) → pos 0 ≡ offset_after rows start 0
offset_none rows start = let same : start + 0 ≡ start = omega arith in sym (ap (λ (n : ℕ). pos (length (bytes_of_rows (slice_range rows start n)))) same ∙ ap (λ (l : List ℕ). pos (length l)) (none_yet rows start))

-- those after one row more
pub offset_more : (rows : List (Option Value)) (start row : ℕ) (size : ℕ) → start ≤ row → size ≡ length (bytes_of_rows (slice_range rows start (row + 1))) → pos size ≡ offset_after rows start (row - start + 1)
offset_more rows start row size order is = let at : row + 1 ≡ start + (row - start + 1) = omega (arith, order) in ap pos (is ∙ ap (λ (n : ℕ). length (bytes_of_rows (slice_range rows start n))) at)

-- bytes that are written after others
pub written_behind : (at : ℕ) (bytes front more rest : List ℕ) → front ≡ take at bytes → length front ≡ at → take (at + length more) (front ++ (more ++ rest)) ≡ take at bytes ++ more
written_behind at bytes front more rest is long =
    ap (λ (n : ℕ). take (n + length more) (front ++ (more ++ rest))) (sym long)
    ∙ take-append-add front (more ++ rest) (length more)
    ∙ ap (λ (l : List ℕ). front ++ l) (take-append_seam more rest) ∙ ap (λ (l : List ℕ). l ++ more) is
