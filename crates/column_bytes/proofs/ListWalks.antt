-- A walk over the rows of lists sees what each row shows.
use Rattle.std.proofs.Common.{◌≡◌, ℕ, zero, suc, ℤ, pos, ◌+◌, ◌-◌, ◌*◌, ◌/◌, ◌^◌, ◌<◌, ◌≤◌, Bool, false, List, [], ◌∷◌, ◌++◌, IsTrue, length, map, take, drop, refl, sym, ap, subst, ◌∙◌, arith}
use Rattle.std.specs.Prelude.{slice_index, slice_index_or, slice_range}
use Rattle.std.specs.Int.{to_le_bytes, w64}
use Rattle.std.specs.List.{All}
use Rattle.std.proofs.lemmas.Int.{ints}
use Rattle.std.proofs.Math.Seq.{drop-append-add, take-append_seam}
use Rattle.std.proofs.lemmas.List.{length-map, get_or-map}
use Rattle.std.proofs.lemmas.List.Elements.{All-get_or}
use Rattle.column_base.specs.declared.dtype.PType.{PType}
use Rattle.column_base.specs.declared.dtype.PType.TheVariants.{U64}
use Rattle.column_base.specs.Types.{HasNumber}
use Rattle.column_fields.specs.BitBytes.{bit_bytes, bits_from}
use Rattle.column_fields.specs.NumberBytes.{number_bytes, numbers_bytes}
use Rattle.column_fields.proofs.BitReading.{bits_back, length-bit_bytes}
use Rattle.column_fields.proofs.NumberSame.{length-number_bytes, length-numbers_bytes, number_same}
use Rattle.runend_windows.specs.Window.{IsRunAt, run_at}
use Rattle.runend_windows.proofs.RunAt.{run_at-from_IsRunAt}
use Rattle.runend_array.specs.Lists.{Index, PlainIndex, RunIndex, RowValidityForm, ByRows, ByRuns, Lists}
use Rattle.runend_array.proofs.ListWalks.{within-stretch}
use Rattle.column_bytes.specs.Bytes.{index_form}
use Rattle.column_bytes.specs.ListViews.{AreFlagsReadTo, HasNumberBytes, IsIndexReadTo}
use Rattle.column_bytes.specs.ListWalks.{AreReadTo, FitsRow, IsStep}
use Rattle.column_bytes.specs.Stored.{AreNumbers}
use Rattle.column_bytes.specs.declared.list_walks.Cursors.{Cursors}
use Rattle.column_bytes.specs.declared.list_walks.Step.{Step}
use Rattle.column_bytes.specs.declared.run_cursors.RunCursor.{RunCursor}
use Rattle.column_bytes.proofs.RunCursors.{read_later}

-- ---- a later row

index_later : (index : Index) (p q : ℕ) (c : RunCursor) → p ≤ q → IsIndexReadTo index p c → IsIndexReadTo index q c
index_later (PlainIndex numbers) p q c le h = tt
index_later (RunIndex t ends numbers offset count) p q c le h = read_later ends (offset + p) (offset + q) c (omega (arith, le)) h

flags_later : (form : RowValidityForm) (p q : ℕ) (c : RunCursor) → p ≤ q → AreFlagsReadTo form p c → AreFlagsReadTo form q c
flags_later (ByRows form) p q c le h = tt
flags_later (ByRuns t ends bits offset count) p q c le h = read_later ends (offset + p) (offset + q) c (omega (arith, le)) h

pub all_later : (lists : Lists) (p q : ℕ) (c : Cursors) → p ≤ q → AreReadTo lists p c → AreReadTo lists q c
all_later lists p q c le h = record {
  flags = flags_later lists.validity p q c.flags le h.flags;
  offsets = index_later lists.offsets p q c.offsets le h.offsets;
  sizes = index_later lists.sizes p q c.sizes le h.sizes;
}

-- ---- a number at its place

front_bytes : (t : PType) (n : ℕ) (ns : List ℕ) → numbers_bytes t (map (λ (x : ℕ). pos x) (n ∷ ns)) ≡ number_bytes t (pos n) ++ numbers_bytes t (map (λ (x : ℕ). pos x) ns)
unfolding numbers_bytes
front_bytes t n ns = refl

word_at : (ns : List ℕ) (place : ℕ) → place < length ns → take 8 (drop (place * 8) (numbers_bytes U64 (map (λ (x : ℕ). pos x) ns))) ≡ number_bytes U64 (pos (slice_index ns place))
word_at [] place lt = absurd (omega (arith, lt))
word_at (n ∷ ns) zero lt =
    let long : length (number_bytes U64 (pos n)) ≡ 8 = length-number_bytes U64 (pos n) in
    let others : List ℕ = numbers_bytes U64 (map (λ (x : ℕ). pos x) ns) in
    ap (take 8) (front_bytes U64 n ns) ∙ ap (λ (k : ℕ). take k (number_bytes U64 (pos n) ++ others)) (sym long) ∙ take-append_seam (number_bytes U64 (pos n)) others
word_at (n ∷ ns) (suc place) lt =
    let first : List ℕ = number_bytes U64 (pos n) in
    let others : List ℕ = numbers_bytes U64 (map (λ (x : ℕ). pos x) ns) in
    let long : length first ≡ 8 = length-number_bytes U64 (pos n) in
    let more : suc place * 8 ≡ length first + place * 8 = omega (arith, long) in
    ap (λ (k : ℕ). take 8 (drop k (numbers_bytes U64 (map (λ (x : ℕ). pos x) (n ∷ ns))))) more ∙ ap (λ (x : List ℕ). take 8 (drop (length first + place * 8) x)) (front_bytes U64 n ns) ∙ ap (take 8) (drop-append-add first others (place * 8)) ∙ word_at ns place (omega (arith, lt))

number_fits : (ns : List ℕ) (place : ℕ) → All (λ z. HasNumber U64 z) (map (λ (x : ℕ). pos x) ns) → place < length ns → HasNumber U64 (pos (slice_index ns place))
number_fits ns place fit lt =
    subst (λ (z : ℤ). HasNumber U64 z) (get_or-map (λ (x : ℕ). pos x) ns place 0 (pos 0) lt) (All-get_or (λ z. HasNumber U64 z) (map (λ (x : ℕ). pos x) ns) place (pos 0) (omega (arith, lt, length-map ns (λ (x : ℕ). pos x))) fit)

pos_same : (m n : ℕ) → pos m ≡ pos n → m ≡ n
pos_same m n e = cc

-- the word that is read at a place is the number there
pub number_read : (ns bytes : List ℕ) (place word : ℕ) (part : List ℕ) → AreNumbers (index_form ns) → HasNumberBytes ns bytes → place < length ns → word < 2 ^ 64 → part ≡ slice_range bytes (place * 8) (place * 8 + 8) → to_le_bytes w64 word ≡ part → word ≡ slice_index ns place
number_read ns bytes place word part stored spelt lt small p w =
    let n : ℕ = slice_index ns place in
    let eight : place * 8 + 8 - place * 8 ≡ 8 = omega arith in
    let here : part ≡ number_bytes U64 (pos n) = p ∙ ap (λ (k : ℕ). take k (drop (place * 8) bytes)) eight ∙ ap (λ (x : List ℕ). take 8 (drop (place * 8) x)) (sym spelt) ∙ word_at ns place lt in
    let typed : HasNumber U64 (pos word) = (omega (arith, ints), omega (arith, ints, small)) in
    pos_same word n (number_same U64 (pos word) (pos n) typed (number_fits ns place stored.fit lt) (w ∙ here))

pub bytes_counted : (ns bytes : List ℕ) → HasNumberBytes ns bytes → length bytes ≡ length ns * 8
bytes_counted ns bytes spelt = ap length (sym spelt) ∙ length-numbers_bytes U64 (map (λ (x : ℕ). pos x) ns) ∙ ap (λ (k : ℕ). k * 8) (length-map ns (λ (x : ℕ). pos x))

-- ---- the run of a row

pub number_in_run : (ends numbers : List ℕ) (offset row run : ℕ) → IsRunAt ends (offset + row) run → slice_index numbers run ≡ slice_index numbers (run_at ends (offset + row))
number_in_run ends numbers offset row run at = ap (slice_index numbers) (sym (run_at-from_IsRunAt ends (offset + row) run at))

pub bit_in_run : (ends : List ℕ) (bits : List Bool) (items : List ℕ) (offset row run : ℕ) → bit_bytes bits ≡ items → IsRunAt ends (offset + row) run → slice_index_or (bits_from (length bits) items) run false ≡ slice_index_or bits (run_at ends (offset + row)) false
bit_in_run ends bits items offset row run spelt at =
    ap (λ (x : List ℕ). slice_index_or (bits_from (length bits) x) run false) (sym spelt) ∙ ap (λ (x : List Bool). slice_index_or x run false) (bits_back bits) ∙ ap (λ (n : ℕ). slice_index_or bits n false) (sym (run_at-from_IsRunAt ends (offset + row) run at))

pub bits_counted : (bits : List Bool) (items : List ℕ) → bit_bytes bits ≡ items → length items ≡ (length bits + 7) / 8
bits_counted bits items spelt = ap length (sym spelt) ∙ length-bit_bytes bits

-- ---- a step

pub walked : (lists : Lists) (rows row : ℕ) (step : Step) → ((k : ℕ) → k < row → k < rows → FitsRow lists k) → row < rows → IsStep lists rows row step → IsTrue step.fits → (k : ℕ) → k < step.stop → k < rows → FitsRow lists k
walked lists rows row step before lt s fits k below within =
    within-stretch lists rows row (λ j less. before j less (omega (arith, less, lt))) (s.fits.0 fits) k (omega (arith, s.like, below, within))
