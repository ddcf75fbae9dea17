-- Numbers that differ from the number before, and rows of them.
use Rattle.std.proofs.Common.{◌≡◌, ◌≢◌, ◌∙◌, ◌-◌, ◌%◌, ◌^◌, ◌<◌, ℕ, ℤ, zero, suc, eqb, w8, take, pos, List, [], ◌∷◌, Bool, true, false, not, cond, Option, Some, None, length, map, replicate, get_or, refl, sym, ap, subst, arith}
use Rattle.std.specs.Prelude.{◌↔◌, option_map, slice_get}
use Rattle.std.specs.Int.{bit_at}
use Rattle.std.specs.declared.cmp.Ordering.{Ordering}
use Rattle.std.proofs.lemmas.Bool.{ne_eqb}
use Rattle.std.proofs.lemmas.List.{get_or-map, length-map, take_all}
use Rattle.std.proofs.lemmas.Option.{get_or_from_slice_get, slice_get-get_or, slice_get-map}
use Rattle.std.proofs.lemmas.Simd.{bit_mask_l, bitmask_splat}
use lib.Lanes.{mask_l, top, zip2}
use Rattle.column_base.specs.Number.{IsNumbered}
use Rattle.column_base.specs.ValidityForm.{ValidityForm, HasLength, flag_at, flags}
use Rattle.column_base.specs.Words.{one_if}
use Rattle.column_base.proofs.ValidityRows.{flags-at}
use Rattle.column_core.specs.PrimitiveForm.{optionals}
use Rattle.column_core.proofs.OptionalRows.{optionals-at, null-at}
use Rattle.runend_windows.specs.Starts.{AreChanges, GoesOn, items_at}
use Rattle.runend_windows.proofs.ValidRuns.{differ-from_ne_of, optionals-all_valid, same-from_ne_of}

-- the first row has none before it
pub first-goes_on : {B : Type 0} (rows : List B) (row : ℕ) → row ≡ 0 → GoesOn rows row
first-goes_on rows row first = subst (λ (k : ℕ). GoesOn rows k) (sym first) refl

-- a bit for each byte that is not 0
abbrev is_other : ℕ → ℕ → Bool
is_other a b = not (eqb a b)

bit-of_byte : (byte : ℕ) → ((◌≡◌ {A = ℕ} (cond (is_other byte 0) 1 0) 0) ↔ (byte ≡ 0))
bit-of_byte zero = ((λ none. refl), (λ same. refl))
bit-of_byte (suc byte) =
    let apart : eqb (suc byte) 0 ≡ false = ne_eqb (suc byte) 0 (λ e. omega arith) in
    rw apart ((λ (one : ◌≡◌ {A = ℕ} 1 0). absurd (omega arith)), (λ same. absurd (omega arith)))

pub nonzero-bit : (bytes : List ℕ) (lane : ℕ) → length bytes ≡ 64 → lane < 64
    → ((bit_at (mask_l (map (top 7) (zip2 (λ a b. cond (is_other a b) 255 0) (take 64 bytes) (replicate 64 0))) % 2 ^ 64) lane ≡ 0) ↔ (get_or bytes lane 0 ≡ 0))
nonzero-bit bytes lane long within =
    let whole : take 64 bytes ≡ bytes = take_all 64 bytes (omega arith) in
    let tests = map (λ x. is_other x 0) bytes in
    let word = bitmask_splat w8 is_other bytes 64 0 long (omega arith) in
    let own = get_or-map (λ x. is_other x 0) bytes lane 0 false (omega arith) in
    rw (whole, word, bit_mask_l tests lane, own) (bit-of_byte (get_or bytes lane 0))

-- a byte that says whether an item is not the item before
pub number-goes_on : {S : Type 0} (eq : S → S → Bool) (cmp : S → S → Ordering) (is_default : S → Type 0) (number : S → ℤ) → IsNumbered eq cmp is_default number
    → (items : List S) (here : ℕ) (before item : S) (differs : Bool) → slice_get items (here - 1) ≡ Some before → slice_get items here ≡ Some item
    → differs ≡ not (eq item before) → ((one_if differs ≡ 0) ↔ GoesOn (map number items) here)
number-goes_on eq cmp is_default number law items here before item differs last own told = decide differs told
  where
    left : slice_get (map number items) (here - 1) ≡ Some (number before)
    left = slice_get-map number items (here - 1) ∙ ap (option_map number) last

    right : slice_get (map number items) here ≡ Some (number item)
    right = slice_get-map number items here ∙ ap (option_map number) own

    decide : (b : Bool) → b ≡ not (eq item before) → ((one_if b ≡ 0) ↔ GoesOn (map number items) here)
    decide true told =
        let differ : number before ≢ number item = differ-from_ne_of eq cmp is_default number law item before true told refl in (
          (λ one. absurd (omega arith)),
          (λ goes.
              let both : Some (number before) ≡ Some (number item) = sym left ∙ goes ∙ right in
              let same : number before ≡ number item = cc in
              absurd (differ same)),
        )
    decide false told =
        let same : number item ≡ number before = same-from_ne_of eq cmp is_default number law item before false told refl in (
          (λ none. left ∙ ap (λ (n : ℤ). Some n) (sym same) ∙ sym right),
          (λ goes. refl),
        )

-- rows go on where a bit is 0 that is made of their flags and of whether their numbers go on
go_on-by : (xs : List ℤ) (form : ValidityForm) (n row bit item : ℕ) (x y : ℤ) (v w : Bool) → HasLength form n → n ≡ length xs → row < n
    → slice_get xs (row - 1) ≡ Some x → slice_get xs row ≡ Some y → flag_at form (row - 1) ≡ v → flag_at form row ≡ w
    → ((item ≡ 0) ↔ GoesOn xs row) → (v ≡ true → w ≡ true → bit ≡ item) → (v ≡ false → w ≡ false → bit ≡ 0) → (v ≢ w → bit ≡ 1)
    → ((bit ≡ 0) ↔ GoesOn (optionals xs (flags form n)) row)
go_on-by xs form n row bit item x y true true fits long within last here lv rv items both null differ =
    let left = optionals-at xs (flags form n) (row - 1) x true last (flags-at form n (row - 1) fits (omega arith) ∙ ap (λ (b : Bool). Some b) lv) in
    let right = optionals-at xs (flags form n) row y true here (flags-at form n row fits within ∙ ap (λ (b : Bool). Some b) rv) in
    let is : bit ≡ item = both refl refl in (
      (λ none.
          let one : Some x ≡ Some y = sym last ∙ items.0 (sym is ∙ none) ∙ here in
          left ∙ ap (λ (row : Option ℤ). Some row) one ∙ sym right),
      (λ goes.
          let seen : Some (Some x) ≡ Some (Some y) = sym left ∙ goes ∙ right in
          let one : Some x ≡ Some y = cc in
          is ∙ items.1 (last ∙ one ∙ sym here)),
    )
go_on-by xs form n row bit item x y true false fits long within last here lv rv items both null differ =
    let left = optionals-at xs (flags form n) (row - 1) x true last (flags-at form n (row - 1) fits (omega arith) ∙ ap (λ (b : Bool). Some b) lv) in
    let right = null-at xs (flags form n) row (omega arith) (flags-at form n row fits within ∙ ap (λ (b : Bool). Some b) rv) in
    let is : bit ≡ 1 = differ (λ e. cc) in (
      (λ none. absurd (omega arith)),
      (λ goes. let seen : Some (Some x) ≡ Some None = sym left ∙ goes ∙ right in cc),
    )
go_on-by xs form n row bit item x y false true fits long within last here lv rv items both null differ =
    let left = null-at xs (flags form n) (row - 1) (omega arith) (flags-at form n (row - 1) fits (omega arith) ∙ ap (λ (b : Bool). Some b) lv) in
    let right = optionals-at xs (flags form n) row y true here (flags-at form n row fits within ∙ ap (λ (b : Bool). Some b) rv) in
    let is : bit ≡ 1 = differ (λ e. cc) in (
      (λ none. absurd (omega arith)),
      (λ goes. let seen : Some None ≡ Some (Some y) = sym left ∙ goes ∙ right in cc),
    )
go_on-by xs form n row bit item x y false false fits long within last here lv rv items both null differ =
    let left = null-at xs (flags form n) (row - 1) (omega arith) (flags-at form n (row - 1) fits (omega arith) ∙ ap (λ (b : Bool). Some b) lv) in
    let right = null-at xs (flags form n) row (omega arith) (flags-at form n row fits within ∙ ap (λ (b : Bool). Some b) rv) in (
      (λ none. left ∙ sym right),
      (λ goes. null refl refl),
    )

pub rows-go_on : (xs : List ℤ) (form : ValidityForm) (n row bit item : ℕ) → HasLength form n → n ≡ length xs → row < n
    → ((item ≡ 0) ↔ GoesOn xs row) → (flag_at form (row - 1) ≡ true → flag_at form row ≡ true → bit ≡ item)
    → (flag_at form (row - 1) ≡ false → flag_at form row ≡ false → bit ≡ 0) → (flag_at form (row - 1) ≢ flag_at form row → bit ≡ 1)
    → ((bit ≡ 0) ↔ GoesOn (optionals xs (flags form n)) row)
rows-go_on xs form n row bit item fits long within items both null differ =
    go_on-by xs form n row bit item (get_or xs (row - 1) (pos 0)) (get_or xs row (pos 0)) (flag_at form (row - 1)) (flag_at form row) fits long within
    (slice_get-get_or xs (row - 1) (pos 0) (omega arith)) (slice_get-get_or xs row (pos 0) (omega arith)) refl refl items both null differ

-- rows without null go on where their numbers do
same-some : {B : Type 0} (a b : Option B) → option_map (λ (x : B). Some x) a ≡ option_map (λ (x : B). Some x) b → a ≡ b
same-some None None same = refl
same-some None (Some y) same = cc
same-some (Some x) None same = cc
same-some (Some x) (Some y) same = let one : Some x ≡ Some y = cc in one

pub AreChanges-of_valid : (xs : List ℤ) (n : ℕ) (bits : List Bool) → n ≡ length xs → AreChanges (optionals xs (replicate n true)) bits → AreChanges xs bits
AreChanges-of_valid xs n bits long changes =
    let all : optionals xs (replicate n true) ≡ map (λ (x : ℤ). Some x) xs = optionals-all_valid xs n long in
    let own : AreChanges (map (λ (x : ℤ). Some x) xs) bits = subst (λ (rows : List (Option ℤ)). AreChanges rows bits) all changes in
    let counted = length-map xs (λ (x : ℤ). Some x) in
    record {
      counted = own.counted ∙ counted;
      each = λ row within.
          let tells = own.each row (omega arith) in
          let left = slice_get-map (λ (x : ℤ). Some x) xs (row - 1) in
          let right = slice_get-map (λ (x : ℤ). Some x) xs row in (
            (λ quiet. same-some (slice_get xs (row - 1)) (slice_get xs row) (sym left ∙ tells.0 quiet ∙ right)),
            (λ goes. tells.1 (left ∙ ap (option_map (λ (x : ℤ). Some x)) goes ∙ sym right)),
          );
    }

-- the numbers of items that are taken at places are those at the places
pub numbers-taken : {S : Type 0} (number : S → ℤ) (items : List S) (places : List ℕ) (values : List S) → map (λ (x : S). Some x) values ≡ map (slice_get items) places
    → map number values ≡ items_at (pos 0) (map number items) places
numbers-taken number items [] [] same = refl
numbers-taken number items [] (value ∷ values) same = cc
numbers-taken number items (place ∷ places) [] same = cc
numbers-taken number items (place ∷ places) (value ∷ values) same =
    let head : Some value ≡ slice_get items place = cc in
    let rest : map (λ x. Some x) values ≡ map (slice_get items) places = cc in
    let here : get_or (map number items) place (pos 0) ≡ number value =
    get_or_from_slice_get (map number items) place (number value) (pos 0) (slice_get-map number items place ∙ ap (option_map number) (sym head)) in
    ap (λ (n : ℤ). n ∷ map number values) (sym here) ∙ ap (λ ns. get_or (map number items) place (pos 0) ∷ ns) (numbers-taken number items places values rest)
