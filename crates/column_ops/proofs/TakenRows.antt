-- Lemmas on rows that are taken: their items, and whether each is valid.
use Rattle.std.proofs.Common.{◌≡◌, ◌∙◌, ◌+◌, ◌<◌, ℕ, zero, suc, pos, List, [], ◌∷◌, ◌++◌, Bool, true, false, Option, Some, None, get_or, length, map, take, replicate, refl, sym, ap, subst, arith}
use Rattle.std.specs.Prelude.{Result, Ok, Err, IfOk, IfSome, All, is_some, option_map, slice_get, unwrap_or}
use Rattle.std.proofs.lemmas.List.{get_or-replicate, length-map}
use Rattle.std.proofs.lemmas.List.Elements.{All-cons, All-head, All-nil, All-tail}
use Rattle.column_base.specs.declared.dtype.Nullability.{Nullability}
use Rattle.column_base.specs.declared.dtype.Nullability.TheVariants.{NonNullable, Nullable}
use Rattle.column_base.specs.ValidityForm.{ValidityForm, NeverNull, NoneNull, AllNull, ByBits, HasLength, IsNormal, flags, nullability_in}
use Rattle.column_base.proofs.ValidityRows.{nullable-of_bits}
use Rattle.column_core.specs.Optionals.{optionals, AreBlankAtNulls}
use Rattle.column_core.proofs.OptionalRows.{length-optionals}
use Rattle.column_ops.specs.Nullable.{either_nullable}
use Rattle.column_ops.specs.Take.{ArePositions, position_numbers, take_rows, taken_bit, taken_row}
use Rattle.column_ops.specs.Written.{AreStoredAs, IsValidityOf}
use Rattle.column_ops.proofs.Blanked.{items_or, optionals-valid}
use Rattle.column_ops.proofs.Passed.{take_rows-more}
use Rattle.std.specs.Prelude.{◌↔◌, if◌then◌else◌}

-- what follows of an answer
pub IfOk-since : {T E : Type 0} (result : Result T E) (P Q : T → Type 0) → ((x : T) → P x → Q x) → IfOk result P → IfOk result Q
IfOk-since (Ok x) P Q since holds = since x holds
IfOk-since (Err e) P Q since holds = tt

-- rows are their items under their flags
optionals-rows : {B : Type 0} (blank : B) (rows : List (Option B)) → optionals (map (λ row. unwrap_or row blank) rows) (map is_some rows) ≡ rows
optionals-rows blank [] = refl
optionals-rows blank (None ∷ rows) = ap (λ rest. None ∷ rest) (optionals-rows blank rows)
optionals-rows blank (Some x ∷ rows) = ap (λ rest. Some x ∷ rest) (optionals-rows blank rows)

blanked-rows : {B : Type 0} (blank : B) (rows : List (Option B)) → AreBlankAtNulls blank (map (λ row. unwrap_or row blank) rows) (map is_some rows)
blanked-rows blank [] = tt
blanked-rows blank (None ∷ rows) = ((λ null. refl), blanked-rows blank rows)
blanked-rows blank (Some x ∷ rows) = ((λ wrong. cc), blanked-rows blank rows)

-- the items of rows, with the blank one for null, and a validity of their flags, are the rows as a call computes them
pub AreStoredAs-rows : {B : Type 0} (blank : B) (rows : List (Option B)) (wanted : Nullability) (items : List B) (count : ℕ) (form : ValidityForm)
    → count ≡ length rows → items ≡ map (λ row. unwrap_or row blank) rows → IsValidityOf (map is_some rows) wanted count form → AreStoredAs blank rows wanted items form
AreStoredAs-rows blank rows wanted items count form counted same is =
    let sized : length items ≡ count = ap length same ∙ length-map rows (λ row. unwrap_or row blank) ∙ sym counted in
    let told : flags form (length items) ≡ map is_some rows = ap (flags form) sized ∙ is.shown in
    record {
      shown = ap (optionals items) told ∙ ap (λ xs. optionals xs (map is_some rows)) same ∙ optionals-rows blank rows;
      fits = rw sized is.fits;
      computed = record {
        blanked = rw (told, same) (blanked-rows blank rows);
        normal = is.normal;
        some = λ null. rw sized (is.some null);
      };
      nullability = is.nullability;
    }

-- the validity of bits is of their flags
pub IsValidityOf-bits : (bits : List Bool) (wanted : Nullability) (count : ℕ) (form : ValidityForm) → wanted ≡ Nullable → length bits ≡ count
    → flags form (length bits) ≡ bits → HasLength form (length bits) → IsNormal form → (form ≡ NoneNull) ↔ All (λ bit. bit ≡ true) bits → (form ≡ AllNull) ↔ ((0 < length bits) × All (λ bit. bit ≡ false) bits)
    → IsValidityOf bits wanted count form
IsValidityOf-bits bits wanted count form nullable counted flagged fits normal all_valid all_null = record {
  shown = sym (ap (flags form) counted) ∙ flagged;
  fits = subst (λ (n : ℕ). HasLength form n) counted fits;
  normal = normal;
  some = λ null. let some = (all_null.0 null).0 in omega arith;
  nullability = nullable-of_bits form bits flagged all_valid ∙ sym nullable;
}

-- a type without null has no flag that is false
pub never_null : (form : ValidityForm) (n : ℕ) → nullability_in form ≡ NonNullable → flags form n ≡ replicate n true
never_null NeverNull n never = refl
never_null NoneNull n never = refl
never_null AllNull n never = cc
never_null (ByBits bits) n never = cc

-- neither may be null
pub neither_nullable : (a b : Nullability) → either_nullable a b ≡ NonNullable → (a ≡ NonNullable) × (b ≡ NonNullable)
neither_nullable NonNullable b none = (refl, none)
neither_nullable Nullable b none = cc

-- their flags say whether each row of items is valid
pub flags-of_rows : {B : Type 0} (items : List B) (bits : List Bool) → length bits ≡ length items → map is_some (optionals items bits) ≡ bits
flags-of_rows [] [] long = refl
flags-of_rows [] (b ∷ bits) long = cc
flags-of_rows (x ∷ items) [] long = cc
flags-of_rows (x ∷ items) (true ∷ bits) long = ap (λ rest. true ∷ rest) (flags-of_rows items bits (omega arith))
flags-of_rows (x ∷ items) (false ∷ bits) long = ap (λ rest. false ∷ rest) (flags-of_rows items bits (omega arith))

-- there are as many rows as positions
pub length-taken : {B : Type 0} (rows : List (Option B)) (positions : List ℕ) (marks : List Bool) → length marks ≡ length positions → length (take_rows rows (position_numbers (optionals positions marks))) ≡ length positions
length-taken rows positions marks long =
    length-map (position_numbers (optionals positions marks)) (taken_row rows) ∙ length-map (optionals positions marks) (option_map (λ k. pos k)) ∙ length-optionals positions marks long

-- the row of a number is the item there, where no row is null
row-read : {B : Type 0} (items : List B) (k : ℕ) → get_or (map (λ x. Some x) items) k None ≡ slice_get items k
row-read [] k = refl
row-read (x ∷ items) zero = refl
row-read (x ∷ items) (suc k) = row-read items k

rows-at : {B : Type 0} (items : List B) (positions : List ℕ) → take_rows (map (λ x. Some x) items) (position_numbers (map (λ k. Some k) positions)) ≡ map (λ k. slice_get items k) positions
rows-at items [] = refl
rows-at items (k ∷ positions) =
    ap (λ row. row ∷ take_rows (map (λ x. Some x) items) (position_numbers (map (λ j. Some j) positions))) (row-read items k) ∙ ap (λ rows. slice_get items k ∷ rows) (rows-at items positions)

pub items-of_valid : {B : Type 0} (blank : B) (items : List B) → map (λ row. unwrap_or row blank) (map (λ x. Some x) items) ≡ items
items-of_valid blank [] = refl
items-of_valid blank (x ∷ items) = ap (λ rest. x ∷ rest) (items-of_valid blank items)

-- the items at positions are those of the rows there, where nothing is null
pub items-at : {B : Type 0} (blank : B) (items : List B) (bits : List Bool) (positions : List ℕ) (marks : List Bool) (taken : List B)
    → bits ≡ replicate (length items) true → marks ≡ replicate (length positions) true → map (λ x. Some x) taken ≡ map (λ k. slice_get items k) positions
    → taken ≡ map (λ row. unwrap_or row blank) (take_rows (optionals items bits) (position_numbers (optionals positions marks)))
items-at blank items bits positions marks taken all_items all_marks same =
    let rows : optionals items bits ≡ map (λ x. Some x) items = ap (optionals items) all_items ∙ optionals-valid items in
    let places : optionals positions marks ≡ map (λ k. Some k) positions = ap (optionals positions) all_marks ∙ optionals-valid positions in
    sym (items-of_valid blank taken)
    ∙ ap (map (λ row. unwrap_or row blank)) (same ∙ sym (rows-at items positions) ∙ sym (ap (λ rs. take_rows rs (position_numbers (map (λ k. Some k) positions))) rows) ∙ sym (ap (λ ps. take_rows (optionals items bits) (position_numbers ps)) places))

positions-within : (positions : List ℕ) (count : ℕ) → ArePositions (map (λ k. Some k) positions) count → All (λ k. k < count) positions
positions-within [] count within = All-nil (λ k. k < count)
positions-within (k ∷ positions) count within =
    All-cons (λ j. j < count) k positions (All-head (λ p. IfSome p (λ j. j < count)) (Some k) (map (λ j. Some j) positions) within)
    (positions-within positions count (All-tail (λ p. IfSome p (λ j. j < count)) (Some k) (map (λ j. Some j) positions) within))

-- each position is one, where none is null
pub positions-valid : (positions : List ℕ) (marks : List Bool) (count : ℕ) → marks ≡ replicate (length positions) true → ArePositions (optionals positions marks) count → All (λ k. k < count) positions
positions-valid positions marks count all_marks within =
    positions-within positions count (subst (λ (rows : List (Option ℕ)). ArePositions rows count) (ap (optionals positions) all_marks ∙ optionals-valid positions) within)

-- the row at a place is its item where its bit is true
row-at : {B : Type 0} (items : List B) (bits : List Bool) (k : ℕ) (blank : B) → length bits ≡ length items
    → get_or (optionals items bits) k None ≡ (if get_or bits k false then Some (get_or items k blank) else None)
row-at [] [] k blank long = refl
row-at [] (b ∷ bits) k blank long = cc
row-at (x ∷ items) [] k blank long = cc
row-at (x ∷ items) (b ∷ bits) zero blank long = refl
row-at (x ∷ items) (b ∷ bits) (suc k) blank long = row-at items bits k blank (omega arith)

valid-at : {B : Type 0} (items : List B) (bits : List Bool) (k : ℕ) → length bits ≡ length items → is_some (get_or (optionals items bits) k None) ≡ get_or bits k false
valid-at [] [] k long = refl
valid-at [] (b ∷ bits) k long = cc
valid-at (x ∷ items) [] k long = cc
valid-at (x ∷ items) (true ∷ bits) zero long = refl
valid-at (x ∷ items) (false ∷ bits) zero long = refl
valid-at (x ∷ items) (b ∷ bits) (suc k) long = valid-at items bits k (omega arith)

-- the bits at the positions say whether each taken row is valid
pub flags-taken : {B : Type 0} (items : List B) (bits : List Bool) (positions : List (Option ℕ)) → length bits ≡ length items
    → map is_some (take_rows (optionals items bits) (position_numbers positions)) ≡ map (taken_bit bits) positions
flags-taken items bits [] long = refl
flags-taken items bits (None ∷ positions) long = ap (λ rest. false ∷ rest) (flags-taken items bits positions long)
flags-taken items bits (Some k ∷ positions) long =
    ap (λ b. b ∷ map is_some (take_rows (optionals items bits) (position_numbers positions))) (valid-at items bits k long)
    ∙ ap (λ rest. get_or bits k false ∷ rest) (flags-taken items bits positions long)

-- bits that are all true are true at each position
pub bits-valid : (n : ℕ) (positions : List ℕ) (marks : List Bool) → length marks ≡ length positions → ArePositions (optionals positions marks) n
    → map (taken_bit (replicate n true)) (optionals positions marks) ≡ marks
bits-valid n [] [] long within = refl
bits-valid n [] (b ∷ marks) long within = cc
bits-valid n (k ∷ positions) [] long within = cc
bits-valid n (k ∷ positions) (true ∷ marks) long within =
    let here : k < n = All-head (λ p. IfSome p (λ j. j < n)) (Some k) (optionals positions marks) within in
    let rest = bits-valid n positions marks (omega arith) (All-tail (λ p. IfSome p (λ j. j < n)) (Some k) (optionals positions marks) within) in
    ap (λ b. b ∷ map (taken_bit (replicate n true)) (optionals positions marks)) (get_or-replicate n k true false here) ∙ ap (λ bits. true ∷ bits) rest
bits-valid n (k ∷ positions) (false ∷ marks) long within =
    ap (λ bits. false ∷ bits) (bits-valid n positions marks (omega arith) (All-tail (λ p. IfSome p (λ j. j < n)) None (optionals positions marks) within))

false-at : (n k : ℕ) → get_or (replicate n false) k false ≡ false
false-at zero k = refl
false-at (suc n) zero = refl
false-at (suc n) (suc k) = false-at n k

-- bits that are all false are false there
pub bits-null : (n : ℕ) (positions : List ℕ) (marks : List Bool) → length marks ≡ length positions
    → map (taken_bit (replicate n false)) (optionals positions marks) ≡ replicate (length positions) false
bits-null n [] [] long = refl
bits-null n [] (b ∷ marks) long = cc
bits-null n (k ∷ positions) [] long = cc
bits-null n (k ∷ positions) (true ∷ marks) long =
    ap (λ b. b ∷ map (taken_bit (replicate n false)) (optionals positions marks)) (false-at n k) ∙ ap (λ bits. false ∷ bits) (bits-null n positions marks (omega arith))
bits-null n (k ∷ positions) (false ∷ marks) long = ap (λ bits. false ∷ bits) (bits-null n positions marks (omega arith))

-- the items at all positions, with the blank one where the row is null, are those of the rows
pub items-shown : {B : Type 0} (blank : B) (items : List B) (bits : List Bool) (positions : List ℕ) (marks : List Bool) → length bits ≡ length items
    → items_or (map (λ k. get_or items k blank) positions) (map (taken_bit bits) (optionals positions marks)) blank
    ≡ map (λ row. unwrap_or row blank) (take_rows (optionals items bits) (position_numbers (optionals positions marks)))
items-shown blank items bits [] marks long = refl
items-shown blank items bits (k ∷ positions) [] long = refl
items-shown blank items bits (k ∷ positions) (true ∷ marks) long =
    ap (λ row. unwrap_or row blank ∷ items_or (map (λ j. get_or items j blank) positions) (map (taken_bit bits) (optionals positions marks)) blank) (sym (row-at items bits k blank long))
    ∙ ap (λ xs. unwrap_or (get_or (optionals items bits) k None) blank ∷ xs) (items-shown blank items bits positions marks long)
items-shown blank items bits (k ∷ positions) (false ∷ marks) long = ap (λ xs. blank ∷ xs) (items-shown blank items bits positions marks long)

-- bits at positions that are null where a mark is false
bits-shown : (bits : List Bool) (positions : List ℕ) (marks : List Bool) → map (taken_bit bits) (optionals positions marks) ≡ items_or (map (λ k. get_or bits k false) positions) marks false
bits-shown bits [] marks = refl
bits-shown bits (k ∷ positions) [] = refl
bits-shown bits (k ∷ positions) (true ∷ marks) = ap (λ xs. get_or bits k false ∷ xs) (bits-shown bits positions marks)
bits-shown bits (k ∷ positions) (false ∷ marks) = ap (λ xs. false ∷ xs) (bits-shown bits positions marks)

-- bits at the valid rows are those of the rows, with false for null
pub bits-taken : (values bits : List Bool) (positions : List ℕ) (marks rows : List Bool) → length bits ≡ length values → rows ≡ map (taken_bit bits) (optionals positions marks)
    → map (taken_bit values) (optionals positions rows) ≡ map (λ row. unwrap_or row false) (take_rows (optionals values bits) (position_numbers (optionals positions marks)))
bits-taken values bits positions marks rows long told =
    bits-shown values positions rows ∙ ap (λ own. items_or (map (λ k. get_or values k false) positions) own false) told ∙ items-shown false values bits positions marks long
