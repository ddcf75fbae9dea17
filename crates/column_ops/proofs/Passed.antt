-- Lemmas on the rows that a loop has passed.
use Rattle.std.proofs.Common.{◌≡◌, ◌∙◌, ◌+◌, ◌≤◌, ℕ, zero, suc, pos, List, [], ◌∷◌, ◌++◌, Bool, true, false, Option, Some, length, map, take, refl, sym, ap, add-one, arith}
use Rattle.std.specs.Prelude.{slice_get, option_map, unwrap_or, if◌then◌else◌}
use Rattle.std.proofs.lemmas.List.{map_push, take_all}
use Rattle.column_core.specs.Optionals.{optionals}
use Rattle.column_core.proofs.OptionalRows.{length-optionals-le}
use Rattle.column_ops.specs.Fill.{fill_rows}
use Rattle.column_ops.specs.Filter.{filter_rows}
use Rattle.column_ops.specs.Take.{position_numbers, take_rows, taken_row}

-- one item more of a list
pub take_next : {B : Type 0} (xs : List B) (k : ℕ) (x : B) → slice_get xs k ≡ Some x → take (suc k) xs ≡ take k xs ++ x ∷ []
take_next [] k x here = cc
take_next (y ∷ xs) zero x here = cc
take_next (y ∷ xs) (suc k) x here = ap (λ ys. y ∷ ys) (take_next xs k x here)

-- one item more of a list, where the next place is counted by a sum
pub take_more : {B : Type 0} (xs : List B) (k : ℕ) (x : B) → slice_get xs k ≡ Some x → take (k + 1) xs ≡ take k xs ++ x ∷ []
take_more xs k x here = rw add-one (take_next xs k x here)

-- items that represent the first ones of a list, and one more
pub mapped-push : {B C : Type 0} (f : B → C) (rows : List (Option B)) (xs : List (Option C)) (k : ℕ) (row : Option B) (x : Option C) → map (option_map f) rows ≡ take k xs → slice_get xs k ≡ Some x
    → option_map f row ≡ x → map (option_map f) (rows ++ row ∷ []) ≡ take (k + 1) xs
mapped-push f rows xs k row x old here same =
    map_push (option_map f) rows row ∙ ap (λ ys. ys ++ option_map f row ∷ []) old ∙ ap (λ y. take k xs ++ y ∷ []) same ∙ sym (take_more xs k x here)

-- each optional item has been passed
pub passed_all : {B : Type 0} (xs : List B) (bs : List Bool) (k : ℕ) → length xs ≤ k → take k (optionals xs bs) ≡ optionals xs bs
passed_all xs bs k all = take_all k (optionals xs bs) (omega (arith, length-optionals-le xs bs))

-- one position more gives one row more
pub take_rows-more : {B : Type 0} (rows : List (Option B)) (positions : List (Option ℕ)) (k : ℕ) (position : Option ℕ) → slice_get positions k ≡ Some position
    → take_rows rows (position_numbers (take (k + 1) positions)) ≡ take_rows rows (position_numbers (take k positions)) ++ taken_row rows (option_map (λ n. pos n) position) ∷ []
take_rows-more rows positions k position here =
    rw add-one
    (ap (λ ps. take_rows rows (position_numbers ps)) (take_next positions k position here)
    ∙ ap (take_rows rows) (map_push (option_map (λ n. pos n)) (take k positions) position)
    ∙ map_push (taken_row rows) (position_numbers (take k positions)) (option_map (λ n. pos n) position))

filter_next : {B : Type 0} (mask : List Bool) (xs : List B) (k : ℕ) (b : Bool) (x : B) → slice_get mask k ≡ Some b → slice_get xs k ≡ Some x
    → filter_rows (take (suc k) mask) (take (suc k) xs) ≡ filter_rows (take k mask) (take k xs) ++ (if b then x ∷ [] else [])
filter_next [] xs k b x flag here = cc
filter_next (c ∷ mask) [] k b x flag here = cc
filter_next (true ∷ mask) (y ∷ xs) zero true x flag here = cc
filter_next (true ∷ mask) (y ∷ xs) zero false x flag here = cc
filter_next (false ∷ mask) (y ∷ xs) zero true x flag here = cc
filter_next (false ∷ mask) (y ∷ xs) zero false x flag here = refl
filter_next (true ∷ mask) (y ∷ xs) (suc k) b x flag here = ap (λ ys. y ∷ ys) (filter_next mask xs k b x flag here)
filter_next (false ∷ mask) (y ∷ xs) (suc k) b x flag here = filter_next mask xs k b x flag here

-- a row that is selected comes after those before it
pub filter_rows-selected : {B : Type 0} (mask : List Bool) (xs : List B) (k : ℕ) (b : Bool) (x : B) → slice_get mask k ≡ Some b → b ≡ true → slice_get xs k ≡ Some x
    → filter_rows (take (k + 1) mask) (take (k + 1) xs) ≡ filter_rows (take k mask) (take k xs) ++ x ∷ []
filter_rows-selected mask xs k b x flag set here = rw add-one (filter_next mask xs k true x (flag ∙ ap Some set) here)

skip_next : {B : Type 0} (mask : List Bool) (xs : List B) (k : ℕ) → slice_get mask k ≡ Some false → filter_rows (take (suc k) mask) (take (suc k) xs) ≡ filter_rows (take k mask) (take k xs)
skip_next [] xs k flag = cc
skip_next (c ∷ mask) [] zero flag = refl
skip_next (c ∷ mask) [] (suc k) flag = refl
skip_next (true ∷ mask) (y ∷ xs) zero flag = cc
skip_next (false ∷ mask) (y ∷ xs) zero flag = refl
skip_next (true ∷ mask) (y ∷ xs) (suc k) flag = ap (λ ys. y ∷ ys) (skip_next mask xs k flag)
skip_next (false ∷ mask) (y ∷ xs) (suc k) flag = skip_next mask xs k flag

-- a row that is not selected leaves them as they are
pub filter_rows-passed : {B : Type 0} (mask : List Bool) (xs : List B) (k : ℕ) (b : Bool) → slice_get mask k ≡ Some b → b ≡ false
    → filter_rows (take (k + 1) mask) (take (k + 1) xs) ≡ filter_rows (take k mask) (take k xs)
filter_rows-passed mask xs k b flag unset = rw add-one (skip_next mask xs k (flag ∙ ap Some unset))

-- one row more is filled
pub fill_rows-more : {B : Type 0} (rows : List (Option B)) (value : B) (k : ℕ) (row : Option B) → slice_get rows k ≡ Some row
    → fill_rows (take (k + 1) rows) value ≡ fill_rows (take k rows) value ++ Some (unwrap_or row value) ∷ []
fill_rows-more rows value k row here =
    rw add-one (ap (λ xs. fill_rows xs value) (take_next rows k row here) ∙ map_push (λ r. Some (unwrap_or r value)) (take k rows) row)
