-- Sizes of null rows, row by row.
use Rattle.std.proofs.Common.{◌≡◌, ℕ, zero, suc, ◌+◌, ◌<◌, ◌≤◌, Bool, true, false, List, [], ◌∷◌, length, get_or, refl, sym, subst, ◌∙◌, inl, inr, arith}
use Rattle.std.specs.Prelude.{◌⊎◌}
use Rattle.std.proofs.lemmas.Bool.{cases_lt}
use Rattle.std.proofs.lemmas.Option.{slice_get-get_or}
use Rattle.column_base.specs.ValidityForm.{ValidityForm, HasLength, flag_at, flags}
use Rattle.column_base.proofs.ValidityRows.{flags-at, length-flags}
use Rattle.column_core.specs.declared.varbinview.View.{View}
use Rattle.column_core.specs.Optionals.{AreBlankAtNulls}
use Rattle.column_bytes.specs.Texts.{sizes_in}

blank_from : (ns : List ℕ) (bs : List Bool) → ((k : ℕ) → k < length ns → k < length bs → get_or bs k true ≡ false → get_or ns k 0 ≡ 0) → AreBlankAtNulls 0 ns bs
blank_from [] bs h = tt
blank_from (n ∷ ns) [] h = tt
blank_from (n ∷ ns) (b ∷ bs) h = (λ e. h 0 (omega arith) (omega arith) e, blank_from ns bs (λ k p q e. h (suc k) (omega arith) (omega arith) e))

blank_at : (ns : List ℕ) (bs : List Bool) (k : ℕ) → AreBlankAtNulls 0 ns bs → k < length ns → k < length bs → get_or bs k true ≡ false → get_or ns k 0 ≡ 0
blank_at [] bs k h p q e = absurd (omega arith)
blank_at (n ∷ ns) [] k h p q e = absurd (omega arith)
blank_at (n ∷ ns) (b ∷ bs) zero h p q e = h.0 e
blank_at (n ∷ ns) (b ∷ bs) (suc k) h p q e = blank_at ns bs k h.1 (omega arith) (omega arith) e

flag_is : (v : ValidityForm) (count k : ℕ) → HasLength v count → k < count → get_or (flags v count) k true ≡ flag_at v k
flag_is v count k has lt =
    let counted = length-flags v count has in
    let told = flags-at v count k has lt in
    let read = slice_get-get_or (flags v count) k true (omega (arith, counted)) in
    cc

pub all_blank : (v : ValidityForm) (count : ℕ) (ns : List ℕ) → HasLength v count → ((k : ℕ) → k < count → flag_at v k ≡ false → get_or ns k 0 ≡ 0) → AreBlankAtNulls 0 ns (flags v count)
all_blank v count ns has h =
    blank_from ns (flags v count) (λ k p q e. let lt : k < count = omega (arith, length-flags v count has) in h k lt (sym (flag_is v count k has lt) ∙ e))

pub blank_of : (v : ValidityForm) (count k : ℕ) (ns : List ℕ) → HasLength v count → k < count → k < length ns → flag_at v k ≡ false → AreBlankAtNulls 0 ns (flags v count) → get_or ns k 0 ≡ 0
blank_of v count k ns has lt within null blank = blank_at ns (flags v count) k blank within (omega (arith, length-flags v count has)) (flag_is v count k has lt ∙ null)

pub not_blank_at : (v : ValidityForm) (count k : ℕ) (ns : List ℕ) → HasLength v count → k < count → k < length ns → flag_at v k ≡ false → (get_or ns k 0 ≡ 0 → ⊥) → ¬ AreBlankAtNulls 0 ns (flags v count)
not_blank_at v count k ns has lt within null some blank =
    some (blank_at ns (flags v count) k blank within (omega (arith, length-flags v count has)) (flag_is v count k has lt ∙ null))

next_of : (P : ℕ → Type 0) (n k : ℕ) → (k < n) ⊎ (n ≤ k) → ((j : ℕ) → j < n → P j) → P n → k < n + 1 → P k
next_of P n k (inl below) old new lt = old k below
next_of P n k (inr above) old new lt = let same : n ≡ k = omega arith in subst P same new

-- one row more
pub one_row_more : (P : ℕ → Type 0) (n : ℕ) → ((k : ℕ) → k < n → P k) → P n → (k : ℕ) → k < n + 1 → P k
one_row_more P n old new k lt = next_of P n k (cases_lt k n) old new lt

-- the size of a view
pub size_at : (views : List View) (k : ℕ) (d : View) → k < length views → get_or (sizes_in views) k 0 ≡ (get_or views k d).size
size_at [] k d lt = absurd (omega arith)
size_at (view ∷ views) zero d lt = refl
size_at (view ∷ views) (suc k) d lt = size_at views k d (omega arith)
