-- Items with another one in place of each null, by index.
use Rattle.std.proofs.Common.{◌≡◌, ◌∙◌, ◌<◌, ℕ, zero, suc, List, [], ◌∷◌, Bool, true, false, length, get_or, cond, refl, sym, ap, arith}
use Rattle.column_ops.proofs.Blanked.{items_or, length-items_or}
use Rattle.column_base.specs.Words.{digit_at, one_if, Packs}

-- lists that have the same items are one
same_items : {B : Type 0} (d : B) (xs ys : List B) → length xs ≡ length ys → ((k : ℕ) → k < length xs → get_or xs k d ≡ get_or ys k d) → xs ≡ ys
same_items d [] [] long same = refl
same_items d [] (y ∷ ys) long same = cc
same_items d (x ∷ xs) [] long same = cc
same_items d (x ∷ xs) (y ∷ ys) long same =
    let head : x ≡ y = same 0 (omega arith) in
    let tail : xs ≡ ys = same_items d xs ys (omega arith) (λ k h. same (suc k) (omega arith)) in
    rw (head, tail) refl

-- the item at an index
items_or-at : {B : Type 0} (items : List B) (bits : List Bool) (instead : B) (k : ℕ) → length bits ≡ length items
    → get_or (items_or items bits instead) k instead ≡ cond (get_or bits k false) (get_or items k instead) instead
items_or-at [] [] instead k long = refl
items_or-at [] (b ∷ bits) instead k long = cc
items_or-at (x ∷ items) [] instead k long = cc
items_or-at (x ∷ items) (true ∷ bits) instead zero long = refl
items_or-at (x ∷ items) (false ∷ bits) instead zero long = refl
items_or-at (x ∷ items) (b ∷ bits) instead (suc k) long = items_or-at items bits instead k (omega arith)

by_digit : {B : Type 0} (items shown : List B) (words : List ℕ) (bits : List Bool) (instead : B) → Packs words bits → length bits ≡ length items
    → (k : ℕ) → k < length items
    → ((k : ℕ) → k < length items → digit_at words k ≡ 0 → get_or shown k instead ≡ instead)
    → ((k : ℕ) → k < length items → digit_at words k ≡ 1 → get_or shown k instead ≡ get_or items k instead)
    → (b : Bool) → get_or bits k false ≡ b
    → get_or shown k instead ≡ get_or (items_or items bits instead) k instead
by_digit items shown words bits instead packs long k h put kept true is =
    kept k h (packs.digit k ∙ ap one_if is) ∙ sym (items_or-at items bits instead k long ∙ ap (λ b. cond b (get_or items k instead) instead) is)
by_digit items shown words bits instead packs long k h put kept false is =
    put k h (packs.digit k ∙ ap one_if is) ∙ sym (items_or-at items bits instead k long ∙ ap (λ b. cond b (get_or items k instead) instead) is)

-- what is put where the digits are 0, and kept where they are 1
pub items_or-by_digits : {B : Type 0} (items shown : List B) (words : List ℕ) (bits : List Bool) (instead : B) → Packs words bits → length bits ≡ length items
    → length shown ≡ length items
    → ((k : ℕ) → k < length items → digit_at words k ≡ 0 → get_or shown k instead ≡ instead)
    → ((k : ℕ) → k < length items → digit_at words k ≡ 1 → get_or shown k instead ≡ get_or items k instead)
    → shown ≡ items_or items bits instead
items_or-by_digits items shown words bits instead packs long same put kept =
    same_items instead shown (items_or items bits instead) (same ∙ sym (length-items_or items bits instead long))
    (λ k h. by_digit items shown words bits instead packs long k (omega arith) put kept (get_or bits k false) refl)
