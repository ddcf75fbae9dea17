-- What is written to the front of a caller's bytes is there.
use Rattle.std.proofs.Common.{◌≡◌, ◌∷◌, [], ◌∙◌, ℕ, List, zero, suc, length, take, refl, sym, ap, arith}
use Rattle.std.proofs.lemmas.List.{take_all}
use Rattle.c_columns.specs.Front.{front_written}
use Rattle.c_columns.specs.declared.front.Front.{Front}

abbrev first : List ℕ → ℕ
first [] = 0
first (x ∷ xs) = x

abbrev rest : List ℕ → List ℕ
rest [] = []
rest (x ∷ xs) = xs

take_same : (n : ℕ) (xs : List ℕ) → take (length (take n xs)) xs ≡ take n xs
take_same zero xs = refl
take_same (suc n) [] = refl
take_same (suc n) (x ∷ xs) = ap (λ (t : List ℕ). x ∷ t) (take_same n xs)

-- the bytes are those of the same borrow
pub same_bytes : (front : Front) (name : ℕ) (bytes : List ℕ) → front_written front ≡ name ∷ bytes → front.room.ghost_name ≡ name
same_bytes front name bytes h = ap first h

pub at_front : (front : Front) (name size : ℕ) (bytes room : List ℕ) → front_written front ≡ name ∷ bytes → size ≡ length bytes → room ≡ front.room.now → take size room ≡ bytes
at_front front name size bytes room h s is =
    let written : take front.count front.room.now ≡ bytes = ap rest h in
    ap (λ (n : ℕ). take n room) s ∙ ap (take (length bytes)) is ∙ ap (λ (t : List ℕ). take (length t) front.room.now) (sym written) ∙ take_same front.count front.room.now ∙ written

-- all of them are written
pub all_written : (front : Front) (name : ℕ) (bytes room : List ℕ) → front_written front ≡ name ∷ bytes → length room ≡ length bytes → room ≡ front.room.now → room ≡ bytes
all_written front name bytes room h s is = sym (take_all (length room) room (omega arith)) ∙ at_front front name (length room) bytes room h s is
