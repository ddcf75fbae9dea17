-- Items some of which are null: the items as they are stored, and a flag for each.
use Rattle.std.specs.Prelude.{◌≡◌, List, [], ◌∷◌, Bool, false, Option, Some, None, if◌then◌else◌}

-- each item where its flag is true, and null elsewhere
abbrev pub optionals : {B : Type 0} → List B → List Bool → List (Option B)
optionals [] bs = []
optionals (x ∷ xs) [] = []
optionals (x ∷ xs) (b ∷ bs) = (if b then Some x else None) ∷ optionals xs bs

-- each item whose flag is false is the blank one
abbrev pub AreBlankAtNulls : {B : Type 0} → B → List B → List Bool → Type 0
AreBlankAtNulls blank [] bs = Unit {0}
AreBlankAtNulls blank (x ∷ xs) [] = Unit {0}
AreBlankAtNulls blank (x ∷ xs) (b ∷ bs) = (b ≡ false → x ≡ blank) × AreBlankAtNulls blank xs bs
