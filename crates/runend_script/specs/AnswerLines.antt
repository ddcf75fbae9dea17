-- The answer lines of a script, each with its line feed.
use Rattle.std.specs.Prelude.{◌≡◌, ◌⊎◌, ◌++◌, [], ◌∷◌, ℕ, List}

-- no byte, or bytes whose last is a line feed
abbrev pub AreLines : List ℕ → Type 0
AreLines bytes = (bytes ≡ []) ⊎ ((front : List ℕ) × (bytes ≡ front ++ 10 ∷ []))

-- lines are appended to what there was
abbrev pub AddsLines : List ℕ → List ℕ → Type 0
AddsLines before after = (more : List ℕ) × (after ≡ before ++ more) × AreLines more
