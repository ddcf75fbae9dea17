-- What bytes begin with, and what is appended to bytes, where something is spelt by bytes.
use Rattle.std.specs.Prelude.{◌≡◌, ◌+◌, ◌≤◌, ℕ, List, ◌++◌, length}

-- bytes begin with a spelling of x, and the rest comes after it
pub record Begins {A : Type 0} (Spelling : List ℕ → A → Type 0) (bytes : List ℕ) (x : A) (rest : List ℕ) : Type 0 where
  pub front : List ℕ
  pub spelt : Spelling front x
  pub parts : bytes ≡ front ++ rest

-- bytes begin with a spelling of nothing
pub record BeginsWithNone {A : Type 0} (Spelling : List ℕ → A → Type 0) (bytes : List ℕ) : Type 0 where
  pub none : (x : A) (rest : List ℕ) → Begins Spelling bytes x rest → ⊥

-- the new bytes are the old ones followed by a spelling of x
pub record Appends {A : Type 0} (Spelling : List ℕ → A → Type 0) (old : List ℕ) (x : A) (new : List ℕ) : Type 0 where
  pub added : List ℕ
  pub spelt : Spelling added x
  pub parts : new ≡ old ++ added

-- each spelling of x has this many bytes
pub record HasLength {A : Type 0} (Spelling : List ℕ → A → Type 0) (x : A) (count : ℕ) : Type 0 where
  pub long : (bytes : List ℕ) → Spelling bytes x → length bytes ≡ count

-- after `count` bytes each spelling of x is within the capacity
pub record FitsBehind {A : Type 0} (Spelling : List ℕ → A → Type 0) (count capacity : ℕ) (x : A) : Type 0 where
  pub fits : (bytes : List ℕ) → Spelling bytes x → count + length bytes ≤ capacity
