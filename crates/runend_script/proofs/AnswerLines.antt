-- Lines that are appended to others.
use Rattle.std.proofs.Common.{◌≡◌, ◌∙◌, ◌++◌, [], ◌∷◌, ℕ, List, ap, append_assoc, inl, inr, refl, sym}
use Rattle.std.proofs.lemmas.List.{append-nil}
use Rattle.runend_script.specs.AnswerLines.{AddsLines, AreLines}

-- nothing is appended
pub no_lines : (before after : List ℕ) → after ≡ before → AddsLines before after
no_lines before after same = ([], same ∙ sym (append-nil before), inl refl)

-- one line is appended
pub one_line : (before after line : List ℕ) → after ≡ before ++ (line ++ (10 ∷ [])) → AddsLines before after
one_line before after line is = (line ++ (10 ∷ []), is, inr (line, refl))

-- the line of what is done is appended
pub done_line : (before after : List ℕ) → after ≡ before ++ (111 ∷ 107 ∷ 10 ∷ []) → AddsLines before after
done_line before after is = one_line before after (111 ∷ 107 ∷ []) is

-- lines and lines after them are lines
pub lines_and_lines : (xs ys : List ℕ) → AreLines xs → AreLines ys → AreLines (xs ++ ys)
lines_and_lines xs ys first (inl none) = rw (none, append-nil xs) first
lines_and_lines xs ys first (inr one) = inr (xs ++ one.0, ap (λ (more : List ℕ). xs ++ more) one.1 ∙ sym (append_assoc xs one.0 (10 ∷ [])))

-- lines after lines
pub more_lines : (before between after : List ℕ) → AddsLines before between → AddsLines between after → AddsLines before after
more_lines before between after first second = (
  first.0 ++ second.0,
  second.1 ∙ ap (λ (bytes : List ℕ). bytes ++ second.0) first.1 ∙ append_assoc before first.0 second.0,
  lines_and_lines first.0 second.0 first.2 second.2,
)
