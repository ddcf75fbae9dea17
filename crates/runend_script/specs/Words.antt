-- The words of a line.
use Rattle.std.specs.Prelude.{◌==◌, ℕ, List, filter, length, not}
use Rattle.std.specs.List.{slice_split}

-- what is between the spaces of the line, where that is not empty
abbrev pub words_of : List ℕ → List (List ℕ)
words_of line = filter (λ word. not (length word == 0)) (slice_split (λ byte. byte == 32) line)
