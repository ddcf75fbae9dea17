-- The flag of a row, read from the word that has it.
use Rattle.std.proofs.Common.{◌≡◌, ◌∙◌, ◌/◌, ◌%◌, ◌^◌, ◌<◌, ℕ, List, Bool, Some, length, sym, ap, arith, eqb, bit_and, get_or}
use Rattle.std.specs.Prelude.{slice_get}
use Rattle.std.proofs.lemmas.Option.{slice_get-get_or}
use Rattle.column_base.specs.Words.{Packs}
use Rattle.column_base.proofs.WordDigits.{value_of}

-- what is read at a place that is there does not depend on what would be read elsewhere
read_same : (words : List ℕ) (k : ℕ) → k < length words → get_or words k 0 ≡ get_or words k (get_or words k 0)
read_same words k within =
    let both : Some (get_or words k 0) ≡ Some (get_or words k (get_or words k 0)) = sym (slice_get-get_or words k 0 within) ∙ slice_get-get_or words k (get_or words k 0) within in cc

-- the flag of a row, by the word of another row that has it too
pub flag_read : (words : List ℕ) (marks : List Bool) (row start : ℕ) → Packs words marks → row < length marks → row / 64 ≡ start / 64
    → slice_get marks row ≡ Some (eqb (bit_and (get_or words (start / 64) 0 / 2 ^ (row % 64)) 1) 1)
flag_read words marks row start packs within same =
    let least = packs.least in
    value_of words marks row (get_or words (row / 64) 0) packs within (read_same words (row / 64) (omega arith))
    ∙ ap (λ k. Some (eqb (bit_and (get_or words k 0 / 2 ^ (row % 64)) 1) 1)) same
