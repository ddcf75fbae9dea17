-- Words of bytes that grow by a byte.
use Rattle.std.proofs.Common.{◌≡◌, ◌<◌, ◌+◌, ◌++◌, [], ◌∷◌, ℕ, List, take, length, get_or, refl, append_assoc}
use Rattle.std.proofs.lemmas.List.{append-nil, take_more, map-append}
use Rattle.std.specs.Prelude.{codes}
use Rattle.hex.specs.Hex.{encode_upper}
use Rattle.column_words.specs.Bytes.{byte_words}
use Rattle.column_words.specs.Refusals.{behind_spaces}

pub spaces_append : (words more : List (List ℕ)) → behind_spaces (words ++ more) ≡ behind_spaces words ++ behind_spaces more
spaces_append [] more = refl
spaces_append (word ∷ words) more = rw (spaces_append words more) (simp append_assoc)

-- the words of the bytes before a byte, and its word
pub word_of_next : (bytes : List ℕ) (i : ℕ) → i < length bytes →
    behind_spaces (byte_words (take (i + 1) bytes)) ≡ (behind_spaces (byte_words (take i bytes)) ++ codes " ") ++ encode_upper (get_or bytes i 0 ∷ [])
word_of_next bytes i inside =
    rw (take_more bytes i 0 inside) (rw map-append (rw spaces_append (simp (append_assoc, append-nil))))
