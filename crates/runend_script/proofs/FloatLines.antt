-- Lines of floats that grow by a row.
use Rattle.std.proofs.Common.{◌≡◌, ◌≢◌, ◌++◌, ◌+◌, [], ◌∷◌, ℕ, List, Option, Some, None, Result, Ok, Err, OnOk, codes, refl, sym, subst, ap, ◌∙◌, append_assoc, take, slice_get}
use Rattle.std.proofs.lemmas.List.{append-nil, take_more}
use Rattle.std.proofs.lemmas.Option.{get_or_from_slice_get, slice_get_within}
use Rattle.std.proofs.lemmas.Slice.Zip.{all_zipped_more}
use Rattle.column_words.specs.Floats.{IsWrittenFloat}
use Rattle.column_words.specs.Refusals.{behind_spaces}
use Rattle.column_words.proofs.ByteWords.{spaces_append}
use Rattle.float_bits.specs.declared.formats.FloatFormat.{FloatFormat}
use Rattle.float_bits.specs.Format.{quiet_nan}
use Rattle.runend_script.specs.FloatLines.{IsLineOfFloats, IsPushed, IsRowText}

-- a line without rows is its name
pub line_of_none : (f : FloatFormat) (name line : List ℕ) → line ≡ name → IsLineOfFloats f name [] line
line_of_none f name line same = ([], tt, same ∙ sym (append-nil name))

-- one more row
pub line_of_more : (f : FloatFormat) (name : List ℕ) (floats : List (Option ℕ)) (float : Option ℕ) (before after : List ℕ) → IsLineOfFloats f name floats before → IsPushed f float before after
    → IsLineOfFloats f name (floats ++ float ∷ []) after
line_of_more f name floats float before after shown pushed = (
  shown.0 ++ pushed.0 ∷ [],
  all_zipped_more (IsRowText f) floats shown.0 float pushed.0 shown.1 pushed.1,
  pushed.2 ∙ ap (λ text. text ++ behind_spaces (pushed.0 ∷ [])) shown.2 ∙ append_assoc name (behind_spaces shown.0) (behind_spaces (pushed.0 ∷ []))
      ∙ ap (λ text. name ++ text) (sym (spaces_append shown.0 (pushed.0 ∷ []))),
)

-- the rows before a row, and that row
pub line_of_next : (f : FloatFormat) (name : List ℕ) (floats : List (Option ℕ)) (row : ℕ) (float : Option ℕ) (before after : List ℕ) → slice_get floats row ≡ Some float
    → IsLineOfFloats f name (take row floats) before → IsPushed f float before after → IsLineOfFloats f name (take (row + 1) floats) after
line_of_next f name floats row float before after there shown pushed =
    let longer : take (row + 1) floats ≡ take row floats ++ float ∷ [] =
    take_more floats row float (slice_get_within floats row float there) ∙ ap (λ x. take row floats ++ x ∷ []) (get_or_from_slice_get floats row float float there) in
    subst (λ fs. IsLineOfFloats f name fs after) (sym longer) (line_of_more f name (take row floats) float before after shown pushed)

-- a name and one row
pub line_of_one : (f : FloatFormat) (name : List ℕ) (float : Option ℕ) (before after : List ℕ) → before ≡ name → IsPushed f float before after → IsLineOfFloats f name (float ∷ []) after
line_of_one f name float before after same pushed = line_of_more f name [] float before after (line_of_none f name before same) pushed

-- a name and two rows
pub line_of_two : (f : FloatFormat) (name : List ℕ) (first second : Option ℕ) (before between after : List ℕ) → before ≡ name → IsPushed f first before between → IsPushed f second between after
    → IsLineOfFloats f name (first ∷ second ∷ []) after
line_of_two f name first second before between after same one two = line_of_more f name (first ∷ []) second between after (line_of_one f name first before between same one) two

-- what holds where a text was put
if_put : {T E : Type 0} {A B : Type 0} (result : Result T E) → (A → B) → OnOk result A → OnOk result B
if_put (Ok value) then held = then held
if_put (Err error) then held = tt

-- null is put
pub null_pushed : {T E : Type 0} (result : Result T E) (f : FloatFormat) (before after : List ℕ) → OnOk result (after ≡ before ++ codes " null") → OnOk result (IsPushed f None before after)
null_pushed result f before after put = if_put result (λ is. (codes "null", refl, is)) put

-- the NaN without payload is put
pub nan_pushed : {T E : Type 0} (result : Result T E) (f : FloatFormat) (bits : ℕ) (before after : List ℕ) → bits ≡ quiet_nan f → OnOk result (after ≡ before ++ codes " nan")
    → OnOk result (IsPushed f (Some bits) before after)
nan_pushed result f bits before after same put = if_put result (λ is. (codes "nan", (λ same_again. refl, λ other. absurd (other same)), is)) put

-- another float is put after a space
float_pushed : (f : FloatFormat) (bits : ℕ) (before between after word : List ℕ) → bits ≢ quiet_nan f → between ≡ before ++ codes " " → after ≡ between ++ word → IsWrittenFloat f bits word
    → IsPushed f (Some bits) before after
float_pushed f bits before between after word other space put written = (
  word,
  (λ same. absurd (other same), λ apart. written),
  put ∙ ap (λ text. text ++ word) space ∙ append_assoc before (codes " ") word ∙ ap (λ text. before ++ (codes " " ++ text)) (sym (append-nil word)),
)

pub written_pushed : {T E : Type 0} (result : Result T E) (f : FloatFormat) (bits : ℕ) (before between after : List ℕ) → bits ≢ quiet_nan f → between ≡ before ++ codes " "
    → OnOk result ((word : List ℕ) × (after ≡ between ++ word) × IsWrittenFloat f bits word) → OnOk result (IsPushed f (Some bits) before after)
written_pushed result f bits before between after other space put = if_put result (λ is. float_pushed f bits before between after is.0 other space is.1 is.2) put
