-- Commands on the whole, from what they do to the parts.
use Rattle.std.proofs.Common.{◌≡◌, ◌≢◌, ◌++◌, [], ◌∷◌, ◌∙◌, List, Option, Some, None, refl, sym, ap, length}
use Rattle.std.specs.Prelude.{All, option_map}
use Rattle.std.specs.Option.{option_or}
use Rattle.std.proofs.lemmas.List.Elements.{All-cons, All-head, All-nil, All-tail}
use Rattle.column_base.specs.declared.dtype.DType.{DType}
use Rattle.column_base.specs.declared.error.VortexError.{VortexError}
use Rattle.column_base.specs.declared.error.VortexError.TheVariants.{OutOfMemory}
use Rattle.column_base.specs.Mask.{mask_bits}
use Rattle.column_core.specs.Value.{FlatValue, PlainColumn, Single, Value}
use Rattle.column_ops.specs.Cast.{cast_fault}
use Rattle.column_ops.specs.Codes.{code_fault, code_rows}
use Rattle.column_ops.specs.Fill.{fill_dtype, fill_fault}
use Rattle.column_ops.specs.Filter.{filter_fault, filter_rows}
use Rattle.column_ops.specs.Nullable.{take_dtype}
use Rattle.column_ops.specs.Comparing.{compare_dtype, compare_with}
use Rattle.column_ops.specs.CompareFault.{compare_scalar_fault}
use Rattle.runend_builder.specs.Rows.{column_with}
use Rattle.runend_builder.proofs.JoinedRows.{cast_of_joined, codes_of_joined, comparison_of_joined, fill_of_joined, filter_of_joined}
use Rattle.runend_array.specs.Array.{dtype_of, rows}
use Rattle.runend_array.specs.declared.array_ref.ArrayRef.{ArrayRef}
use Rattle.runend_commands.specs.declared.command.Command.{Command}
use Rattle.runend_commands.specs.declared.command.Command.TheVariants.{Filter, TakeFrom, CompareScalar, Cast, FillNull, Encode, Decode}
use Rattle.runend_commands.specs.declared.command.Answer.{Answer}
use Rattle.runend_commands.specs.declared.command.Answer.TheVariants.{Done, Refused}
use Rattle.runend_commands.specs.Meaning.{dtype_after, plain, rows_after, rows_filled, IsAnswer}
use Rattle.runend_commands.specs.Refusal.{numbers_fault, refusal}
use Rattle.runend_commands.specs.Step.{IsDone, IsStep, IsShort, IsRefused, Does}
use Rattle.vortex_runend.specs.Chunks.{AreJoined, AreParts, ChunksAgree}

-- a fault that depends on the type only
by_dtype : {A : Type 0} (fault : DType → Option VortexError) (whole first : PlainColumn) (command one : Command A) → first.dtype ≡ whole.dtype → one ≡ command
    → refusal first command ≡ fault first.dtype → refusal whole command ≡ fault whole.dtype → refusal first one ≡ None → refusal whole command ≡ None
by_dtype fault whole first command one dtypes same here there none = there ∙ sym (ap fault dtypes) ∙ sym here ∙ sym (ap (refusal first) same) ∙ none

-- where both parts are accepted, so is the whole
parts_accepted : {A : Type 0} (whole first second : PlainColumn) (command one two : Command A) → AreJoined whole first second → AreParts command one two
    → refusal first one ≡ None → refusal second two ≡ None → refusal whole command ≡ None
parts_accepted whole first second (Filter mask) (Filter m) (Filter n) joined parts none none' =
    ap (λ bits. filter_fault (length bits) (length whole.rows)) parts
    ∙ ap (λ (xs : List (Option Value)). filter_fault (length (mask_bits m ++ mask_bits n)) (length xs)) joined.rows
    ∙ (filter_of_joined (mask_bits m) (mask_bits n) first.rows second.rows none none').1
parts_accepted whole first second (Filter mask) one two joined parts none none' = absurd parts
parts_accepted whole first second (TakeFrom d) (TakeFrom d1) (TakeFrom d2) joined parts none none' =
    let count = length (rows d) in
    let first_none : code_fault (column_with whole.dtype first.rows) count ≡ None =
    ap (λ (t : DType). code_fault (column_with t first.rows) count) (sym joined.first_dtype)
    ∙ ap (λ (c : PlainColumn). code_fault first (length c.rows)) (sym parts.0) ∙ none in
    let second_none : code_fault (column_with whole.dtype second.rows) count ≡ None =
    ap (λ (t : DType). code_fault (column_with t second.rows) count) (sym joined.second_dtype)
    ∙ ap (λ (c : PlainColumn). code_fault second (length c.rows)) (sym parts.1) ∙ none' in
    ap (λ (xs : List (Option Value)). code_fault (column_with whole.dtype xs) count) joined.rows
    ∙ (codes_of_joined whole.dtype (rows d) first.rows second.rows count).1
    ∙ ap (λ (fault : Option VortexError). option_or fault (code_fault (column_with whole.dtype second.rows) count)) first_none ∙ second_none
parts_accepted whole first second (TakeFrom d) one two joined parts none none' = absurd parts
parts_accepted whole first second (CompareScalar operator value) one two joined parts none none' =
    by_dtype (λ (t : DType). compare_scalar_fault t value.dtype) whole first (CompareScalar operator value) one joined.first_dtype parts.0 refl refl none
parts_accepted whole first second (Cast to) one two joined parts none none' =
    let first_none : cast_fault (column_with whole.dtype first.rows) to ≡ None =
    ap (λ (t : DType). cast_fault (column_with t first.rows) to) (sym joined.first_dtype) ∙ sym (ap (refusal first) parts.0) ∙ none in
    let second_none : cast_fault (column_with whole.dtype second.rows) to ≡ None =
    ap (λ (t : DType). cast_fault (column_with t second.rows) to) (sym joined.second_dtype) ∙ sym (ap (refusal second) parts.1) ∙ none' in
    ap (λ (xs : List (Option Value)). cast_fault (column_with whole.dtype xs) to) joined.rows
    ∙ cast_of_joined whole.dtype to first.rows second.rows
    ∙ ap (λ (fault : Option VortexError). option_or fault (cast_fault (column_with whole.dtype second.rows) to)) first_none ∙ second_none
parts_accepted whole first second (FillNull value) one two joined parts none none' =
    by_dtype (λ (t : DType). fill_fault t value) whole first (FillNull value) one joined.first_dtype parts.0 refl refl none
parts_accepted whole first second Encode one two joined parts none none' =
    by_dtype numbers_fault whole first Encode one joined.first_dtype parts.0 refl refl none
parts_accepted whole first second Decode one two joined parts none none' = refl
parts_accepted whole first second command one two joined parts none none' = absurd parts

-- filled joined rows, where there is a value
filled_joined : (xs ys : List (Option Value)) (value : Option FlatValue) → rows_filled (xs ++ ys) value ≡ rows_filled xs value ++ rows_filled ys value
filled_joined xs ys None = refl
filled_joined xs ys (Some value) = fill_of_joined xs ys (Single value)

-- rows after one command on both parts, where it is the command on the whole
same_rows : {A : Type 0} (whole first second : PlainColumn) (command one two : Command A) → one ≡ command → two ≡ command
    → rows_after whole command ≡ rows_after first command ++ rows_after second command → rows_after whole command ≡ rows_after first one ++ rows_after second two
same_rows whole first second command one two same same' all =
    all ∙ ap (λ (c : Command _). rows_after first c ++ rows_after second command) (sym same) ∙ ap (λ (c : Command _). rows_after first one ++ rows_after second c) (sym same')

-- the rows of the whole are those of the parts
parts_joined : {A : Type 0} (whole first second : PlainColumn) (command one two : Command A) → AreJoined whole first second → AreParts command one two
    → refusal first one ≡ None → refusal second two ≡ None → rows_after whole command ≡ rows_after first one ++ rows_after second two
parts_joined whole first second (Filter mask) (Filter m) (Filter n) joined parts none none' =
    ap (λ bits. filter_rows bits whole.rows) parts ∙ ap (filter_rows (mask_bits m ++ mask_bits n)) joined.rows
    ∙ (filter_of_joined (mask_bits m) (mask_bits n) first.rows second.rows none none').0
parts_joined whole first second (Filter mask) one two joined parts none none' = absurd parts
parts_joined whole first second (TakeFrom d) (TakeFrom d1) (TakeFrom d2) joined parts none none' =
    ap (code_rows (rows d)) joined.rows ∙ (codes_of_joined whole.dtype (rows d) first.rows second.rows 0).0
    ∙ ap (λ (c : PlainColumn). code_rows c.rows first.rows ++ code_rows (rows d) second.rows) (sym parts.0)
    ∙ ap (λ (c : PlainColumn). code_rows (rows d1) first.rows ++ code_rows c.rows second.rows) (sym parts.1)
parts_joined whole first second (TakeFrom d) one two joined parts none none' = absurd parts
parts_joined whole first second (CompareScalar operator value) one two joined parts none none' =
    let right = option_map (λ (v : FlatValue). Single v) value.value in
    same_rows whole first second (CompareScalar operator value) one two parts.0 parts.1
    (ap (λ (xs : List (Option Value)). compare_with operator xs right) joined.rows ∙ comparison_of_joined operator first.rows second.rows right)
parts_joined whole first second (Cast to) one two joined parts none none' = same_rows whole first second (Cast to) one two parts.0 parts.1 joined.rows
parts_joined whole first second (FillNull value) one two joined parts none none' =
    same_rows whole first second (FillNull value) one two parts.0 parts.1
    (ap (λ (xs : List (Option Value)). rows_filled xs value.value) joined.rows ∙ filled_joined first.rows second.rows value.value)
parts_joined whole first second Encode one two joined parts none none' = same_rows whole first second Encode one two parts.0 parts.1 joined.rows
parts_joined whole first second Decode one two joined parts none none' = same_rows whole first second Decode one two parts.0 parts.1 joined.rows
parts_joined whole first second command one two joined parts none none' = absurd parts

-- what a part's command leaves has the type of what the whole's leaves
same_dtype : {A : Type 0} (whole part : PlainColumn) (command one : Command A) → one ≡ command → dtype_after part command ≡ dtype_after whole command
    → dtype_after part one ≡ dtype_after whole command
same_dtype whole part command one same dtypes = ap (dtype_after part) same ∙ dtypes

parts_dtypes : {A : Type 0} (whole first second : PlainColumn) (command one two : Command A) → AreJoined whole first second → AreParts command one two
    → (dtype_after first one ≡ dtype_after whole command) × (dtype_after second two ≡ dtype_after whole command)
parts_dtypes whole first second (Filter mask) (Filter m) (Filter n) joined parts = (joined.first_dtype, joined.second_dtype)
parts_dtypes whole first second (Filter mask) one two joined parts = absurd parts
parts_dtypes whole first second (TakeFrom d) (TakeFrom d1) (TakeFrom d2) joined parts = (
  ap (λ (c : PlainColumn). take_dtype c.dtype first.dtype) parts.0 ∙ ap (take_dtype (dtype_of d)) joined.first_dtype,
  ap (λ (c : PlainColumn). take_dtype c.dtype second.dtype) parts.1 ∙ ap (take_dtype (dtype_of d)) joined.second_dtype,
)
parts_dtypes whole first second (TakeFrom d) one two joined parts = absurd parts
parts_dtypes whole first second (CompareScalar operator value) one two joined parts =
    let of = λ (t : DType). compare_dtype t value.dtype in (
      same_dtype whole first (CompareScalar operator value) one parts.0 (ap of joined.first_dtype),
      same_dtype whole second (CompareScalar operator value) two parts.1 (ap of joined.second_dtype),
    )
parts_dtypes whole first second (Cast to) one two joined parts = (same_dtype whole first (Cast to) one parts.0 refl, same_dtype whole second (Cast to) two parts.1 refl)
parts_dtypes whole first second (FillNull value) one two joined parts = (
  same_dtype whole first (FillNull value) one parts.0 (ap fill_dtype joined.first_dtype),
  same_dtype whole second (FillNull value) two parts.1 (ap fill_dtype joined.second_dtype),
)
parts_dtypes whole first second Encode one two joined parts = (same_dtype whole first Encode one parts.0 joined.first_dtype, same_dtype whole second Encode two parts.1 joined.second_dtype)
parts_dtypes whole first second Decode one two joined parts = (same_dtype whole first Decode one parts.0 joined.first_dtype, same_dtype whole second Decode two parts.1 joined.second_dtype)
parts_dtypes whole first second command one two joined parts = absurd parts

-- such a command is answered by being done
parts_answer : {A : Type 0} (whole : PlainColumn) (command one two : Command A) (answer : Answer A) → AreParts command one two → IsAnswer whole command answer → answer ≡ Done
parts_answer whole (Filter mask) one two answer parts is = is
parts_answer whole (TakeFrom d) one two answer parts is = is
parts_answer whole (CompareScalar operator value) one two answer parts is = is
parts_answer whole (Cast to) one two answer parts is = is
parts_answer whole (FillNull value) one two answer parts is = is
parts_answer whole Encode one two answer parts is = is
parts_answer whole Decode one two answer parts is = is
parts_answer whole command one two answer parts is = absurd parts

-- a step that is answered as done is done
step_done : {A : Type 0} (before after : ArrayRef A) (command : Command A) (answer : Answer A) → IsStep before command answer after → answer ≡ Done → IsDone before command answer after
step_done before after command answer step done = elim step [
  | IsShort short kept ↦ absurd (cc (short, done))
  | IsRefused error is answers kept ↦ absurd (cc (answers, done))
  | Does is ↦ is
]

-- one command
step_joined : {A : Type 0} (whole first second whole_after first_after second_after : ArrayRef A) (command one two : Command A) (answer first_answer second_answer : Answer A)
    → AreJoined (plain whole) (plain first) (plain second) → AreParts command one two
    → IsStep whole command answer whole_after → IsStep first one first_answer first_after → IsStep second two second_answer second_after
    → answer ≢ Refused OutOfMemory → first_answer ≡ Done → second_answer ≡ Done → (answer ≡ Done) × AreJoined (plain whole_after) (plain first_after) (plain second_after)
step_joined whole first second whole_after first_after second_after command one two answer first_answer second_answer joined parts step first_step second_step long first_done second_done =
    let here = step_done first first_after one first_answer first_step first_done in
    let there = step_done second second_after two second_answer second_step second_done in
    let accepted = parts_accepted (plain whole) (plain first) (plain second) command one two joined parts here.accepted there.accepted in
    elim step [
      | IsShort short kept ↦ absurd (long short)
      | IsRefused error is answers kept ↦ absurd (cc (is, accepted))
      | Does done ↦
          let dtypes = parts_dtypes (plain whole) (plain first) (plain second) command one two joined parts in
          let all = parts_joined (plain whole) (plain first) (plain second) command one two joined parts here.accepted there.accepted in (
            parts_answer (plain whole) command one two answer parts done.answered,
            record {
              first_dtype = here.dtype ∙ dtypes.0 ∙ sym done.dtype;
              second_dtype = there.dtype ∙ dtypes.1 ∙ sym done.dtype;
              rows = done.rows ∙ all ∙ ap (λ (xs : List (Option Value)). xs ++ rows_after (plain second) two) (sym here.rows) ∙ ap (λ (xs : List (Option Value)). rows first_after ++ xs) (sym there.rows);
            },
          )
    ]

pub chunks_agree : {A : Type 0} → ChunksAgree A
chunks_agree whole first second whole_after first_after second_after [] [] [] [] [] [] joined parts run run' run'' long done done' =
    (All-nil (λ (answer : Answer _). answer ≡ Done), rw run (rw run' (rw run'' joined)))
chunks_agree whole first second whole_after first_after second_after [] [] [] [] [] (f ∷ seconds) joined parts run run' run'' long done done' = absurd run''
chunks_agree whole first second whole_after first_after second_after [] [] [] [] (b ∷ firsts) seconds joined parts run run' run'' long done done' = absurd run'
chunks_agree whole first second whole_after first_after second_after [] [] [] (a ∷ answers) firsts seconds joined parts run run' run'' long done done' = absurd run
chunks_agree whole first second whole_after first_after second_after (c ∷ cs) (d ∷ ds) (e ∷ es) [] firsts seconds joined parts run run' run'' long done done' = absurd run
chunks_agree whole first second whole_after first_after second_after (c ∷ cs) (d ∷ ds) (e ∷ es) (a ∷ answers) [] seconds joined parts run run' run'' long done done' = absurd run'
chunks_agree whole first second whole_after first_after second_after (c ∷ cs) (d ∷ ds) (e ∷ es) (a ∷ answers) (b ∷ firsts) [] joined parts run run' run'' long done done' = absurd run''
chunks_agree whole first second whole_after first_after second_after (c ∷ cs) (d ∷ ds) (e ∷ es) (a ∷ answers) (b ∷ firsts) (f ∷ seconds) joined parts run run' run'' long done done' =
    let short = λ (answer : Answer _). answer ≢ Refused OutOfMemory in
    let is_done = λ (answer : Answer _). answer ≡ Done in
    let here = step_joined whole first second run.0 run'.0 run''.0 c d e a b f joined parts.0 run.1 run'.1 run''.1
    (All-head short a answers long) (All-head is_done b firsts done) (All-head is_done f seconds done') in
    let rest = chunks_agree run.0 run'.0 run''.0 whole_after first_after second_after cs ds es answers firsts seconds here.1 parts.1 run.2 run'.2 run''.2
    (All-tail short a answers long) (All-tail is_done b firsts done) (All-tail is_done f seconds done') in
    (All-cons is_done a answers here.0 rest.0, rest.1)
chunks_agree whole first second whole_after first_after second_after commands firsts seconds answers first_answers second_answers joined parts run run' run'' long done done' = absurd parts
