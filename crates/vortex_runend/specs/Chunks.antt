-- Lists of commands on a column that is cut into two parts.
use Rattle.std.specs.Prelude.{◌≡◌, ◌++◌, List, [], ◌∷◌, All}
use Rattle.column_base.specs.Mask.{mask_bits}
use Rattle.column_core.specs.Value.{PlainColumn}
use Rattle.runend_array.specs.declared.array_ref.ArrayRef.{ArrayRef}
use Rattle.runend_commands.specs.declared.command.Command.{Command}
use Rattle.runend_commands.specs.declared.command.Command.TheVariants.{Filter, TakeFrom, CompareScalar, Cast, FillNull, Encode, Decode}
use Rattle.runend_commands.specs.declared.command.Answer.{Answer}
use Rattle.runend_commands.specs.declared.command.Answer.TheVariants.{Done}
use Rattle.runend_commands.specs.Laws.{AreNeverShort}
use Rattle.runend_commands.specs.Meaning.{plain}
use Rattle.runend_commands.specs.Step.{IsExecution}

-- a command that works row by row, on the whole and on both parts: the same one, except for a filter, whose mask is the
-- mask of the first part followed by that of the second, and for codes, which are looked up in dictionaries of equal
-- rows
abbrev pub AreParts : {A : Type 0} → Command A → Command A → Command A → Type 0
AreParts (Filter mask) (Filter first) (Filter second) = mask_bits mask ≡ mask_bits first ++ mask_bits second
AreParts (TakeFrom dictionary) (TakeFrom first) (TakeFrom second) = (plain first ≡ plain dictionary) × (plain second ≡ plain dictionary)
AreParts (CompareScalar operator value) first second = (first ≡ CompareScalar operator value) × (second ≡ CompareScalar operator value)
AreParts (Cast dtype) first second = (first ≡ Cast dtype) × (second ≡ Cast dtype)
AreParts (FillNull value) first second = (first ≡ FillNull value) × (second ≡ FillNull value)
AreParts Encode first second = (first ≡ Encode) × (second ≡ Encode)
AreParts Decode first second = (first ≡ Decode) × (second ≡ Decode)
AreParts command first second = ⊥

-- as many commands on the whole as on either part, one by one
abbrev pub AreAllParts : {A : Type 0} → List (Command A) → List (Command A) → List (Command A) → Type 0
AreAllParts [] [] [] = Unit {0}
AreAllParts (command ∷ commands) (first ∷ firsts) (second ∷ seconds) = AreParts command first second × AreAllParts commands firsts seconds
AreAllParts commands firsts seconds = ⊥

-- the rows of the whole are those of the first part followed by those of the second, all of one type
pub record AreJoined (whole first second : PlainColumn) : Type 0 where
  pub first_dtype : first.dtype ≡ whole.dtype
  pub second_dtype : second.dtype ≡ whole.dtype
  pub rows : whole.rows ≡ first.rows ++ second.rows

-- each command is done
abbrev pub AreDone : {A : Type 0} → List (Answer A) → Type 0
AreDone answers = All (λ answer. answer ≡ Done) answers

-- where the commands are done on both parts, and the run on the whole never runs out of memory, they are done on the
-- whole, and leave the joined rows of what they leave of the parts
abbrev pub ChunksAgree : Type 0 → Type 0
ChunksAgree A = (whole first second whole_after first_after second_after : ArrayRef A)
    (commands firsts seconds : List (Command A)) (answers first_answers second_answers : List (Answer A))
    → AreJoined (plain whole) (plain first) (plain second) → AreAllParts commands firsts seconds
    → IsExecution whole commands answers whole_after → IsExecution first firsts first_answers first_after → IsExecution second seconds second_answers second_after
    → AreNeverShort answers → AreDone first_answers → AreDone second_answers
    → AreDone answers × AreJoined (plain whole_after) (plain first_after) (plain second_after)
