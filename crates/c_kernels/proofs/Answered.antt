-- How the calls end that ask one question of the columns of handles.
use Rattle.std.proofs.Common.{◌≡◌, ◌≢◌, ℕ, ℤ, pos, sym, subst, Result, Ok, Err, Option, Some}
use Rattle.std.specs.Prelude.{IfErr, IfOk}
use Rattle.std.specs.Global.{Global}
use Rattle.column_base.specs.declared.error.VortexError.{VortexError}
use Rattle.column_base.specs.Error.{number_of}
use Rattle.column_core.specs.Kinds.{list_fault}
use Rattle.column_core.specs.Refusal.{IsRefusedBy}
use Rattle.runend_array.specs.Array.{dtype_of}
use Rattle.runend_array.specs.declared.array_ref.ArrayRef.{ArrayRef}
use Rattle.c_columns.specs.Ending.{EndsBy, HasFields, WhereBoth}
use Rattle.c_columns.specs.Flags.{Tells}
use Rattle.c_columns.specs.TwoColumns.{EndsOnTwo}
use Rattle.c_columns.specs.declared.error_fields.ErrorFields.{ErrorFields}
use Rattle.c_columns.proofs.Endings.{ends_done, ends_refused}
use Rattle.c_kernels.specs.Chosen.{choice_fault_of, EndsOnThree}
use Rattle.c_kernels.specs.Equal.{equal_fault, AreEqual}
use Rattle.c_kernels.specs.Hashed.{EndsOnHash}
use Rattle.c_kernels.specs.Tested.{test_fault, EndsOnTested}
use Rattle.c_kernels.specs.declared.tested.RowTest.{RowTest}

abbrev Held : Type 0
Held = Option (ArrayRef Global)

-- a call that answers by a column
ends_made : {B X : Type 0} (outcome : Result B VortexError) (value : B → X) (fault : Option VortexError) (out old : Option X) (code : ℤ) (fields : ErrorFields) → IsRefusedBy fault outcome
    → IfOk outcome (λ made. (code ≡ pos 0) × (out ≡ Some (value made))) → IfErr outcome (λ why. (code ≡ pos (number_of why)) × (code ≢ pos 0) × (out ≡ old) × HasFields why fields) → EndsBy fault code fields
ends_made (Ok made) value fault out old code fields none ok err = ends_done fault code fields none ok.0
ends_made (Err error) value fault out old code fields why ok err = ends_refused fault error code fields why err.0 err.3

-- a call that answers by a number
ends_written : (outcome : Result ℕ VortexError) (fault : Option VortexError) (written : ℕ) (code : ℤ) (fields : ErrorFields) → IsRefusedBy fault outcome
    → IfOk outcome (λ found. (code ≡ pos 0) × (written ≡ found)) → IfErr outcome (λ why. (code ≡ pos (number_of why)) × (code ≢ pos 0) × HasFields why fields) → EndsBy fault code fields
ends_written (Ok found) fault written code fields none ok err = ends_done fault code fields none ok.0
ends_written (Err error) fault written code fields why ok err = ends_refused fault error code fields why err.0 err.2

-- what holds of the number that was found holds of the one that was written
is_written : (outcome : Result ℕ VortexError) (code : ℤ) (written : ℕ) (fields : ErrorFields) (P : ℕ → Type 0) → IfOk outcome P → IfOk outcome (λ found. (code ≡ pos 0) × (written ≡ found))
    → IfErr outcome (λ why. (code ≡ pos (number_of why)) × (code ≢ pos 0) × HasFields why fields) → code ≡ pos 0 → P written
is_written (Ok found) code written fields P is ok err zero = subst P (sym ok.1) is
is_written (Err error) code written fields P is ok err zero = absurd (err.1 zero)

-- the rows of one column tested
pub test_ends : {B X : Type 0} (test : RowTest) (c : Held) (a : ArrayRef Global) (outcome : Result B VortexError) (value : B → X) (out old : Option X) (code : ℤ) (fields : ErrorFields) → c ≡ Some a
    → IsRefusedBy (test_fault test a) outcome → IfOk outcome (λ made. (code ≡ pos 0) × (out ≡ Some (value made)))
    → IfErr outcome (λ why. (code ≡ pos (number_of why)) × (code ≢ pos 0) × (out ≡ old) × HasFields why fields) → EndsOnTested test c code fields
test_ends test c a outcome value out old code fields some refused ok err =
    subst (λ (h : Held). EndsOnTested test h code fields) (sym some) (ends_made outcome value (test_fault test a) out old code fields refused ok err)

-- rows of two columns by a mask
pub choice_ends : {B X : Type 0} (c d e : Held) (mask left right : ArrayRef Global) (outcome : Result B VortexError) (value : B → X) (out old : Option X) (code : ℤ) (fields : ErrorFields) → c ≡ Some mask → d ≡ Some left
    → e ≡ Some right → IsRefusedBy (choice_fault_of mask left right) outcome → IfOk outcome (λ made. (code ≡ pos 0) × (out ≡ Some (value made)))
    → IfErr outcome (λ why. (code ≡ pos (number_of why)) × (code ≢ pos 0) × (out ≡ old) × HasFields why fields) → EndsOnThree c d e code fields
choice_ends c d e mask left right outcome value out old code fields some other third refused ok err =
    subst (λ (h : Held). EndsOnThree h d e code fields) (sym some)
    (subst (λ (h : Held). EndsOnThree (Some mask) h e code fields) (sym other)
    (subst (λ (h : Held). EndsOnThree (Some mask) (Some left) h code fields) (sym third) (ends_made outcome value (choice_fault_of mask left right) out old code fields refused ok err)))

-- two columns compared as wholes
pub equal_ends : (c d : Held) (a b : ArrayRef Global) (outcome : Result ℕ VortexError) (written : ℕ) (code : ℤ) (fields : ErrorFields) → c ≡ Some a → d ≡ Some b → IsRefusedBy (equal_fault a b) outcome
    → IfOk outcome (λ found. (code ≡ pos 0) × (written ≡ found)) → IfErr outcome (λ why. (code ≡ pos (number_of why)) × (code ≢ pos 0) × HasFields why fields) → EndsOnTwo equal_fault c d code fields
equal_ends c d a b outcome written code fields some other refused ok err =
    subst (λ (h : Held). EndsOnTwo equal_fault h d code fields) (sym some)
    (subst (λ (h : Held). EndsOnTwo equal_fault (Some a) h code fields) (sym other) (ends_written outcome (equal_fault a b) written code fields refused ok err))

pub equal_told : (c d : Held) (a b : ArrayRef Global) (outcome : Result ℕ VortexError) (written : ℕ) (code : ℤ) (fields : ErrorFields) → c ≡ Some a → d ≡ Some b → IfOk outcome (λ truth. Tells truth (AreEqual a b))
    → IfOk outcome (λ found. (code ≡ pos 0) × (written ≡ found)) → IfErr outcome (λ why. (code ≡ pos (number_of why)) × (code ≢ pos 0) × HasFields why fields) → code ≡ pos 0
    → WhereBoth (λ x y. Tells written (AreEqual x y)) c d
equal_told c d a b outcome written code fields some other is ok err zero =
    subst (λ (h : Held). WhereBoth (λ x y. Tells written (AreEqual x y)) h d) (sym some)
    (subst (λ (h : Held). WhereBoth (λ x y. Tells written (AreEqual x y)) (Some a) h) (sym other) (is_written outcome code written fields (λ truth. Tells truth (AreEqual a b)) is ok err zero))

-- the rows of a column hashed
pub hash_ends : (c : Held) (a : ArrayRef Global) (outcome : Result ℕ VortexError) (written : ℕ) (code : ℤ) (fields : ErrorFields) → c ≡ Some a → IsRefusedBy (list_fault (dtype_of a)) outcome
    → IfOk outcome (λ found. (code ≡ pos 0) × (written ≡ found)) → IfErr outcome (λ why. (code ≡ pos (number_of why)) × (code ≢ pos 0) × HasFields why fields) → EndsOnHash c code fields
hash_ends c a outcome written code fields some refused ok err =
    subst (λ (h : Held). EndsOnHash h code fields) (sym some) (ends_written outcome (list_fault (dtype_of a)) written code fields refused ok err)
