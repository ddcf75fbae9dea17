-- What is known of an answer that is passed on, and of a column's rows.
use Rattle.std.proofs.Common.{◌≡◌, ℕ, zero, suc, refl}
use Rattle.std.specs.Prelude.{Result, Ok, Err, IfOk}
use Rattle.runend_column.specs.VisibleForm.{window_start}

-- what follows for a value that is answered
pub if_ok : {T E : Type 0} {P Q : T → Type 0} (result : Result T E) → ((value : T) → P value → Q value) → IfOk result P → IfOk result Q
if_ok (Ok value) f answered = f value answered
if_ok (Err error) f answered = answered

-- the window over visible runs begins where it began, unless it has no rows
pub start_of_rows : (count offset : ℕ) → ¬ (count ≡ 0) → offset ≡ window_start count offset
start_of_rows zero offset some = absurd (some refl)
start_of_rows (suc n) offset some = refl
