-- How calls on tables end that answer what was made of two or three handles.
use Rattle.std.proofs.Common.{◌≡◌, ◌≢◌, pos, ℤ}
use Rattle.std.specs.Prelude.{Option, Some, Result, Ok, Err, IfErr, IfOk}
use Rattle.c_columns.specs.declared.error_fields.ErrorFields.{ErrorFields}
use Rattle.c_tables.specs.TableEnding.{EndsOnBoth, EndsOnFour, EndsOnThree, HasTableFields, table_number}
use Rattle.c_tables.proofs.TableEndings.{both_done, both_refused, four_done, four_refused, three_done, three_refused}
use Rattle.tables.specs.declared.fault.TableError.{TableError}

pub both_answered : {X Y T : Type 0} (Why : X → Y → TableError → Type 0) (c : Option X) (d : Option Y) (x : X) (y : Y) (outcome : Result T TableError) (code : ℤ) (fields : ErrorFields) (Made : T → Type 0) (Kept : Type 0)
    → c ≡ Some x → d ≡ Some y → IfErr outcome (Why x y) → IfOk outcome (λ made. (code ≡ pos 0) × Made made)
    → IfErr outcome (λ why. (code ≡ pos (table_number why)) × (code ≢ pos 0) × Kept × HasTableFields why fields) → EndsOnBoth Why c d code fields
both_answered Why c d x y (Ok made) code fields Made Kept some other why done refused = both_done Why c d x y code fields some other done.0
both_answered Why c d x y (Err error) code fields Made Kept some other why done refused = both_refused Why c d x y error code fields some other why refused.0 refused.3

pub three_answered : {X Y Z T : Type 0} (Why : X → Y → Z → TableError → Type 0) (c : Option X) (d : Option Y) (e : Option Z) (x : X) (y : Y) (z : Z) (outcome : Result T TableError) (code : ℤ) (fields : ErrorFields) (Made : T → Type 0) (Kept : Type 0)
    → c ≡ Some x → d ≡ Some y → e ≡ Some z → IfErr outcome (Why x y z) → IfOk outcome (λ made. (code ≡ pos 0) × Made made)
    → IfErr outcome (λ why. (code ≡ pos (table_number why)) × (code ≢ pos 0) × Kept × HasTableFields why fields) → EndsOnThree Why c d e code fields
three_answered Why c d e x y z (Ok made) code fields Made Kept some other third why done refused = three_done Why c d e x y z code fields some other third done.0
three_answered Why c d e x y z (Err error) code fields Made Kept some other third why done refused = three_refused Why c d e x y z error code fields some other third why refused.0 refused.3

pub four_answered : {W X Y Z T : Type 0} (Why : W → X → Y → Z → TableError → Type 0) (b : Option W) (c : Option X) (d : Option Y) (e : Option Z) (w : W) (x : X) (y : Y) (z : Z) (outcome : Result T TableError) (code : ℤ) (fields : ErrorFields) (Made : T → Type 0) (Kept : Type 0)
    → b ≡ Some w → c ≡ Some x → d ≡ Some y → e ≡ Some z → IfErr outcome (Why w x y z) → IfOk outcome (λ made. (code ≡ pos 0) × Made made)
    → IfErr outcome (λ why. (code ≡ pos (table_number why)) × (code ≢ pos 0) × Kept × HasTableFields why fields) → EndsOnFour Why b c d e code fields
four_answered Why b c d e w x y z (Ok made) code fields Made Kept some other third fourth why done refused = four_done Why b c d e w x y z code fields some other third fourth done.0
four_answered Why b c d e w x y z (Err error) code fields Made Kept some other third fourth why done refused = four_refused Why b c d e w x y z error code fields some other third fourth why refused.0 refused.3
