-- How calls on tables end, from what they came to.
use Rattle.std.proofs.Common.{◌≡◌, inl, inr, sym, ap, subst, pos, ℤ}
use Rattle.std.specs.Prelude.{Option, Some, None}
use Rattle.std.specs.Global.{Global}
use Rattle.c_columns.specs.declared.error_fields.ErrorFields.{ErrorFields}
use Rattle.c_tables.specs.TableEnding.{EndsFor, EndsOnBoth, EndsOnFour, EndsOnOne, EndsOnThree, HasTableFields, table_number}
use Rattle.c_tables.specs.TableHandle.{typed_in}
use Rattle.tables.specs.declared.fault.TableError.{TableError}
use Rattle.typed_columns.specs.Typed.{typed_of}
use Rattle.typed_columns.specs.declared.typed_column.TypedColumn.{TypedColumn}

abbrev Kind : Type 1
Kind = TableError → Type 0

-- the form of the column of a handle
pub typed_none : (c : Option (TypedColumn Global)) → c ≡ None → typed_in c ≡ None
typed_none c none = ap typed_in none

pub typed_some : (c : Option (TypedColumn Global)) (column : TypedColumn Global) → c ≡ Some column → typed_in c ≡ Some (typed_of column)
typed_some c column some = ap typed_in some

-- done, or refused for an error of the kind
pub for_done : (Why : Kind) (code : ℤ) (fields : ErrorFields) → code ≡ pos 0 → EndsFor Why code fields
for_done Why code fields is = inl is

pub for_refused : (Why : Kind) (error : TableError) (code : ℤ) (fields : ErrorFields) → Why error → code ≡ pos (table_number error) → HasTableFields error fields → EndsFor Why code fields
for_refused Why error code fields why is has = inr (error, why, (is, has))

-- of one handle
module _ {X : Type 0} (Why : X → Kind) (c : Option X) where
  pub one_empty : (code : ℤ) (fields : ErrorFields) → c ≡ None → code ≡ pos 22 → EndsOnOne Why c code fields
  one_empty code fields none is = subst (λ (h : Option X). EndsOnOne Why h code fields) (sym none) is

  pub one_done : (x : X) (code : ℤ) (fields : ErrorFields) → c ≡ Some x → code ≡ pos 0 → EndsOnOne Why c code fields
  one_done x code fields some is = subst (λ (h : Option X). EndsOnOne Why h code fields) (sym some) (inl is)

  pub one_refused : (x : X) (error : TableError) (code : ℤ) (fields : ErrorFields) → c ≡ Some x → Why x error → code ≡ pos (table_number error) → HasTableFields error fields → EndsOnOne Why c code fields
  one_refused x error code fields some why is has = subst (λ (h : Option X). EndsOnOne Why h code fields) (sym some) (for_refused (Why x) error code fields why is has)

-- of two
module _ {X Y : Type 0} (Why : X → Y → Kind) (c : Option X) (d : Option Y) where
  pub no_first : (code : ℤ) (fields : ErrorFields) → c ≡ None → code ≡ pos 22 → EndsOnBoth Why c d code fields
  no_first code fields none is = subst (λ (h : Option X). EndsOnBoth Why h d code fields) (sym none) is

  pub no_second : (x : X) (code : ℤ) (fields : ErrorFields) → c ≡ Some x → d ≡ None → code ≡ pos 22 → EndsOnBoth Why c d code fields
  no_second x code fields some none is =
      subst (λ (h : Option X). EndsOnBoth Why h d code fields) (sym some) (subst (λ (k : Option Y). EndsOnBoth Why (Some x) k code fields) (sym none) is)

  on_both : (x : X) (y : Y) (code : ℤ) (fields : ErrorFields) → c ≡ Some x → d ≡ Some y → EndsFor (Why x y) code fields → EndsOnBoth Why c d code fields
  on_both x y code fields some other ends =
      subst (λ (h : Option X). EndsOnBoth Why h d code fields) (sym some) (subst (λ (k : Option Y). EndsOnBoth Why (Some x) k code fields) (sym other) ends)

  pub both_done : (x : X) (y : Y) (code : ℤ) (fields : ErrorFields) → c ≡ Some x → d ≡ Some y → code ≡ pos 0 → EndsOnBoth Why c d code fields
  both_done x y code fields some other is = on_both x y code fields some other (inl is)

  pub both_refused : (x : X) (y : Y) (error : TableError) (code : ℤ) (fields : ErrorFields)
      → c ≡ Some x → d ≡ Some y → Why x y error → code ≡ pos (table_number error) → HasTableFields error fields → EndsOnBoth Why c d code fields
  both_refused x y error code fields some other why is has = on_both x y code fields some other (for_refused (Why x y) error code fields why is has)

-- of three
module _ {X Y Z : Type 0} (Why : X → Y → Z → Kind) (c : Option X) (d : Option Y) (e : Option Z) where
  with_first : (x : X) (code : ℤ) (fields : ErrorFields) → c ≡ Some x → EndsOnThree Why (Some x) d e code fields → EndsOnThree Why c d e code fields
  with_first x code fields some ends = subst (λ (h : Option X). EndsOnThree Why h d e code fields) (sym some) ends

  with_two : (x : X) (y : Y) (code : ℤ) (fields : ErrorFields) → c ≡ Some x → d ≡ Some y → EndsOnThree Why (Some x) (Some y) e code fields → EndsOnThree Why c d e code fields
  with_two x y code fields some other ends = with_first x code fields some (subst (λ (k : Option Y). EndsOnThree Why (Some x) k e code fields) (sym other) ends)

  pub none_of_three : (code : ℤ) (fields : ErrorFields) → c ≡ None → code ≡ pos 22 → EndsOnThree Why c d e code fields
  none_of_three code fields none is = subst (λ (h : Option X). EndsOnThree Why h d e code fields) (sym none) is

  pub one_of_three : (x : X) (code : ℤ) (fields : ErrorFields) → c ≡ Some x → d ≡ None → code ≡ pos 22 → EndsOnThree Why c d e code fields
  one_of_three x code fields some none is = with_first x code fields some (subst (λ (k : Option Y). EndsOnThree Why (Some x) k e code fields) (sym none) is)

  pub two_of_three : (x : X) (y : Y) (code : ℤ) (fields : ErrorFields) → c ≡ Some x → d ≡ Some y → e ≡ None → code ≡ pos 22 → EndsOnThree Why c d e code fields
  two_of_three x y code fields some other none is =
      with_two x y code fields some other (subst (λ (l : Option Z). EndsOnThree Why (Some x) (Some y) l code fields) (sym none) is)

  on_three : (x : X) (y : Y) (z : Z) (code : ℤ) (fields : ErrorFields) → c ≡ Some x → d ≡ Some y → e ≡ Some z → EndsFor (Why x y z) code fields → EndsOnThree Why c d e code fields
  on_three x y z code fields some other third ends =
      with_two x y code fields some other (subst (λ (l : Option Z). EndsOnThree Why (Some x) (Some y) l code fields) (sym third) ends)

  pub three_done : (x : X) (y : Y) (z : Z) (code : ℤ) (fields : ErrorFields) → c ≡ Some x → d ≡ Some y → e ≡ Some z → code ≡ pos 0 → EndsOnThree Why c d e code fields
  three_done x y z code fields some other third is = on_three x y z code fields some other third (inl is)

  pub three_refused : (x : X) (y : Y) (z : Z) (error : TableError) (code : ℤ) (fields : ErrorFields)
      → c ≡ Some x → d ≡ Some y → e ≡ Some z → Why x y z error → code ≡ pos (table_number error) → HasTableFields error fields → EndsOnThree Why c d e code fields
  three_refused x y z error code fields some other third why is has = on_three x y z code fields some other third (for_refused (Why x y z) error code fields why is has)

-- of four
module _ {W X Y Z : Type 0} (Why : W → X → Y → Z → Kind) (b : Option W) (c : Option X) (d : Option Y) (e : Option Z) where
  of_first : (w : W) (code : ℤ) (fields : ErrorFields) → b ≡ Some w → EndsOnFour Why (Some w) c d e code fields → EndsOnFour Why b c d e code fields
  of_first w code fields some ends = subst (λ (h : Option W). EndsOnFour Why h c d e code fields) (sym some) ends

  of_two : (w : W) (x : X) (code : ℤ) (fields : ErrorFields) → b ≡ Some w → c ≡ Some x → EndsOnFour Why (Some w) (Some x) d e code fields → EndsOnFour Why b c d e code fields
  of_two w x code fields some other ends = of_first w code fields some (subst (λ (k : Option X). EndsOnFour Why (Some w) k d e code fields) (sym other) ends)

  of_three : (w : W) (x : X) (y : Y) (code : ℤ) (fields : ErrorFields) → b ≡ Some w → c ≡ Some x → d ≡ Some y → EndsOnFour Why (Some w) (Some x) (Some y) e code fields → EndsOnFour Why b c d e code fields
  of_three w x y code fields some other third ends = of_two w x code fields some other (subst (λ (k : Option Y). EndsOnFour Why (Some w) (Some x) k e code fields) (sym third) ends)

  pub none_of_four : (code : ℤ) (fields : ErrorFields) → b ≡ None → code ≡ pos 22 → EndsOnFour Why b c d e code fields
  none_of_four code fields none is = subst (λ (h : Option W). EndsOnFour Why h c d e code fields) (sym none) is

  pub one_of_four : (w : W) (code : ℤ) (fields : ErrorFields) → b ≡ Some w → c ≡ None → code ≡ pos 22 → EndsOnFour Why b c d e code fields
  one_of_four w code fields some none is = of_first w code fields some (subst (λ (k : Option X). EndsOnFour Why (Some w) k d e code fields) (sym none) is)

  pub two_of_four : (w : W) (x : X) (code : ℤ) (fields : ErrorFields) → b ≡ Some w → c ≡ Some x → d ≡ None → code ≡ pos 22 → EndsOnFour Why b c d e code fields
  two_of_four w x code fields some other none is = of_two w x code fields some other (subst (λ (k : Option Y). EndsOnFour Why (Some w) (Some x) k e code fields) (sym none) is)

  pub three_of_four : (w : W) (x : X) (y : Y) (code : ℤ) (fields : ErrorFields) → b ≡ Some w → c ≡ Some x → d ≡ Some y → e ≡ None → code ≡ pos 22 → EndsOnFour Why b c d e code fields
  three_of_four w x y code fields some other third none is =
      of_three w x y code fields some other third (subst (λ (l : Option Z). EndsOnFour Why (Some w) (Some x) (Some y) l code fields) (sym none) is)

  on_four : (w : W) (x : X) (y : Y) (z : Z) (code : ℤ) (fields : ErrorFields) → b ≡ Some w → c ≡ Some x → d ≡ Some y → e ≡ Some z → EndsFor (Why w x y z) code fields → EndsOnFour Why b c d e code fields
  on_four w x y z code fields some other third fourth ends =
      of_three w x y code fields some other third (subst (λ (l : Option Z). EndsOnFour Why (Some w) (Some x) (Some y) l code fields) (sym fourth) ends)

  pub four_done : (w : W) (x : X) (y : Y) (z : Z) (code : ℤ) (fields : ErrorFields) → b ≡ Some w → c ≡ Some x → d ≡ Some y → e ≡ Some z → code ≡ pos 0 → EndsOnFour Why b c d e code fields
  four_done w x y z code fields some other third fourth is = on_four w x y z code fields some other third fourth (inl is)

  pub four_refused : (w : W) (x : X) (y : Y) (z : Z) (error : TableError) (code : ℤ) (fields : ErrorFields)
      → b ≡ Some w → c ≡ Some x → d ≡ Some y → e ≡ Some z → Why w x y z error → code ≡ pos (table_number error) → HasTableFields error fields → EndsOnFour Why b c d e code fields
  four_refused w x y z error code fields some other third fourth why is has = on_four w x y z code fields some other third fourth (for_refused (Why w x y z) error code fields why is has)
