-- Tables of the rows at which columns are not null.
use Rattle.std.proofs.Common.{◌≡◌, ◌∙◌, ℕ, List, [], ◌∷◌, Bool, false, true, None, Option, ap, arith, length, map, refl, subst, sym}
use Rattle.std.specs.Prelude.{◌==◌, All, Err, IfErr, IsErrAnd, IsOkUnless, Ok, Result, String, count_by}
use Rattle.std.specs.List.{AllZip}
use Rattle.std.specs.Option.{option_or}
use Rattle.std.specs.String.{string_bytes}
use Rattle.std.proofs.lemmas.Bool.Decides.{Decides-eqb}
use Rattle.std.proofs.lemmas.Option.{slice_get-get_or}
use Rattle.column_base.specs.declared.dtype.DType.{DType}
use Rattle.column_base.specs.declared.dtype.DType.TheVariants as column
use Rattle.column_base.specs.declared.dtype.Nullability.TheVariants.{NonNullable}
use Rattle.column_base.specs.declared.error.VortexError.{VortexError}
use Rattle.column_base.specs.declared.error.VortexError.TheVariants.{OutOfMemory}
use Rattle.column_core.specs.Value.{Value}
use Rattle.column_ops.specs.Filter.{filter_fault, filter_rows}
use Rattle.runend_array.specs.Array.{rows}
use Rattle.runend_array.specs.Column.{column_rows}
use Rattle.runend_column.proofs.FilterFaults.{no_fault}
use Rattle.row_stretches.specs.Masks.{mask_fault, truths_of}
use Rattle.typed_columns.specs.declared.typed_column.TypedColumn.{TypedColumn}
use Rattle.typed_columns.specs.Typed.{TypedForm, typed_of}
use Rattle.tables.specs.declared.fault.TableError.{TableError}
use Rattle.tables.specs.declared.fault.TableError.TheVariants.{Refused}
use Rattle.tables.specs.TableFaults.{AreAsked, IsRefusedFirstBy, IsSelectError}
use Rattle.tables.specs.Tables.{IsKnown, IsNamed, TableForm, rows_of}
use Rattle.tables.specs.WithoutNull.{IsWithoutNull, chosen_names, valid_places}
use Rattle.tables.proofs.Keyed.{rows_held}
use Rattle.tables.proofs.SelectedRows.{short_of_first}
use Rattle.tables.proofs.ValidMasks.{mask_long}

-- each name of a table is known
known_own : (names : List (List ℕ)) → All (IsKnown names) names
known_own names = λ k d within. record { place = k; there = record { within = within; there = slice_get-get_or names k d within } }

-- the names that are chosen
pub chosen_none : {A : Type 0} (own : List (List ℕ)) (names : List (String A)) → (length names == 0) ≡ true → own ≡ chosen_names own (map string_bytes names)
chosen_none own [] none = refl
chosen_none own (name ∷ names) none = absurd (omega (arith, (Decides-eqb (length (name ∷ names)) 0).0 none))

pub chosen_some : {A : Type 0} (own : List (List ℕ)) (names : List (String A)) → (length names == 0) ≡ false → map string_bytes names ≡ chosen_names own (map string_bytes names)
chosen_some own [] some = let never : true ≡ false = sym ((Decides-eqb 0 0).1 refl) ∙ some in absurd (cc)
chosen_some own (name ∷ names) some = refl

pub chosen_known : (own names : List (List ℕ)) → AreAsked own names → All (IsKnown own) (chosen_names own names)
chosen_known own [] asked = known_own own
chosen_known own (name ∷ names) asked = asked.known

-- where memory was refused for rows without null
pub short_of_valid : {T : Type 0} (result : Result T TableError) (own names : List (List ℕ)) (error : VortexError) → IsErrAnd result (λ given. given ≡ Refused error) → error ≡ OutOfMemory → AreAsked own names → IfErr result (IsSelectError own names)
short_of_valid (Ok value) own names error given short asked = absurd given
short_of_valid (Err other) own names error given short asked = subst (IsSelectError own names) (sym given) (short, asked)

-- a mask of as many rows as a table has no fault
pub valid_mask_fits : (mask : List (Option Value)) (dtype : DType) (columns : List (List (Option Value))) (count : ℕ) → dtype ≡ column.Bool NonNullable → truths_of mask ≡ valid_places columns count
    → option_or (mask_fault dtype) (filter_fault (length mask) count) ≡ None
valid_mask_fits mask dtype columns count typed truths =
    let long : length mask ≡ count = mask_long mask columns count truths in
    ap (λ (t : DType). option_or (mask_fault t) (filter_fault (length mask) count)) typed ∙ no_fault (length mask) count long

-- what has no fault is refused only for memory
pub short_first : {T : Type 0} (fault : Option VortexError) (result : Result T VortexError) → fault ≡ None → IsRefusedFirstBy fault result → IsOkUnless result OutOfMemory
short_first fault (Ok value) none first = tt
short_first fault (Err error) none first = short_of_first fault error none first

-- the table of the rows that a mask selects
pub valid_table : {A : Type 0} (before after : TableForm) (names : List (List ℕ)) (columns : List (TypedColumn A)) (bits : List Bool) → AllZip (IsNamed before) names (map typed_of columns)
    → bits ≡ valid_places (map (λ (c : TypedColumn A). rows c.array) columns) before.count → rows_of after ≡ map (filter_rows bits) (rows_of before) → after.count ≡ count_by (λ bit. bit) bits → IsWithoutNull before names after
valid_table {A} before after names columns bits named valid shown counted =
    let same : bits ≡ valid_places (map (λ (c : TypedForm). column_rows c.column) (map typed_of columns)) before.count = valid ∙ ap (λ (all : List (List (Option Value))). valid_places all before.count) (sym (rows_held columns)) in
    record {
      columns = map typed_of columns;
      named = named;
      rows = shown ∙ ap (λ (b : List Bool). map (filter_rows b) (rows_of before)) same;
      count = counted ∙ ap (count_by (λ (bit : Bool). bit)) same;
    }
