-- Why calls with names are refused: for the names, for what the table has, or for memory.
use Rattle.std.proofs.Common.{◌≡◌, ◌∙◌, ℕ, List, Option, None, Some, ap, inl, inr, refl, subst, sym}
use Rattle.std.specs.Prelude.{◌⊎◌}
use Rattle.std.specs.Global.{Global}
use Rattle.std.specs.Option.{option_or}
use Rattle.std.specs.Str.{IsUtf8}
use Rattle.column_base.specs.declared.error.VortexError.{VortexError}
use Rattle.column_base.specs.declared.error.VortexError.TheVariants.{OutOfMemory, TypeMismatch}
use Rattle.column_core.specs.Refusal.{IsErrorFor}
use Rattle.runend_array.specs.declared.array_ref.ArrayRef.{ArrayRef}
use Rattle.c_tables.specs.TableCalls.{IsNamesRefusal, IsNullDropped, IsPutRefusal, IsRenameRefusal, IsRenamedBy, IsSelectRefusal, IsSelectedBy, names_fault, names_in}
use Rattle.c_tables.specs.TableEnding.{IsFault, IsFaultFirst, IsMemory}
use Rattle.tables.specs.Put.{IsPutError}
use Rattle.tables.specs.TableFaults.{AreAsked, IsRenameError, IsSelectError}
use Rattle.tables.specs.Tables.{IsKept, IsRenaming, IsSelection, TableForm}
use Rattle.tables.specs.WithoutNull.{IsWithoutNull, chosen_names}
use Rattle.tables.specs.declared.fault.TableError.{TableError}
use Rattle.tables.specs.declared.fault.TableError.TheVariants.{Refused}
use Rattle.typed_columns.specs.Typed.{TypedForm}

abbrev Kind : Type 1
Kind = TableError → Type 0

-- the first fault of two
pub first_of_two : (first second : Option VortexError) (error : VortexError) → IsErrorFor first error → IsErrorFor (option_or first second) error
first_of_two first second error (inl short) = inl short
first_of_two None second error (inr has) = cc
first_of_two (Some why) second error (inr has) = inr has

pub second_of_two : (first second : Option VortexError) (error : VortexError) → first ≡ None → IsErrorFor second error → IsErrorFor (option_or first second) error
second_of_two first second error none refused = subst (λ (f : Option VortexError). IsErrorFor (option_or f second) error) (sym none) refused

pub no_two : (first second : Option VortexError) → first ≡ None → second ≡ None → option_or first second ≡ None
no_two first second none other = ap (λ (f : Option VortexError). option_or f second) none ∙ other

pub by_fault : (fault : Option VortexError) (Why : Kind) (error : VortexError) → IsErrorFor fault error → IsNamesRefusal fault Why (Refused error)
by_fault None Why error (inl short) = inl (ap Refused short)
by_fault None Why error (inr has) = cc
by_fault (Some why) Why error (inl short) = inl (ap Refused short)
by_fault (Some why) Why error (inr has) = let same : error ≡ why = cc in inr (ap Refused same)

pub by_memory : (fault : Option VortexError) (Why : Kind) (error : TableError) → IsMemory error → IsNamesRefusal fault Why error
by_memory None Why error short = inl short
by_memory (Some why) Why error short = inl short

pub by_table : (fault : Option VortexError) (Why : Kind) (error : TableError) → fault ≡ None → Why error → IsNamesRefusal fault Why error
by_table fault Why error none refused = subst (λ (f : Option VortexError). IsNamesRefusal f Why error) (sym none) (inr refused)

-- columns that are chosen
module _ (t : TableForm) (names : ArrayRef Global) where
  pub select_refused : (error : VortexError) → IsErrorFor (names_fault names) error → IsSelectRefusal t names (Refused error)
  select_refused error refused = by_fault (names_fault names) (IsSelectError t.names (names_in names)) error refused

  pub select_short : (error : VortexError) → error ≡ OutOfMemory → IsSelectRefusal t names (Refused error)
  select_short error short = by_memory (names_fault names) (IsSelectError t.names (names_in names)) (Refused error) (ap Refused short)

  pub select_by_table : (asked : List (List ℕ)) (error : TableError) → names_fault names ≡ None → asked ≡ names_in names → IsSelectError t.names asked error → IsSelectRefusal t names error
  select_by_table asked error none same refused =
      by_table (names_fault names) (IsSelectError t.names (names_in names)) error none (subst (λ (l : List (List ℕ)). IsSelectError t.names l error) same refused)

  pub select_made : (asked : List (List ℕ)) (after : TableForm) → names_fault names ≡ None → asked ≡ names_in names → IsSelection t asked after → IsSelectedBy t names after
  select_made asked after none same chosen = record { accepted = none; selected = subst (λ (l : List (List ℕ)). IsSelection t l after) same chosen }

  pub null_dropped : (asked : List (List ℕ)) (after : TableForm) → names_fault names ≡ None → asked ≡ names_in names → AreAsked t.names asked → IsWithoutNull t (chosen_names t.names asked) after → IsKept t after → IsNullDropped t names after
  null_dropped asked after none same allowed valid kept =
      record { accepted = none; allowed = subst (AreAsked t.names) same allowed; valid = subst (λ (l : List (List ℕ)). IsWithoutNull t (chosen_names t.names l) after) same valid; kept = kept }

-- columns that are renamed
module _ (t : TableForm) (names new_names : ArrayRef Global) where
  abbrev fault : Option VortexError
  fault = option_or (names_fault names) (names_fault new_names)

  pub rename_refused : (error : VortexError) → IsErrorFor (names_fault names) error → IsRenameRefusal t names new_names (Refused error)
  rename_refused error refused = by_fault fault (IsRenameError t.names (names_in names) (names_in new_names)) error (first_of_two (names_fault names) (names_fault new_names) error refused)

  pub rename_new_refused : (error : VortexError) → names_fault names ≡ None → IsErrorFor (names_fault new_names) error → IsRenameRefusal t names new_names (Refused error)
  rename_new_refused error none refused =
      by_fault fault (IsRenameError t.names (names_in names) (names_in new_names)) error (second_of_two (names_fault names) (names_fault new_names) error none refused)

  pub rename_short : (error : VortexError) → error ≡ OutOfMemory → IsRenameRefusal t names new_names (Refused error)
  rename_short error short = by_memory fault (IsRenameError t.names (names_in names) (names_in new_names)) (Refused error) (ap Refused short)

  pub rename_by_table : (asked given : List (List ℕ)) (error : TableError) → names_fault names ≡ None → names_fault new_names ≡ None → asked ≡ names_in names → given ≡ names_in new_names → IsRenameError t.names asked given error
      → IsRenameRefusal t names new_names error
  rename_by_table asked given error none other same same_new refused =
      by_table fault (IsRenameError t.names (names_in names) (names_in new_names)) error (no_two (names_fault names) (names_fault new_names) none other)
      (subst (λ (l : List (List ℕ)). IsRenameError t.names (names_in names) l error) same_new (subst (λ (l : List (List ℕ)). IsRenameError t.names l given error) same refused))

  pub rename_made : (asked given : List (List ℕ)) (after : TableForm) → names_fault names ≡ None → names_fault new_names ≡ None → asked ≡ names_in names → given ≡ names_in new_names → IsRenaming t asked given after
      → IsRenamedBy t names new_names after
  rename_made asked given after none other same same_new made = record {
    accepted = no_two (names_fault names) (names_fault new_names) none other;
    renamed = subst (λ (l : List (List ℕ)). IsRenaming t (names_in names) l after) same_new (subst (λ (l : List (List ℕ)). IsRenaming t l given after) same made);
  }

-- a column that is put
module _ (name : List ℕ) (t : TableForm) (column : TypedForm) where
  pub put_no_text : (error : VortexError) → (IsUtf8 name × (error ≡ OutOfMemory)) ⊎ ((¬ IsUtf8 name) × (error ≡ TypeMismatch)) → IsPutRefusal name t column (Refused error)
  put_no_text error (inl short) = inr (short.0, inl (ap Refused short.1))
  put_no_text error (inr other) = inl (ap Refused other.1, other.0)

  pub put_short : (error : VortexError) → IsUtf8 name → error ≡ OutOfMemory → IsPutRefusal name t column (Refused error)
  put_short error text short = inr (text, inl (ap Refused short))

  pub put_by_table : (under : List ℕ) (copy : TypedForm) (error : TableError) → IsUtf8 name → under ≡ name → copy ≡ column → IsPutError t under copy error → IsPutRefusal name t column error
  put_by_table under copy error text same equal refused =
      inr (text, inr (subst (λ (c : TypedForm). IsPutError t name c error) equal (subst (λ (n : List ℕ). IsPutError t n copy error) same refused)))

-- a fault that comes first
pub fault_first : (fault : Option VortexError) (error : VortexError) → option_or fault (Some OutOfMemory) ≡ Some error → IsFaultFirst fault (Refused error)
fault_first fault error is = (error, refl, is)

pub memory_last : (fault : Option VortexError) (error : VortexError) → fault ≡ None → error ≡ OutOfMemory → IsFaultFirst fault (Refused error)
memory_last fault error none short = (error, refl, ap (λ (f : Option VortexError). option_or f (Some OutOfMemory)) none ∙ ap Some (sym short))

pub fault_only : (fault : Option VortexError) (error : VortexError) → fault ≡ Some error → IsFault fault (Refused error)
fault_only fault error is = (error, refl, is)
