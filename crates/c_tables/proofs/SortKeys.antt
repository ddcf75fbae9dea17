-- Names and flags as the keys by which rows are put in order.
use Rattle.std.proofs.Common.{◌≡◌, ◌∙◌, ◌+◌, ◌<◌, ◌++◌, ℕ, Bool, true, false, List, [], ◌∷◌, Option, None, Some, ap, get_or, inl, inr, length, map, refl, subst, sym, take}
use Rattle.std.specs.Global.{Global}
use Rattle.std.specs.Prelude.{◌==◌, Err, IfErr, IsErrAnd, Ok, Result, if◌then◌else◌, slice_get}
use Rattle.std.specs.Option.{option_or}
use Rattle.std.specs.String.{string_bytes}
use Rattle.std.proofs.lemmas.Bool.Decides.{Decides-eqb}
use Rattle.std.proofs.lemmas.List.{map-append, take_more}
use Rattle.column_base.specs.declared.dtype.DType.{DType}
use Rattle.column_base.specs.declared.error.VortexError.{VortexError}
use Rattle.column_base.specs.declared.error.VortexError.TheVariants.{ColumnLength, OutOfMemory}
use Rattle.column_core.specs.Refusal.{IsErrorFor, IsRefusedBy, first_fault}
use Rattle.column_core.specs.Value.{Value}
use Rattle.column_ops.specs.CompareFault.{length_fault}
use Rattle.runend_array.specs.Array.{dtype_of, rows}
use Rattle.runend_array.specs.declared.array_ref.ArrayRef.{ArrayRef}
use Rattle.row_groups.specs.declared.keys.RowOrder.{RowOrder}
use Rattle.c_tables.specs.Sorts.{IsSortRefusal, IsSortedBy, keys_fault, order_by, shape_fault}
use Rattle.c_tables.specs.TableCalls.{names_in, row_name_fault, text_fault}
use Rattle.c_tables.proofs.NameRows.{after_none, fault_front}
use Rattle.c_tables.proofs.Refusals.{by_fault, by_memory, by_table}
use Rattle.tables.specs.KeyFaults.{IsKeysError}
use Rattle.tables.specs.Sorting.{IsSorting, KeyForm, key_of}
use Rattle.tables.specs.Tables.{IsKept, TableForm}
use Rattle.tables.specs.declared.fault.TableError.{TableError}
use Rattle.tables.specs.declared.fault.TableError.TheVariants.{Refused}
use Rattle.tables.specs.declared.sort.KeyOrder.{KeyOrder}

equal_by : (b : Bool) (m n : ℕ) → (m == n) ≡ b → (if b then None else Some (ColumnLength m n)) ≡ None → m ≡ n
equal_by true m n is none = (Decides-eqb m n).0 is
equal_by false m n is none = cc

-- names of keys have a flag each
pub one_flag_each : (dtype : DType) (names count : ℕ) → shape_fault dtype names count ≡ None → names ≡ count
one_flag_each dtype names count none = equal_by (names == count) names count refl (after_none (text_fault dtype) (length_fault names count) none).1

module _ (names : ArrayRef Global) (flags : List ℕ) where
  abbrev shape : Option VortexError
  shape = shape_fault (dtype_of names) (length (rows names)) (length flags)

  -- a row without a name refuses the keys
  pub key_refused : {T : Type 0} (row : ℕ) (item : Option Value) (error : VortexError) (result : Result T VortexError) → shape ≡ None → slice_get (rows names) row ≡ Some item → first_fault row_name_fault (take row (rows names)) ≡ None
      → IsErrorFor (row_name_fault item) error → IsErrAnd result (λ passed. passed ≡ error) → IsRefusedBy (keys_fault names flags) result
  key_refused row item error (Ok value) none there fine refused passed = absurd passed
  key_refused row item error (Err other) none there fine (inl short) passed = inl (passed ∙ short)
  key_refused row item error (Err other) none there fine (inr has) passed =
      inr (ap (λ (f : Option VortexError). option_or f (first_fault row_name_fault (rows names))) none ∙ fault_front row_name_fault (rows names) row item other there fine (has ∙ ap Some (sym passed)))

  pub keys_fine : shape ≡ None → first_fault row_name_fault (rows names) ≡ None → keys_fault names flags ≡ None
  keys_fine none fine = ap (λ (f : Option VortexError). option_or f (first_fault row_name_fault (rows names))) none ∙ fine

  shape_first : (fault : Option VortexError) (why : VortexError) → fault ≡ Some why → option_or fault (first_fault row_name_fault (rows names)) ≡ Some why
  shape_first fault why has = ap (λ (f : Option VortexError). option_or f (first_fault row_name_fault (rows names))) has

  pub shape_refused : (why : VortexError) → shape ≡ Some why → keys_fault names flags ≡ Some why
  shape_refused why has = shape_first shape why has

  module _ (t : TableForm) where
    pub sort_refused : (error : VortexError) → IsErrorFor (keys_fault names flags) error → IsSortRefusal names flags t (Refused error)
    sort_refused error refused = by_fault (keys_fault names flags) (IsKeysError t (names_in names)) error refused

    pub sort_short : (error : VortexError) → error ≡ OutOfMemory → IsSortRefusal names flags t (Refused error)
    sort_short error short = by_memory (keys_fault names flags) (IsKeysError t (names_in names)) (Refused error) (ap Refused short)

    pub sort_by_table : (asked : List (List ℕ)) (error : TableError) → keys_fault names flags ≡ None → asked ≡ names_in names → IsKeysError t asked error → IsSortRefusal names flags t error
    sort_by_table asked error none same refused =
        by_table (keys_fault names flags) (IsKeysError t (names_in names)) error none (subst (λ (l : List (List ℕ)). IsKeysError t l error) same refused)

    names_of_keys : (keys : List (KeyOrder Global)) → map (λ (k : KeyForm). k.name) (map key_of keys) ≡ map (λ (k : KeyOrder Global). string_bytes k.name) keys
    names_of_keys [] = refl
    names_of_keys (key ∷ keys) = ap (λ (l : List (List ℕ)). string_bytes key.name ∷ l) (names_of_keys keys)

    orders_of_keys : (keys : List (KeyOrder Global)) → map (λ (k : KeyForm). k.order) (map key_of keys) ≡ map (λ (k : KeyOrder Global). k.order) keys
    orders_of_keys [] = refl
    orders_of_keys (key ∷ keys) = ap (λ (l : List RowOrder). key.order ∷ l) (orders_of_keys keys)

    pub sort_made : (keys : List (KeyOrder Global)) (made after : TableForm) → after ≡ made → keys_fault names flags ≡ None → map (λ key. string_bytes key.name) keys ≡ names_in names → map (λ key. key.order) keys ≡ map order_by flags
        → IsSorting t (map key_of keys) made → made.count ≡ t.count → IsKept t made → IsSortedBy names flags t after
    sort_made keys made after back none named ordered sorted counted stays =
        subst (λ (u : TableForm). IsSortedBy names flags t u) (sym back) (record {
          accepted = none;
          keys = map key_of keys;
          named = names_of_keys keys ∙ named;
          ordered = orders_of_keys keys ∙ ordered;
          sorted = sorted;
          count = counted;
          kept = stays;
        })

    -- what refuses the table's own sort refuses this one
    pub sort_failed : {T : Type 0} (result : Result T TableError) (keys lent : List (KeyOrder Global)) (error : TableError) → keys_fault names flags ≡ None → lent ≡ keys → map (λ key. string_bytes key.name) keys ≡ names_in names
        → IsKeysError t (map (λ key. string_bytes key.name) lent) error → IsErrAnd result (λ passed. passed ≡ error) → IfErr result (IsSortRefusal names flags t)
    sort_failed (Ok value) keys lent error none same named refused passed = tt
    sort_failed (Err other) keys lent error none same named refused passed =
        let asked = map (λ (key : KeyOrder Global). string_bytes key.name) in
        sort_by_table (asked lent) other none (ap asked same ∙ named) (subst (IsKeysError t (asked lent)) (sym passed) refused)

-- one order more
pub orders_more : (flags : List ℕ) (row : ℕ) (orders : List RowOrder) (order : RowOrder) → row < length flags → orders ≡ map order_by (take row flags) → order ≡ order_by (get_or flags row 0) → orders ++ order ∷ [] ≡ map order_by (take (row + 1) flags)
orders_more flags row orders order within so_far is =
    ap (λ (l : List RowOrder). l ++ order ∷ []) so_far ∙ ap (λ (o : RowOrder). map order_by (take row flags) ++ o ∷ []) is
    ∙ sym (ap (map order_by) (take_more flags row 0 within) ∙ map-append order_by (take row flags) (get_or flags row 0 ∷ []))
