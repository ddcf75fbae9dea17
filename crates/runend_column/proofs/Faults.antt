-- Faults of one test as faults of the whole call.
use Rattle.std.proofs.Common.{◌≡◌, ◌≢◌, ◌↔◌, inl, inr, ℕ, List, Err, Ok, Result, refl, sym, ◌∙◌, arith, IfErr, IsErrAnd, MatchResult, subst}
use Rattle.std.proofs.lemmas.Bool.{cases_lt}
use Rattle.column_base.specs.Error.{number_of}
use Rattle.column_base.specs.declared.dtype.DType.{DType}
use Rattle.column_base.specs.declared.error.VortexError.{VortexError}
use Rattle.column_base.specs.declared.error.VortexError.TheVariants.{BadMetadata, EndsTypeNumber, OutOfMemory, RunCount, TypeMismatch}
use Rattle.column_fields.specs.RecordFields.{IsRecord, Means, StatesUnknownEndsType, last_value, meaning}
use Rattle.column_fields.specs.declared.metadata.RunEndMetadata.{RunEndMetadata}
use Rattle.runend_array.specs.Column.{Column}
use Rattle.runend_array.specs.Fault.{PartsFault}
use Rattle.runend_column.specs.Fault.{AreStatedSlots, RecordFault, SlotsFault}

-- one answer has one error
same_number : (read : Result RunEndMetadata VortexError) (e f : VortexError) → read ≡ Err e → read ≡ Err f → number_of e ≡ number_of f
same_number read e f is h = let same : Err e ≡ Err f = sym is ∙ h in subst (λ (r : Result RunEndMetadata VortexError). IfErr r (λ g. number_of e ≡ number_of g)) same refl

-- where reading answers each record, each unknown type of ends and each failure as it should, it answers nothing else
no_other_error : (bytes : List ℕ) (read : Result RunEndMetadata VortexError) (e : VortexError) → read ≡ Err e → number_of e ≢ 17 → number_of e ≢ 18
    → ((m : RunEndMetadata) → (read ≡ Ok m) ↔ Means bytes m)
    → ((n : ℕ) → (read ≡ Err (EndsTypeNumber n)) ↔ StatesUnknownEndsType bytes n)
    → ((read ≡ Err BadMetadata) ↔ (¬ IsRecord bytes)) → ⊥
no_other_error bytes read e is not_bad not_unknown ok unknown bad =
    not_bad (same_number read e BadMetadata is (bad.1 (λ spelt. elim (cases_lt 3 (last_value 1 spelt.0)) [
      | inl above ↦ not_unknown (same_number read e (EndsTypeNumber (last_value 1 spelt.0)) is ((unknown (last_value 1 spelt.0)).1 (spelt.0, spelt.1, above, refl)))
      | inr known ↦ let h = (ok (meaning spelt.0)).1 (spelt.0, spelt.1, known, refl) in let clash = sym is ∙ h in cc
    ])))

-- the error of reading the bytes is a fault
pub fault_of_bytes : (bytes : List ℕ) (dtype : DType) (count : ℕ) (ends values : Column) (read : Result RunEndMetadata VortexError) (e : VortexError) → read ≡ Err e
    → ((m : RunEndMetadata) → (read ≡ Ok m) ↔ Means bytes m)
    → ((n : ℕ) → (read ≡ Err (EndsTypeNumber n)) ↔ StatesUnknownEndsType bytes n)
    → ((read ≡ Err BadMetadata) ↔ (¬ IsRecord bytes)) → RecordFault bytes dtype count ends values e
fault_of_bytes bytes dtype count ends values read BadMetadata is ok unknown bad = bad.0 is
fault_of_bytes bytes dtype count ends values read (EndsTypeNumber n) is ok unknown bad = (unknown n).0 is
fault_of_bytes bytes dtype count ends values read e is ok unknown bad = absurd (no_other_error bytes read _ is (λ h. omega (arith, h)) (λ h. omega (arith, h)) ok unknown bad)

-- a fault of the slots under the record of the bytes is a fault
pub fault_of_slots : (bytes : List ℕ) (m : RunEndMetadata) (dtype : DType) (count : ℕ) (ends values : Column) (e : VortexError) → Means bytes m
    → SlotsFault m dtype ends values e → RecordFault bytes dtype count ends values e
fault_of_slots bytes m dtype count ends values TypeMismatch means fault = (m, means, inl fault)
fault_of_slots bytes m dtype count ends values (RunCount stated found) means fault = (m, means, inl fault)
fault_of_slots bytes m dtype count ends values e means fault = absurd fault

-- a fault of the window under the record of the bytes is a fault
pub fault_of_parts : (bytes : List ℕ) (m : RunEndMetadata) (dtype : DType) (count : ℕ) (ends values : Column) (e : VortexError) → Means bytes m → AreStatedSlots m dtype ends values
    → PartsFault ends values m.offset count e → RecordFault bytes dtype count ends values e
fault_of_parts bytes m dtype count ends values BadMetadata means slots fault = absurd fault.1
fault_of_parts bytes m dtype count ends values (EndsTypeNumber n) means slots fault = absurd fault.1
fault_of_parts bytes m dtype count ends values e means slots fault = (m, means, inr (slots, fault))

-- refused memory is not a fault
pub no_fault_of_memory : (bytes : List ℕ) (dtype : DType) (count : ℕ) (ends values : Column) (e : VortexError) → RecordFault bytes dtype count ends values e → e ≢ OutOfMemory
no_fault_of_memory bytes dtype count ends values e fault is =
    let stated = subst (RecordFault bytes dtype count ends values) is fault in
    elim stated.2 [ inl slots ↦ absurd slots | inr parts ↦ absurd parts.1.1 ]

-- an error that is passed on
pub passed_on : {T : Type 0} (P : T → Type 0) (Q : VortexError → Type 0) (r : Result T VortexError) (e : VortexError) → IsErrAnd r (λ f. f ≡ e) → Q e → MatchResult r P Q
passed_on P Q (Ok value) e passed fault = absurd passed
passed_on P Q (Err other) e passed fault = rw passed fault

-- an error that is passed on is none of memory
pub no_want_of_memory : {T : Type 0} (bytes : List ℕ) (dtype : DType) (count : ℕ) (ends values : Column) (r : Result T VortexError) (e : VortexError)
    → IsErrAnd r (λ f. f ≡ e) → RecordFault bytes dtype count ends values e → r ≢ Err OutOfMemory
no_want_of_memory bytes dtype count ends values (Ok value) e passed fault is = absurd passed
no_want_of_memory {T} bytes dtype count ends values (Err other) e passed fault is =
    let same : other ≡ OutOfMemory = subst (λ (r : Result T VortexError). IfErr r (λ g. other ≡ g)) is refl in
    no_fault_of_memory bytes dtype count ends values e fault (sym passed ∙ same)
