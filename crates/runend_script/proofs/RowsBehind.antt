-- Columns to which rows are appended.
use Rattle.std.proofs.Common.{◌≡◌, ◌∙◌, ◌+◌, ◌<◌, ◌^◌, ℕ, List, [], Option, Some, None, length, map, replicate, inl, inr, refl, sym, ap, subst}
use Rattle.std.specs.Prelude.{◌≢◌, IfOk, IsErrAnd, IsOkUnless, Result, Ok, Err, option_map}
use Rattle.std.specs.Option.{option_or}
use Rattle.std.proofs.lemmas.Bool.Decides.{Decides-ltb}
use Rattle.std.proofs.lemmas.List.{length-map}
use Rattle.column_base.specs.declared.dtype.DType.{DType}
use Rattle.column_base.specs.declared.dtype.DType.TheVariants as column
use Rattle.column_base.specs.declared.dtype.Nullability.{Nullability}
use Rattle.column_base.specs.declared.dtype.PType.{PType}
use Rattle.column_base.specs.declared.error.VortexError.{VortexError}
use Rattle.column_base.specs.declared.error.VortexError.TheVariants.{OutOfMemory}
use Rattle.column_core.specs.Kinds.{list_fault}
use Rattle.column_core.specs.Refusal.{IsErrorFor, IsRefusedBy}
use Rattle.column_core.specs.SameType.{same_dtype-decides}
use Rattle.column_core.specs.ScalarForm.{ScalarForm}
use Rattle.column_core.specs.Value.{Number, Single, Value}
use Rattle.runend_array.specs.Array.{column_of, dtype_of, rows}
use Rattle.runend_array.specs.Column.{Runs, column_of_runs}
use Rattle.runend_array.specs.declared.array_ref.ArrayRef.{ArrayRef}
use Rattle.runend_builder.specs.Builder.{Built, append_fault, scalar_row}
use Rattle.runend_builder.specs.Encoded.{IsEncodedRows}
use Rattle.runend_script.specs.Scalars.{ReadsScalar}
use Rattle.runend_script.specs.declared.command.RowWords.TheVariants.{Integers}
use Rattle.runend_script.specs.Lengthened.{IsAppended, IsEncodingOf, IsLengthened, IsRepeated, ListsArray, ListsRows, lengthening_fault}
use Rattle.runend_script.specs.declared.scripts.Reply.TheVariants.{Done}

-- the error of a first fault is that of both
pub first_error : (own fault : Option VortexError) (error : VortexError) → IsErrorFor own error → IsErrorFor (option_or own fault) error
first_error own fault error (inl short) = inl short
first_error own fault error (inr is) = inr (rw is refl)

-- and that of the second, without a first
pub next_error : (own fault : Option VortexError) (error : VortexError) → own ≡ None → IsErrorFor fault error → IsErrorFor (option_or own fault) error
next_error own fault error none for = subst (λ first. IsErrorFor (option_or first fault) error) (sym none) for

-- where there is neither, only memory refuses
pub by_memory : {T : Type 0} (own fault : Option VortexError) (result : Result T VortexError) → own ≡ None → fault ≡ None → IsOkUnless result OutOfMemory → IsRefusedBy (option_or own fault) result
by_memory own fault (Ok value) none fits only = rw none fits
by_memory own fault (Err error) none fits only = inl only

-- an error that is passed on
pub passed_on : {T : Type 0} (P : Result T VortexError → Type 0) (error : VortexError) (result : Result T VortexError) → IsErrAnd result (λ other. other ≡ error) → P (Err error) → P result
passed_on P error (Ok value) passed for = absurd passed
passed_on P error (Err other) passed for = subst (λ e. P (Err e)) (sym passed) for

-- a builder without rows takes fewer than 2^64 rows of its type, so that only memory refuses them
takes_own : (dtype : DType) (count : ℕ) → 0 + count < 2 ^ 64 → append_fault dtype dtype 0 count ≡ None
takes_own dtype count small = rw ((same_dtype-decides dtype dtype).1 refl, (Decides-ltb (0 + count) (2 ^ 64)).1 small) refl

pub own_refused : (built : Built) (dtype : DType) (count : ℕ) (own : Option VortexError) (error : VortexError) → built.dtype ≡ dtype → built.rows ≡ [] → 0 + count < 2 ^ 64
    → IsErrorFor (append_fault built.dtype dtype (length built.rows) count) error → IsErrorFor own error
own_refused built dtype count own error typed none small (inl short) = inl short
own_refused built dtype count own error typed none small (inr is) =
    let takes : append_fault built.dtype dtype (length built.rows) count ≡ None = rw (typed, none) (takes_own dtype count small) in
    let both : None ≡ Some error = sym takes ∙ is in cc

-- a run column that is the encoding of rows, as a column of any form
pub encoding_as : {A E : Type 0} (all : List (Option Value)) (dtype : DType) (runs : Runs) (result : Result (ArrayRef A) E) → IsEncodedRows all dtype runs
    → IfOk result (λ array. column_of array ≡ column_of_runs runs) → IfOk result (IsEncodingOf all dtype)
encoding_as all dtype runs (Ok array) encoded same = (runs, same, encoded)
encoding_as all dtype runs (Err error) encoded same = tt

-- the encoding of a builder's rows, where these are known
pub encoding_of_built : {A E : Type 0} (built : Built) (all : List (Option Value)) (dtype : DType) (result : Result (ArrayRef A) E) → built.rows ≡ all → built.dtype ≡ dtype
    → IfOk result (IsEncodingOf built.rows built.dtype) → IfOk result (IsEncodingOf all dtype)
encoding_of_built built all dtype result shown typed encoded =
    subst (λ t. IfOk result (IsEncodingOf all t)) typed (subst (λ rs. IfOk result (IsEncodingOf rs built.dtype)) shown encoded)

-- a type of integers is none of lists
no_list : (dtype : DType) (ptype : PType) (nullability : Nullability) → dtype ≡ column.Primitive ptype nullability → list_fault dtype ≡ None
no_list dtype ptype nullability is = rw is refl

-- nor is the type of a scalar that a word means
no_list-of_scalar : (dtype : DType) (word : List ℕ) (value : ScalarForm) → ReadsScalar dtype word (Some value) → list_fault dtype ≡ None
no_list-of_scalar (column.Bool n) word value reads = refl
no_list-of_scalar (column.Primitive ptype n) word value reads = refl
no_list-of_scalar (column.Decimal d n) word value reads = refl
no_list-of_scalar (column.Utf8 n) word value reads = refl
no_list-of_scalar (column.Binary n) word value reads = refl
no_list-of_scalar (column.List e n) word value reads = absurd reads

-- a type that is not of integers has no row that a word means
pub lists_none : (dtype : DType) (words : List (List ℕ)) → ((ptype : PType) (nullability : Nullability) → dtype ≢ column.Primitive ptype nullability) → ListsRows dtype words None
lists_none (column.Bool n) words other = tt
lists_none (column.Primitive ptype n) words other = absurd (other ptype n refl)
lists_none (column.Decimal d n) words other = tt
lists_none (column.Utf8 n) words other = tt
lists_none (column.Binary n) words other = tt
lists_none (column.List e n) words other = tt

-- a builder's fault at the rows that words mean
listed_fault : {A : Type 0} (before batch : ArrayRef A) (ptype : PType) (nullability : Nullability) (words : List (List ℕ)) (fault : Option VortexError) → dtype_of before ≡ column.Primitive ptype nullability
    → dtype_of batch ≡ column.Primitive ptype nullability → (listed : ListsArray (Integers ptype) nullability words (Some batch))
    → option_or (list_fault (dtype_of before)) (lengthening_fault before (dtype_of batch) (length (rows batch))) ≡ fault → lengthening_fault before (dtype_of before) (length listed.0) ≡ fault
listed_fault before batch ptype nullability words fault typed batch_typed listed is =
    let long : length (rows batch) ≡ length listed.0 = ap length listed.2 ∙ length-map (map (option_map Number) listed.0) (option_map Single) ∙ length-map listed.0 (option_map Number) in
    subst (λ t. lengthening_fault before t (length listed.0) ≡ fault) (batch_typed ∙ sym typed) (subst (λ k. lengthening_fault before (dtype_of batch) k ≡ fault) long
    (subst (λ own. option_or own (lengthening_fault before (dtype_of batch) (length (rows batch))) ≡ fault) (no_list (dtype_of before) ptype nullability typed) is))

-- an `append` line that is done
pub appended_done : {A : Type 0} (before batch after : ArrayRef A) (ptype : PType) (nullability : Nullability) (words : List (List ℕ)) → dtype_of before ≡ column.Primitive ptype nullability
    → dtype_of batch ≡ column.Primitive ptype nullability → ListsArray (Integers ptype) nullability words (Some batch)
    → option_or (list_fault (dtype_of before)) (lengthening_fault before (dtype_of batch) (length (rows batch))) ≡ None → IsLengthened before (rows batch) after
    → IsAppended before words (Ok Done) after
appended_done before batch after ptype nullability words typed batch_typed listed none whole = (
  listed.0,
  subst (λ t. ListsRows t words (Some listed.0)) (sym typed) listed.1,
  listed_fault before batch ptype nullability words None typed batch_typed listed none,
  subst (λ more. IsLengthened before more after) listed.2 whole,
)

-- and one that is refused
pub appended_refused : {A : Type 0} (before batch after : ArrayRef A) (ptype : PType) (nullability : Nullability) (words : List (List ℕ)) (error : VortexError)
    → dtype_of before ≡ column.Primitive ptype nullability → dtype_of batch ≡ column.Primitive ptype nullability → ListsArray (Integers ptype) nullability words (Some batch)
    → IsErrorFor (option_or (list_fault (dtype_of before)) (lengthening_fault before (dtype_of batch) (length (rows batch)))) error → IsAppended before words (Err error) after
appended_refused before batch after ptype nullability words error typed batch_typed listed (inl short) = inl short
appended_refused before batch after ptype nullability words error typed batch_typed listed (inr fault) =
    inr (listed.0, subst (λ t. ListsRows t words (Some listed.0)) (sym typed) listed.1, listed_fault before batch ptype nullability words (Some error) typed batch_typed listed fault)

-- the same of a `repeat` line
repeated_fault : {A : Type 0} (before : ArrayRef A) (word : List ℕ) (count : ℕ) (value : ScalarForm) (fault : Option VortexError) → ReadsScalar (dtype_of before) word (Some value)
    → option_or (list_fault (dtype_of before)) (lengthening_fault before value.dtype count) ≡ fault → lengthening_fault before value.dtype count ≡ fault
repeated_fault before word count value fault reads is =
    subst (λ own. option_or own (lengthening_fault before value.dtype count) ≡ fault) (no_list-of_scalar (dtype_of before) word value reads) is

pub repeated_done : {A : Type 0} (before after : ArrayRef A) (word : List ℕ) (count : ℕ) (value : ScalarForm) → ReadsScalar (dtype_of before) word (Some value)
    → option_or (list_fault (dtype_of before)) (lengthening_fault before value.dtype count) ≡ None → IsLengthened before (replicate count (scalar_row value)) after → IsRepeated before word count (Ok Done) after
repeated_done before after word count value reads none whole = (value, reads, repeated_fault before word count value None reads none, whole)

pub repeated_refused : {A : Type 0} (before after : ArrayRef A) (word : List ℕ) (count : ℕ) (value : ScalarForm) (error : VortexError) → ReadsScalar (dtype_of before) word (Some value)
    → IsErrorFor (option_or (list_fault (dtype_of before)) (lengthening_fault before value.dtype count)) error → IsRepeated before word count (Err error) after
repeated_refused before after word count value error reads (inl short) = inl short
repeated_refused before after word count value error reads (inr fault) = inr (value, reads, repeated_fault before word count value (Some error) reads fault)
