-- Lemmas on positions of indices.
use Rattle.std.proofs.Common.{◌≡◌, ◌∙◌, ◌+◌, ◌<◌, ◌≤◌, ℕ, ℤ, zero, suc, pos, List, [], ◌∷◌, ◌++◌, Bool, true, false, Option, Some, None, Err, length, map, take, refl, ap, add-one, arith, inl, inr, ⊎_elim}
use Rattle.std.specs.Prelude.{Result, Ok, IsErrAnd, slice_get, option_map, IfSome}
use Rattle.std.specs.Option.{option_or}
use Rattle.std.proofs.lemmas.List.{length-map}
use Rattle.std.proofs.lemmas.List.Elements.{All-push}
use Rattle.column_base.specs.declared.error.VortexError.{VortexError}
use Rattle.column_core.specs.Optionals.{optionals}
use Rattle.column_core.specs.Refusal.{IsErrorFor, IsRefusedBy}
use Rattle.column_ops.specs.Fault.{first_fault}
use Rattle.column_ops.specs.Take.{ArePositions, position_numbers}
use Rattle.column_base.specs.declared.dtype.PType.{PType}
use Rattle.column_base.specs.ValidityForm.{ValidityForm, flags}
use Rattle.column_core.specs.PrimitiveForm.{optional_numbers, primitive_with}
use Rattle.std.proofs.lemmas.Option.{slice_get-map}
use Rattle.column_ops.proofs.Passed.{mapped-push, passed_all, take_next}

-- optional items of mapped items
pub optionals-map : {B C : Type 0} (f : B → C) (xs : List B) (bs : List Bool) → optionals (map f xs) bs ≡ map (option_map f) (optionals xs bs)
optionals-map f [] bs = refl
optionals-map f (x ∷ xs) [] = refl
optionals-map f (x ∷ xs) (true ∷ bs) = ap (λ rows. Some (f x) ∷ rows) (optionals-map f xs bs)
optionals-map f (x ∷ xs) (false ∷ bs) = ap (λ rows. None ∷ rows) (optionals-map f xs bs)

-- of two faults neither is there
pub neither : (a b : Option VortexError) → option_or a b ≡ None → (a ≡ None) × (b ≡ None)
neither None b none = (refl, none)
neither (Some error) b none = let wrong : ⊥ = cc in absurd wrong

-- no fault up to here, and none here
pub first_fault-more : {B : Type 0} (fault : B → Option VortexError) (xs : List B) (x : B) → first_fault fault xs ≡ None → fault x ≡ None → first_fault fault (xs ++ x ∷ []) ≡ None
first_fault-more fault [] x sound none = ap (λ f. option_or f None) none
first_fault-more fault (y ∷ xs) x sound none =
    let both = neither (fault y) (first_fault fault xs) sound in
    ap (λ f. option_or f (first_fault fault (xs ++ x ∷ []))) both.0 ∙ first_fault-more fault xs x both.1 none

-- the fault here is the first one, where there was none before
pub first_fault-here : {B : Type 0} (fault : B → Option VortexError) (xs : List B) (k : ℕ) (x : B) (error : VortexError) → first_fault fault (take k xs) ≡ None → slice_get xs k ≡ Some x
    → fault x ≡ Some error → first_fault fault xs ≡ Some error
first_fault-here fault [] k x error sound here found = cc
first_fault-here fault (y ∷ xs) zero x error sound here found =
    let same : y ≡ x = cc in
    ap (λ f. option_or f (first_fault fault xs)) (ap fault same ∙ found)
first_fault-here fault (y ∷ xs) (suc k) x error sound here found =
    let both = neither (fault y) (first_fault fault (take k xs)) sound in
    ap (λ f. option_or f (first_fault fault xs)) both.0 ∙ first_fault-here fault xs k x error both.1 here found

-- the error at an item is memory's, or the first fault
pub first_error-here : {B : Type 0} (fault : B → Option VortexError) (xs : List B) (k : ℕ) (x : B) (error : VortexError) → first_fault fault (take k xs) ≡ None → slice_get xs k ≡ Some x
    → IsErrorFor (fault x) error → IsErrorFor (first_fault fault xs) error
first_error-here fault xs k x error sound here refused = ⊎_elim inl (λ found. inr (first_fault-here fault xs k x error sound here found)) refused

-- no fault one item further
pub first_fault-next : {B : Type 0} (fault : B → Option VortexError) (xs : List B) (k : ℕ) (x : B) → first_fault fault (take k xs) ≡ None → slice_get xs k ≡ Some x → fault x ≡ None
    → first_fault fault (take (k + 1) xs) ≡ None
first_fault-next fault xs k x sound here none = rw add-one (ap (first_fault fault) (take_next xs k x here) ∙ first_fault-more fault (take k xs) x sound none)

-- the number in a row of items that represent numbers
pub number-of_row : {S : Type 0} (ptype : PType) (number : S → ℤ) (items : List S) (form : ValidityForm) (row : ℕ) (shown : Option S)
    → slice_get (optionals items (flags form (length items))) row ≡ Some shown → slice_get (optional_numbers (primitive_with ptype (map number items) form)) row ≡ Some (option_map number shown)
number-of_row ptype number items form row shown here =
    rw (length-map items number, optionals-map number items (flags form (length items)))
    (slice_get-map (option_map number) (optionals items (flags form (length items))) row ∙ ap (option_map (option_map number)) here)

-- each position that was pushed is below the number of rows
pub ArePositions-push : (positions : List (Option ℕ)) (position : Option ℕ) (count : ℕ) → ArePositions positions count → IfSome position (λ k. k < count) → ArePositions (positions ++ position ∷ []) count
ArePositions-push positions position count old within = All-push (λ p. IfSome p (λ k. k < count)) positions position old within

-- the numbers of the positions grow by the index
pub position_numbers-push : (positions : List (Option ℕ)) (indices : List (Option ℤ)) (k : ℕ) (position : Option ℕ) (index : Option ℤ) → position_numbers positions ≡ take k indices → slice_get indices k ≡ Some index
    → option_map (λ n. pos n) position ≡ index → position_numbers (positions ++ position ∷ []) ≡ take (k + 1) indices
position_numbers-push positions indices k position index old here same = mapped-push (λ n. pos n) positions indices k position index old here same

-- all indices have been passed
pub indices_all : {S : Type 0} (ptype : PType) (number : S → ℤ) (items : List S) (form : ValidityForm) (k : ℕ) → length items ≤ k
    → take k (optional_numbers (primitive_with ptype (map number items) form)) ≡ optional_numbers (primitive_with ptype (map number items) form)
indices_all ptype number items form k all =
    let long = length-map items number in
    passed_all (map number items) (flags form (length (map number items))) k (omega arith)

-- an error that is passed on
pub refused-passed_on : {T : Type 0} (fault : Option VortexError) (error : VortexError) (result : Result T VortexError) → IsErrAnd result (λ e. e ≡ error) → IsErrorFor fault error → IsRefusedBy fault result
refused-passed_on fault error (Ok value) passed refused = absurd passed
refused-passed_on fault error (Err other) passed refused = rw passed refused
