-- Refusals that are passed on, or that cannot come.
use Rattle.std.proofs.Common.{◌≡◌, ◌<◌, ◌≤◌, ℕ, List, Option, length, map, subst, ap, ◌∙◌, Ok, Err, arith}
use Rattle.std.specs.Prelude.{Result, IfErr, IsOkUnless, IsErrOf, option_map}
use Rattle.std.proofs.lemmas.List.{length-map}
use Rattle.column_core.specs.Value.{FlatValue, Single}
use Rattle.column_base.specs.declared.error.VortexError.{VortexError}

-- a call that only one error refuses was refused for the reason of that error
pub reason_of_refusal : {T P : Type 0} (r : Result T VortexError) (e f : VortexError) → r ≡ Err e → IsOkUnless r f → (IsErrOf r f → P) → P
reason_of_refusal {T} r e f is only reason =
    let same : e ≡ f = subst (λ (x : Result T VortexError). IsOkUnless x f) is only in
    reason (is ∙ ap Err same)

-- a value is not a refusal
pub value_is_no_refusal : {T : Type 0} (value : T) (e : VortexError) → ¬ IsErrOf (Ok value) e
value_is_no_refusal {T} value e is = subst (λ (x : Result T VortexError). IfErr x (λ _. ⊥)) is tt

-- of an index within the rows a value is given, and no refusal
pub within_is_no_refusal : {T : Type 0} (value : T) (e : VortexError) (index count : ℕ) → index < count → (IsErrOf (Ok value) e → count ≤ index) × (count ≤ index → IsErrOf (Ok value) e)
within_is_no_refusal value e index count within = ((λ is. absurd (value_is_no_refusal value e is)), (λ past. absurd (omega (arith, past, within))))

-- of an index within the rows of a flat column a value is given, and no refusal
pub within_is_no_refusal-flat : {T : Type 0} (value : T) (e : VortexError) (index count : ℕ) (items : List (Option FlatValue)) → count ≡ length items → index < count
    → (IsErrOf (Ok value) e → length (map (option_map Single) items) ≤ index) × (length (map (option_map Single) items) ≤ index → IsErrOf (Ok value) e)
within_is_no_refusal-flat value e index count items is within =
    let long = length-map items (option_map Single) in
    within_is_no_refusal value e index (length (map (option_map Single) items)) (omega (arith, long, is, within))
