-- Answers that are there fit their types.
use Rattle.std.proofs.Common.{◌≡◌, ℕ, ℤ, zero, suc, List, [], ◌∷◌, Bool, false, true, Option, None, Some, ap, subst}
use Rattle.std.specs.Prelude.{All, if◌then◌else◌, slice_get}
use Rattle.std.proofs.lemmas.List.Elements.{All-head, All-tail}
use Rattle.std.proofs.lemmas.Option.{same_Some}
use Rattle.column_base.specs.Types.{HasNumber}
use Rattle.column_base.specs.declared.dtype.DType.{DType}
use Rattle.column_base.specs.declared.dtype.DType.TheVariants as column
use Rattle.column_base.specs.declared.dtype.Nullability.TheVariants.{Nullable}
use Rattle.column_base.specs.declared.dtype.PType.{PType}
use Rattle.column_core.specs.Optionals.{optionals}
use Rattle.column_core.specs.PrimitiveForm.{PrimitiveForm, optional_numbers, primitive_dtype, row_flags}
use Rattle.runend_pairs.specs.GroupAnswers.{IsGiven, answer_of, answer_ptype, number_ptype}
use Rattle.runend_pairs.specs.GroupFaults.{IsFirstLarge}
use Rattle.runend_pairs.specs.Groups.{AreGroupAnswers, IsNumberIn, group_rows}
use Rattle.runend_pairs.specs.declared.group_fold.GroupFold.{GroupFold}
use Rattle.runend_pairs.specs.declared.group_fold.GroupFold.TheVariants as fold

-- a number, or null
either_fits : (has : ℤ → Type 0) (flag : Bool) (n : ℤ) (answer : Option ℤ) → has n → ◌≡◌ {A = Option (Option ℤ)} (Some (if flag then Some n else None)) (Some answer) → IsNumberIn has answer
either_fits has true n answer fits there = subst (IsNumberIn has) (same_Some (Some n) answer there) fits
either_fits has false n answer fits there = subst (IsNumberIn has) (same_Some None answer there) tt

optional_fits : (has : ℤ → Type 0) (numbers : List ℤ) (flags : List Bool) (k : ℕ) (answer : Option ℤ) → All has numbers → slice_get (optionals numbers flags) k ≡ Some answer → IsNumberIn has answer
optional_fits has [] flags k answer fit there = absurd (cc)
optional_fits has (n ∷ numbers) [] k answer fit there = absurd (cc)
optional_fits has (n ∷ numbers) (flag ∷ flags) zero answer fit there = either_fits has flag n answer (All-head has n numbers fit) there
optional_fits has (n ∷ numbers) (flag ∷ flags) (suc k) answer fit there = optional_fits has numbers flags k answer (All-tail has n numbers fit) there

-- numbers of the type of an answer are given
given_by : (asks : GroupFold) (t : DType) (numbers : List ℤ) → All (HasNumber (answer_ptype asks t)) numbers → All (IsGiven asks t) numbers
given_by fold.Sum t numbers fit = fit
given_by fold.Rows t numbers fit = λ k d within. tt
given_by fold.Count t numbers fit = λ k d within. tt
given_by fold.Least t numbers fit = λ k d within. tt
given_by fold.Greatest t numbers fit = λ k d within. tt
given_by fold.First t numbers fit = λ k d within. tt
given_by fold.Last t numbers fit = λ k d within. tt

-- numbers as they are held
held_fit : (answers : PrimitiveForm) (t : PType) (numbers : List ℤ) → t ≡ answers.ptype → numbers ≡ answers.numbers → All (HasNumber t) numbers → All (HasNumber answers.ptype) answers.numbers
held_fit answers t numbers typed shown fit = subst (All (HasNumber answers.ptype)) shown (subst (λ (p : PType). All (HasNumber p) numbers) typed fit)

-- so no group is without an answer
pub none_large : (asks : GroupFold) (t : DType) (ends : List ℕ) (values : List (Option ℤ)) (answers : PrimitiveForm) (held : PType) (numbers : List ℤ) → AreGroupAnswers (answer_of asks) ends values (optional_numbers answers)
    → primitive_dtype answers ≡ column.Primitive (answer_ptype asks t) Nullable → held ≡ answers.ptype → numbers ≡ answers.numbers → All (HasNumber held) numbers → (group : ℕ) → ¬ IsFirstLarge (IsGiven asks t) (answer_of asks) ends values group
none_large asks t ends values answers held numbers made typed same_type same_numbers fit group large =
    let own : answers.ptype ≡ answer_ptype asks t = ap number_ptype typed in
    let fits = held_fit answers held numbers same_type same_numbers fit in
    let given = given_by asks t answers.numbers (subst (λ (p : PType). All (HasNumber p) answers.numbers) own fits) in
    large.here (optional_fits (IsGiven asks t) answers.numbers (row_flags answers) group (answer_of asks (group_rows ends values group)) given (made.each group large.within))
