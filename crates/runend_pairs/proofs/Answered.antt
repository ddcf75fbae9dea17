-- Answers that are stored one after the other.
use Rattle.std.proofs.Common.{◌≡◌, ℕ, zero, suc, ◌+◌, ◌<◌, ◌≤◌, ℤ, pos, Bool, true, false, List, [], ◌∷◌, ◌++◌, Option, Some, None, length, map, slice_index, refl, subst, sym, ◌∙◌, ap, arith, inl, inr, add-one}
use Rattle.std.specs.Prelude.{if◌then◌else◌, is_some, option_map, slice_get, All}
use Rattle.std.specs.List.Sorted.{IsStrictlyIncreasing}
use Rattle.std.proofs.lemmas.Bool.{cases_eq}
use Rattle.std.proofs.lemmas.List.{length-map, length_push, map-append}
use Rattle.std.proofs.lemmas.List.Elements.{All-replicate}
use Rattle.column_base.specs.declared.dtype.Nullability.TheVariants.{Nullable}
use Rattle.column_base.specs.declared.dtype.PType.{PType}
use Rattle.column_base.specs.ValidityForm.{ValidityForm, NeverNull, NoneNull, AllNull, ByBits, IsNormal, flags, nullability_in}
use Rattle.column_core.specs.Computed.{IsComputed}
use Rattle.column_core.specs.PrimitiveForm.{PrimitiveForm, optional_numbers, primitive_with}
use Rattle.column_core.specs.Optionals.{optionals, AreBlankAtNulls}
use Rattle.column_core.proofs.OptionalRows.{AreBlankAtNulls-push, length-optionals, optionals-push}
use Rattle.runend_pairs.specs.Groups.{first_row, group_rows, AreGroupAnswers, IsAnswerOf, IsNumberIn}
use Rattle.runend_pairs.specs.GroupFaults.{IsFirstLarge}
use Rattle.runend_pairs.specs.Totals.{rows_through, AreRunningAnswers, IsFirstLargeRun}

-- items and bits are the first of these answers, each of which the type has
pub record AreAnswered {S : Type 0} (number : S → ℤ) (has : ℤ → Type 0) (answer : ℕ → Option ℤ) (count : ℕ) (items : List S) (bits : List Bool) : Type 0 where
  pub counted : length items ≡ count
  pub paired : length bits ≡ length items
  pub blank : AreBlankAtNulls (pos 0) (map number items) bits
  pub each : (k : ℕ) → k < count → slice_get (optionals (map number items) bits) k ≡ Some (answer k)
  pub fit : (k : ℕ) → k < count → IsNumberIn has (answer k)

pub AreAnswered-none : {S : Type 0} (number : S → ℤ) (has : ℤ → Type 0) (answer : ℕ → Option ℤ) → AreAnswered number has answer 0 [] []
AreAnswered-none number has answer = record {
  counted = refl;
  paired = refl;
  blank = tt;
  each = λ k h. absurd (omega arith);
  fit = λ k h. absurd (omega arith);
}

-- an item of a list that grew by one
pushed_here : {X : Type 0} (xs : List X) (x : X) (k : ℕ) → k ≡ length xs → slice_get (xs ++ x ∷ []) k ≡ Some x
pushed_here [] x zero h = refl
pushed_here [] x (suc k) h = absurd (omega arith)
pushed_here (y ∷ xs) x zero h = absurd (omega arith)
pushed_here (y ∷ xs) x (suc k) h = pushed_here xs x k (omega arith)

pushed_before : {X : Type 0} (xs : List X) (x : X) (k : ℕ) → k < length xs → slice_get (xs ++ x ∷ []) k ≡ slice_get xs k
pushed_before [] x k h = absurd (omega arith)
pushed_before (y ∷ xs) x zero h = refl
pushed_before (y ∷ xs) x (suc k) h = pushed_before xs x k (omega arith)

-- one more answer
pub AreAnswered-more : {S : Type 0} (number : S → ℤ) (has : ℤ → Type 0) (answer : ℕ → Option ℤ) (count : ℕ) (items : List S) (bits : List Bool) (found : Option S) (x : S)
    → (if is_some found then Some (number x) else None) ≡ option_map number found → (is_some found ≡ false → number x ≡ pos 0) → IsAnswerOf number has (answer count) (Some found) → AreAnswered number has answer count items bits
    → AreAnswered number has answer (count + 1) (items ++ x ∷ []) (bits ++ is_some found ∷ [])
AreAnswered-more number has answer count items bits found x shown blank known before =
    let long = length_push items x in
    let flagged = length_push bits (is_some found) in
    let mapped = length-map items number in
    let counted = before.counted in
    let even = before.paired in
    let paired : length bits ≡ length (map number items) = omega arith in
    let split : map number (items ++ x ∷ []) ≡ map number items ++ number x ∷ [] = map-append number items (x ∷ []) in
    let listed : optionals (map number (items ++ x ∷ [])) (bits ++ is_some found ∷ []) ≡ optionals (map number items) bits ++ option_map number found ∷ [] =
    ap (λ ns. optionals ns (bits ++ is_some found ∷ [])) split ∙ optionals-push (map number items) bits (number x) (is_some found) paired
    ∙ ap (λ (o : Option ℤ). optionals (map number items) bits ++ o ∷ []) shown in
    let many = length-optionals (map number items) bits paired in
    record {
      counted = omega arith;
      paired = omega arith;
      blank = rw split (AreBlankAtNulls-push (pos 0) (map number items) bits (number x) (is_some found) paired blank before.blank);
      each = λ k h. ap (λ os. slice_get os k) listed ∙ elim (cases_eq k count) [
        | inl same ↦ rw same (pushed_here (optionals (map number items) bits) (option_map number found) count (omega arith) ∙ ap Some known.1)
        | inr other ↦ pushed_before (optionals (map number items) bits) (option_map number found) k (omega arith) ∙ before.each k (omega arith)
      ];
      fit = λ k h. elim (cases_eq k count) [
        | inl same ↦ rw same known.0
        | inr other ↦ before.fit k (omega arith)
      ];
    }

-- as many answers as given
answers_counted : {S : Type 0} (number : S → ℤ) (has : ℤ → Type 0) (answer : ℕ → Option ℤ) (count : ℕ) (items : List S) (bits : List Bool) (answers : List (Option ℤ))
    → answers ≡ optionals (map number items) bits → AreAnswered number has answer count items bits → length answers ≡ count
answers_counted number has answer count items bits answers is all =
    let mapped = length-map items number in
    let even = all.paired in
    let counted = all.counted in
    let many = length-optionals (map number items) bits (omega arith) in
    ap length is ∙ many ∙ mapped ∙ counted

-- all groups
pub AreAnswered-all : {S X : Type 0} (number : S → ℤ) (has : ℤ → Type 0) (answer_of : List X → Option ℤ) (ends : List ℕ) (rows : List X) (items : List S) (bits : List Bool) (answers : List (Option ℤ))
    → answers ≡ optionals (map number items) bits → AreAnswered number has (λ k. answer_of (group_rows ends rows k)) (length ends) items bits → AreGroupAnswers answer_of ends rows answers
AreAnswered-all number has answer_of ends rows items bits answers is all = record {
  counted = answers_counted number has (λ k. answer_of (group_rows ends rows k)) (length ends) items bits answers is all;
  each = λ k h. ap (λ os. slice_get os k) is ∙ all.each k h;
}

-- the ends of all runs
pub AreAnswered-runs : {S X : Type 0} (number : S → ℤ) (has : ℤ → Type 0) (answer_of : List X → Option ℤ) (ends : List ℕ) (rows : List X) (items : List S) (bits : List Bool) (answers : List (Option ℤ))
    → answers ≡ optionals (map number items) bits → AreAnswered number has (λ k. answer_of (rows_through ends rows k)) (length ends) items bits → AreRunningAnswers answer_of ends rows answers
AreAnswered-runs number has answer_of ends rows items bits answers is all = record {
  counted = answers_counted number has (λ k. answer_of (rows_through ends rows k)) (length ends) items bits answers is all;
  each = λ k h. ap (λ os. slice_get os k) is ∙ all.each k h;
}

-- the first group whose answer the type does not have
pub IsFirstLarge-here : {S X : Type 0} (number : S → ℤ) (has : ℤ → Type 0) (answer_of : List X → Option ℤ) (ends : List ℕ) (rows : List X) (group : ℕ) (items : List S) (bits : List Bool)
    → group < length ends → IsAnswerOf number has (answer_of (group_rows ends rows group)) None → AreAnswered number has (λ k. answer_of (group_rows ends rows k)) group items bits
    → IsFirstLarge has answer_of ends rows group
IsFirstLarge-here number has answer_of ends rows group items bits within large before = record { within = within; here = large; before = before.fit }

-- the first run at whose end the type does not have the answer
pub IsFirstLargeRun-here : {S X : Type 0} (number : S → ℤ) (has : ℤ → Type 0) (answer_of : List X → Option ℤ) (ends : List ℕ) (rows : List X) (run : ℕ) (items : List S) (bits : List Bool)
    → run < length ends → IsAnswerOf number has (answer_of (rows_through ends rows run)) None → AreAnswered number has (λ k. answer_of (rows_through ends rows k)) run items bits
    → IsFirstLargeRun has answer_of ends rows run
IsFirstLargeRun-here number has answer_of ends rows run items bits within large before = record { within = within; here = large; before = before.fit }

-- a column of numbers and bits shows each number whose bit is true
module _ (form : PrimitiveForm) (ptype : PType) (numbers : List ℤ) (validity : ValidityForm) (bits frozen : List Bool) (is : form ≡ primitive_with ptype numbers validity) (same : frozen ≡ bits)
    (paired : length bits ≡ length numbers) (told : flags validity (length frozen) ≡ frozen) where
  told_bits : flags validity (length numbers) ≡ bits
  told_bits = ap (flags validity) (sym (ap length same ∙ paired)) ∙ told ∙ same

  pub shown_answers : optional_numbers form ≡ optionals numbers bits
  shown_answers = ap optional_numbers is ∙ ap (optionals numbers) told_bits

  pub computed_answers : AreBlankAtNulls (pos 0) numbers bits → IsNormal validity → (validity ≡ AllNull → 0 < length frozen) → IsComputed form
  computed_answers blank normal some =
      let many : length frozen ≡ length numbers = ap length same ∙ paired in
      subst IsComputed (sym is) (record {
        blanked = subst (AreBlankAtNulls (pos 0) numbers) (sym told_bits) blank;
        normal = normal;
        some = λ e. let more = some e in omega arith;
      })

-- bits of a type that has null are not stored as those of one that has none
pub nullable_bits : (validity : ValidityForm) (bits : List Bool) → flags validity (length bits) ≡ bits → (All (λ (bit : Bool). bit ≡ true) bits → validity ≡ NoneNull) → nullability_in validity ≡ Nullable
nullable_bits NeverNull bits told none =
    let all : All (λ (bit : Bool). bit ≡ true) bits = subst (All (λ (bit : Bool). bit ≡ true)) told (All-replicate (λ (bit : Bool). bit ≡ true) (length bits) true refl) in
    let other : NeverNull ≡ NoneNull = none all in cc
nullable_bits NoneNull bits told none = refl
nullable_bits AllNull bits told none = refl
nullable_bits (ByBits own) bits told none = refl

-- a group begins where the one before it ends
pub first_row-next : (ends : List ℕ) (group : ℕ) → first_row ends (group + 1) ≡ slice_index ends group
first_row-next ends group = ap (first_row ends) (add-one group)

pub first_row-le : (ends : List ℕ) (group : ℕ) → IsStrictlyIncreasing ends → group < length ends → first_row ends group ≤ slice_index ends group
first_row-le ends zero increasing within = omega arith
first_row-le ends (suc group) increasing within = let order : slice_index ends group < slice_index ends (suc group) = rw add-one at (increasing group (omega arith)) in omega arith
