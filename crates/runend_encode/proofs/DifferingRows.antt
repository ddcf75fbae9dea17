-- Words of which the bits are cleared whose rows are equal to the row before.
use Rattle.std.proofs.Common.{◌≡◌, ◌≢◌, ◌∙◌, ◌+◌, ◌<◌, ◌≤◌, ℕ, List, Bool, true, false, refl, sym, ap, ⊎_elim, arith}
use Rattle.std.specs.Prelude.{◌↔◌, IsTrue}
use Rattle.std.specs.Int.{bit_at}
use Rattle.std.proofs.lemmas.Bool.{cases_eq}
use Rattle.runend_windows.specs.Starts.{GoesOn}

-- a bit that is not left is known, and one that is left is 1
pub record AreLeft {B : Type 0} (rows : List B) (start stop rest word : ℕ) : Type 0 where
  pub told : (lane : ℕ) → lane < 64 → start + lane < stop → bit_at rest lane ≡ 0 → ((bit_at word lane ≡ 0) ↔ GoesOn rows (start + lane))
  pub left : (lane : ℕ) → lane < 64 → bit_at rest lane ≡ 1 → bit_at word lane ≡ 1

told_at : {B : Type 0} (rows : List B) (row bit : ℕ) (same : Bool) → (IsTrue same ↔ GoesOn rows row) → (same ≡ true → bit ≡ 0) → (same ≡ false → bit ≡ 1) → ((bit ≡ 0) ↔ GoesOn rows row)
told_at rows row bit true tells cleared kept = ((λ none. tells.0 refl), (λ goes. cleared refl))
told_at rows row bit false tells cleared kept = ((λ none. let one = kept refl in absurd (omega arith)), (λ goes. let wrong : false ≡ true = tells.1 goes in cc))

-- one bit less is left
pub left_next : {B : Type 0} (rows : List B) (start stop rest word less made at : ℕ) (same : Bool) → at < 64 → bit_at rest at ≡ 1 → bit_at less at ≡ 0
    → ((other : ℕ) → other < 64 → other ≢ at → bit_at less other ≡ bit_at rest other) → (start + at < stop → (IsTrue same ↔ GoesOn rows (start + at)))
    → (same ≡ true → bit_at made at ≡ 0) → (same ≡ false → made ≡ word) → ((other : ℕ) → other < 64 → other ≢ at → bit_at made other ≡ bit_at word other)
    → AreLeft rows start stop rest word → AreLeft rows start stop less made
left_next rows start stop rest word less made at same within one none others tells cleared kept same_others before = record {
  told = λ lane small shown gone. ⊎_elim
      (λ (here : lane ≡ at).
      let own : bit_at word at ≡ 1 = before.left at within one in
      let told = told_at rows (start + at) (bit_at made at) same (tells (omega arith)) cleared (λ e. ap (λ (w : ℕ). bit_at w at) (kept e) ∙ own) in
      rw here told)
      (λ (other : lane ≢ at). rw (same_others lane small other) (before.told lane small shown (sym (others lane small other) ∙ gone)))
      (cases_eq lane at);
  left = λ lane small set. ⊎_elim
      (λ (here : lane ≡ at). let wrong : bit_at less at ≡ 1 = rw (sym here) set in absurd (omega arith))
      (λ (other : lane ≢ at). same_others lane small other ∙ before.left lane small (sym (others lane small other) ∙ set))
      (cases_eq lane at);
}

-- a word is less once a bit of it is 0 that was 1
pub less_without : (word less lane : ℕ) → less ≤ word → bit_at word lane ≡ 1 → bit_at less lane ≡ 0 → less < word
less_without word less lane most one none = ⊎_elim
    (λ (same : less ≡ word). let told = ap (λ (w : ℕ). bit_at w lane) same in absurd (omega arith))
    (λ (other : less ≢ word). omega arith)
    (cases_eq less word)
