-- Reads that are counted.
use Rattle.std.proofs.Common.{◌≡◌, ◌+◌, ◌<◌, ◌++◌, [], ◌∷◌, ℕ, List, length, take, inl, inr, refl, arith, length-append, subst}
use Rattle.std.specs.Prelude.{Option, Result, Ok, Err}
use Rattle.std.specs.Io.{ReadsAtMost}
use Rattle.std.specs.Io.KnownBytes.{ReadConsumes}
use Rattle.runend_script.specs.Reads.{AreReads, IsRead, IsReadWithin}

-- a reader with some reads left is as reads left it when it had more
pub record IsReadSo {R : Type 0} (remaining : R → Option (List ℕ)) (size left_before : ℕ) (before : R) (left_after : ℕ) (after : R) : Type 0 where
  pub states : List R
  pub counted : length states + left_after ≡ left_before
  pub reads : AreReads remaining size before states after

-- one read more
behind : {R : Type 0} (remaining : R → Option (List ℕ)) (size : ℕ) (before : R) (states : List R) (between after : R) → AreReads remaining size before states between → IsRead remaining size between after
    → AreReads remaining size before (states ++ (after ∷ [])) after
behind remaining size before [] between after same is = (subst (λ reader. IsRead remaining size reader after) same is, refl)
behind remaining size before (state ∷ others) between after all is = (all.0, behind remaining size state others between after all.1 is)

-- what a call of `read` promises is a read
is_read : {R : Type 0} {E : Type 0} (remaining : R → Option (List ℕ)) (size : ℕ) (before after : R) (result : Result ℕ E) (block : List ℕ) → 0 < size → length block ≡ size → ReadsAtMost result block
    → ReadConsumes (remaining before) (remaining after) result block → IsRead remaining size before after
is_read remaining size before after (Ok n) block some sized bound bytes =
    inl (take n block, omega (arith, bound.0, bound.1, sized), bytes.0, λ none. bytes.1 (omega (arith, bound.1, none)) (omega (arith, some, sized)))
is_read remaining size before after (Err error) block some sized bound bytes = inr bytes

-- before the first read
pub none_read : {R : Type 0} (remaining : R → Option (List ℕ)) (size left : ℕ) (reader : R) → IsReadSo remaining size left reader left reader
none_read remaining size left reader = record { states = []; counted = omega arith; reads = refl }

-- one read more, which takes one of those that are left
pub read_again : {R : Type 0} {E : Type 0} (remaining : R → Option (List ℕ)) (size first left next : ℕ) (before between after : R) (result : Result ℕ E) (block : List ℕ)
    → IsReadSo remaining size first before left between → next + 1 ≡ left → 0 < size → length block ≡ size → ReadsAtMost result block
    → ReadConsumes (remaining between) (remaining after) result block → IsReadSo remaining size first before next after
read_again remaining size first left next before between after result block so taken some sized bound bytes = record {
  states = so.states ++ (after ∷ []);
  counted = rw length-append (omega (arith, so.counted, taken));
  reads = behind remaining size before so.states between after so.reads (is_read remaining size between after result block some sized bound bytes);
}

-- no more reads than were left
pub within : {R : Type 0} (remaining : R → Option (List ℕ)) (size first left : ℕ) (before after : R) → IsReadSo remaining size first before left after → IsReadWithin remaining first size before after
within remaining size first left before after so = record { states = so.states; few = omega (arith, so.counted); reads = so.reads }
