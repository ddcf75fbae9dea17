use Rattle.std.proofs.Common.{◌≡◌, ◌∙◌, ℕ, ◌+◌, ◌*◌, ◌/◌, ◌%◌, ◌^◌, ◌≤◌, ◌<◌, w64, slice_index, slice_index_or, subst, arith, ⊎_elim}
use Rattle.std.specs.Int.{bit_at, bit_not}
use Rattle.std.proofs.lemmas.Bool.{cases_lt}
use Rattle.std.proofs.lemmas.Nat.Bits.{bit_at_not}
use Rattle.column_ops.proofs.blanks.put_at_zeros.Goals as goal

pub loop-index-preserved : goal.loop-index-preserved
loop-index-preserved g c =
    let inv = c.loop-index.invariant in
    let i : ℕ = c.loop-index.index in
    let word : ℕ = slice_index c.args.words.now i in
    let small : word < 2 ^ 64 = (c.type_inv.words i).fits in
    let wrote = c.put_at_ones.ensures in
    record {
      len = wrote.len ∙ inv.len;
      put = λ k h zero. ⊎_elim
          (λ (p : k < i * 64). wrote.before k p ∙ inv.put k p zero)
          (λ (p : i * 64 ≤ k).
          let same_word : k / 64 ≡ i = omega arith in
          let place : i * 64 + k % 64 ≡ k = omega arith in
          let bit : bit_at word (k % 64) ≡ 0 = rw same_word at zero in
          let one : bit_at (bit_not w64 word) (k % 64) ≡ 1 = bit_at_not w64 word (k % 64) small (omega arith) ∙ omega arith in
          subst (λ (n : ℕ). slice_index_or c.put_at_ones.new.items n c.args.item ≡ c.args.item) place (wrote.put (k % 64) (omega arith) one))
          (cases_lt k (i * 64));
      kept = λ k h one. ⊎_elim
          (λ (p : k < i * 64). wrote.before k p ∙ inv.kept k p one)
          (λ (p : i * 64 ≤ k).
          let same_word : k / 64 ≡ i = omega arith in
          let place : i * 64 + k % 64 ≡ k = omega arith in
          let bit : bit_at word (k % 64) ≡ 1 = rw same_word at one in
          let zero : bit_at (bit_not w64 word) (k % 64) ≡ 0 = bit_at_not w64 word (k % 64) small (omega arith) ∙ omega arith in
          subst (λ (n : ℕ). slice_index_or c.put_at_ones.new.items n c.args.item ≡ slice_index_or c.loop-index.items n c.args.item) place (wrote.kept (k % 64) (omega arith) zero) ∙ inv.rest k p)
          (cases_lt k (i * 64));
      rest = λ k h. wrote.behind k (omega arith) ∙ inv.rest k (omega arith);
    }
