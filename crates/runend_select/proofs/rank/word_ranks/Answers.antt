use Rattle.std.proofs.Common.{◌≡◌, ◌+◌, ◌*◌, ◌≤◌, [], ◌∷◌, ℕ, Fits, w64, ap, arith, get_or, inl, inr, length, subst, sym, take, ◌∙◌}
use Rattle.std.specs.Prelude.{count_ones}
use Rattle.std.proofs.lemmas.Bool.{cases_lt}
use Rattle.std.proofs.lemmas.List.{get_or_append_left, get_or_push, length_push}
use Rattle.runend_select.proofs.FirstBits.{set_bits-few, set_bits-word}
use Rattle.runend_select.proofs.Selected.{set_bits}
use Rattle.runend_select.proofs.rank.word_ranks.Goals as goal

pub overflow_add-rank : goal.overflow_add-rank
overflow_add-rank g c =
    let words = c.words-words.result.now in
    let bits = c.args.bits.now in
    let word = c.loop-word.word in
    let before : c.loop-word.rank ≡ set_bits (take (word * 64) bits) = c.loop-word.invariant.rank in
    let within : (word + 1) * 64 ≤ length bits = omega (arith, c.loop-word-test.true, c.len-whole.ensures) in
    let more = set_bits-word words bits word c.words-words.ensures within (c.type_inv.words word).fits in
    let few = set_bits-few bits ((word + 1) * 64) in
    let total = ap (λ n. n + count_ones (get_or words word 0)) before ∙ sym more in
    subst (λ (n : ℕ). Fits w64 n) (sym total) (record { fits = omega (arith, few, within, c.len-whole.type_inv, c.len-whole.ensures) })

pub loop-word-preserved : goal.loop-word-preserved
loop-word-preserved g c =
    let words = c.words-words.result.now in
    let bits = c.args.bits.now in
    let word = c.loop-word.word in
    let inv = c.loop-word.invariant in
    let old = c.loop-word.ranks.items in
    let rank = c.loop-word.rank + count_ones (get_or words word 0) in
    let before : c.loop-word.rank ≡ set_bits (take (word * 64) bits) = inv.rank in
    let within : (word + 1) * 64 ≤ length bits = omega (arith, c.loop-word-test.true, c.len-whole.ensures) in
    let more = set_bits-word words bits word c.words-words.ensures within (c.type_inv.words word).fits in
    let total : rank ≡ set_bits (take ((word + 1) * 64) bits) = ap (λ n. n + count_ones (get_or words word 0)) before ∙ sym more in
    let pushed = c.push_reserved-in-loop-word.ensures.items in
    let long = inv.long in
    let longer = length_push old rank in
    record {
      rank = total;
      long = omega (arith, ap length pushed, longer, long);
      each = λ k h. ap (λ xs. get_or xs k 0) pushed ∙ elim (cases_lt k (length old)) [
        | inl low ↦ get_or_append_left old (rank ∷ []) 0 k low ∙ inv.each k low
        | inr high ↦
            let last : length old ≡ k = omega (arith, h, ap length pushed, longer) in
            let place : word + 1 ≡ k = omega (arith, last, long) in
            get_or_push old rank 0 k last ∙ total ∙ ap (λ n. set_bits (take (n * 64) bits)) place
      ];
      room = omega (arith, inv.room, c.push_reserved-in-loop-word.ensures.capacity);
    }
