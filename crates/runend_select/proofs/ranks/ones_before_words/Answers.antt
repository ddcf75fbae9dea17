use Rattle.std.proofs.Common.{◌≡◌, ◌+◌, ◌*◌, ◌∙◌, ◌++◌, ◌∷◌, [], ℕ, Fits, w64, ap, arith, get_or, length, map, rules, subst, sym}
use Rattle.std.specs.Prelude.{count_ones}
use Rattle.std.specs.List.{range_with_len}
use Rattle.std.proofs.lemmas.List.FromFn.{map-range_with_len_more}
use Rattle.runend_select.specs.Ranks.{ones_before}
use Rattle.runend_select.proofs.RunBits.{ones_none, ones_onward, ones_word}
use Rattle.runend_select.proofs.ranks.ones_before_words.Goals as goal

pub loop-index-init : goal.loop-index-init
loop-index-init g c = record {
  counts = c.requires.empty;
  count = sym (ones_none c.args.words.now);
  long = search rules;
  room = c.requires.room;
}

pub overflow_add-count : goal.overflow_add-count
overflow_add-count g c =
    let words = c.args.words.now in
    let index = c.loop-index.index in
    let total = ap (λ (n : ℕ). n + count_ones (get_or words index 0)) c.loop-index.invariant.count ∙ sym (ones_word words index (c.type_inv.words index).fits) in
    let onward = ones_onward words ((index + 1) * 64) (length words * 64) (omega (arith, c.loop-index-test.true)) in
    subst (λ (n : ℕ). Fits w64 n) (sym total) (record { fits = omega (arith, onward, c.requires.few) })

pub loop-index-preserved : goal.loop-index-preserved
loop-index-preserved g c =
    let words = c.args.words.now in
    let index = c.loop-index.index in
    let inv = c.loop-index.invariant in
    let f : ℕ → ℕ = λ index. ones_before words (index * 64) in
    let more = map-range_with_len_more f 0 index index (omega arith) in
    record {
      counts = c.push_reserved.ensures.items ∙ ap (λ xs. xs ++ c.loop-index.count ∷ []) inv.counts ∙ ap (λ (x : ℕ). map f (range_with_len 0 index) ++ x ∷ []) inv.count ∙ sym more;
      count = ap (λ (n : ℕ). n + count_ones (get_or words index 0)) inv.count ∙ sym (ones_word words index (c.type_inv.words index).fits);
      long = c.push_reserved.ensures.len ∙ ap (λ n. n + 1) inv.long;
      room = rw c.push_reserved.ensures.capacity inv.room;
    }

pub returns : goal.returns
returns g c =
    let words = c.args.words.now in
    let all : c.loop-index.index ≡ length words = omega (arith, c.loop-index-test.false, c.loop-index.auto.index-end) in
    record {
      before = c.loop-index.invariant.counts ∙ ap (λ (n : ℕ). map (λ (index : ℕ). ones_before words (index * 64)) (range_with_len 0 n)) all;
      few = c.requires.few;
    }
