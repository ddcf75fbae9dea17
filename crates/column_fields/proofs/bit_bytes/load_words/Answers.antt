use Rattle.std.proofs.Common.{◌≡◌, ◌-◌, ◌*◌, ◌∙◌, ◌++◌, ◌∷◌, [], List, ℕ, length, replicate, ap, sym, arith}
use Rattle.std.proofs.lemmas.Bool.{eqb-true}
use Rattle.std.proofs.lemmas.List.{append-nil, length-append, nil_from_length}
use Rattle.column_fields.specs.BitBytes.{words_bytes}
use Rattle.column_fields.proofs.BitWords.{words_none, load_step, load_last}
use Rattle.column_fields.proofs.bit_bytes.load_words.Goals as goal
use Rattle.column_fields.proofs.bit_bytes.load_words.Goals.{then-not-is_empty, else-not-is_empty}

pub loop-rest-init : goal.loop-rest-init
loop-rest-init g c = record {
  shows = ap (λ (ws : List ℕ). words_bytes ws ++ c.args.bytes.now) c.in_ok-words.ensures.items ∙ ap (λ (b : List ℕ). b ++ c.args.bytes.now) words_none;
  left = omega (arith, c.in_ok-words.ensures.len);
  room = omega (arith, c.in_ok-words.ensures.exact, c.div_ceil.ensures);
}

pub loop-rest-preserved : goal.loop-rest-preserved
loop-rest-preserved g c =
    let h = c.loop-rest.invariant in
    record {
      shows = load_step c.args.bytes.now c.loop-rest.rest.now c.split_at.result.0.now c.split_at.result.1.now c.loop-rest.words.items _ c.load_word.result h.shows c.split_at.ensures.front c.split_at.ensures.back c.load_word.ensures c.push_reserved.ensures.items;
      left = omega (arith, h.left, c.push_reserved.ensures.len, c.split_at.ensures.back_len);
      room = c.push_reserved.ensures.capacity ∙ h.room;
    }

pub returns-clause-shows : goal.returns-clause-shows
returns-clause-shows g c =
    let bytes = c.args.bytes.now in
    let rest = c.loop-rest.rest.now in
    let front = c.loop-rest.words.items in
    let h = c.loop-rest.invariant in
    elim c.if-not-is_empty.branch [
      | then-not-is_empty w ↦ (
          let all : c.if-not-is_empty.words.items ≡ front ++ w.last_word.result ∷ [] = ap (λ v. v.items) w.words-is ∙ w.push_reserved-then-not-is_empty.ensures.items in
          load_last bytes rest front _ (replicate (8 - length rest) 0) w.last_word.result h.shows w.last_word.ensures all
          ∙ ap (λ (k : ℕ). bytes ++ replicate k 0) (omega (arith, h.left, ap length all, length-append front (w.last_word.result ∷ [])))
          )
      | else-not-is_empty w ↦ (
          let zero : length rest ≡ 0 = eqb-true (length rest) 0 (sym c.is_empty.ensures ∙ w.if-not-is_empty.false) in
          let none : rest ≡ [] = nil_from_length rest zero in
          let all : c.if-not-is_empty.words.items ≡ front = ap (λ v. v.items) w.words-is in
          let whole : length c.if-not-is_empty.words.items * 8 - length bytes ≡ 0 = omega (arith, h.left, ap length all, zero) in
          ap words_bytes all ∙ sym (append-nil (words_bytes front)) ∙ ap (λ (b : List ℕ). words_bytes front ++ b) (sym none) ∙ h.shows ∙ sym (append-nil bytes) ∙ ap (λ (k : ℕ). bytes ++ replicate k 0) (sym whole)
          )
    ]
