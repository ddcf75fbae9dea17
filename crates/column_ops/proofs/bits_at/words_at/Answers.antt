use Rattle.std.proofs.Common.{◌≡◌, ◌∙◌, ◌+◌, ◌-◌, ◌*◌, ◌/◌, ◌%◌, ◌≤◌, ◌<◌, ◌++◌, ◌∷◌, [], ℕ, Bool, bit_and, drop, get_or, length, min, slice_index, take, sym, ap, arith, ⊎_elim}
use Rattle.std.specs.Prelude.{if◌then◌else◌}
use Rattle.std.specs.Int.{bit_at}
use Rattle.std.proofs.lemmas.Bool.{cases_lt}
use Rattle.std.proofs.lemmas.List.{get_or-drop, get_or-take, length_push}
use Rattle.std.proofs.lemmas.Nat.Bits.{bit_at_and}
use Rattle.column_base.specs.ValidityForm.{flag_at}
use Rattle.column_base.specs.Validity.{form_of}
use Rattle.column_base.specs.Words.{digit_at, one_if}
use Rattle.column_base.proofs.WordDigits.{digit_at-le, digit_left, digit_push}
use Rattle.column_ops.proofs.WordsAt.{shown_bit}
use Rattle.column_ops.proofs.bits_at.words_at.Goals as goal

pub loop-index-preserved : goal.loop-index-preserved
loop-index-preserved g c =
    let inv = c.loop-index.invariant in
    let index : ℕ = c.loop-index.index in
    let start : ℕ = index * 64 in
    let positions = c.args.positions.now in
    let words = c.args.words.now in
    let lanes : ℕ = start + c.min.result - start in
    let part = take lanes (drop start positions) in
    let word : ℕ = bit_and c.word_at.result c.valid_word.result in
    let more = c.push_reserved.ensures.items in
    record {
      digits = λ i below h. ⊎_elim
          (λ (p : i < start). ap (λ ws. digit_at ws i) more ∙ digit_left c.loop-index.taken.items (word ∷ []) i (omega (arith, inv.long)) ∙ inv.digits i p h)
          (λ (p : start ≤ i).
          let j : ℕ = i % 64 in
          let place : start + j ≡ i = omega arith in
          let lane : j < lanes = omega (arith, c.min.ensures) in
          let shown : Bool = flag_at (form_of c.args.places.now) i in
          let position : slice_index part j ≡ slice_index positions i = get_or-take lanes (drop start positions) j 0 lane ∙ get_or-drop start positions j 0 ∙ ap (slice_index positions) place in
          let one : bit_at c.word_at.result j ≡ digit_at words (slice_index positions i) = c.word_at.ensures j (omega arith) ∙ ap (digit_at words) position in
          let other : bit_at c.valid_word.result j ≡ one_if shown = c.valid_word.ensures j (omega arith) ∙ ap (λ k. one_if (flag_at (form_of c.args.places.now) k)) place in
          ap (λ ws. digit_at ws i) more ∙ digit_push c.loop-index.taken.items word i (omega (arith, inv.long)) ∙ bit_at_and c.word_at.result c.valid_word.result j
          ∙ ap (λ d. min d (bit_at c.valid_word.result j)) one ∙ ap (min (digit_at words (slice_index positions i))) other
          ∙ shown_bit (digit_at words (slice_index positions i)) shown (omega (arith, digit_at-le words (slice_index positions i))))
          (cases_lt i start);
      long = ap length more ∙ length_push c.loop-index.taken.items word ∙ ap (λ n. n + 1) inv.long;
      len = c.push_reserved.ensures.len ∙ ap (λ n. n + 1) inv.len;
      room = rw c.push_reserved.ensures.capacity inv.room;
    }
