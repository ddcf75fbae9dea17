use Rattle.std.proofs.Common.{◌≡◌, ◌∙◌, ◌+◌, ◌-◌, ◌*◌, ◌%◌, ◌≤◌, ◌<◌, ◌∷◌, [], ℕ, length, subst, ap, arith, ⊎_elim}
use Rattle.std.specs.Prelude.{◌↔◌}
use Rattle.std.specs.Int.{bit_at}
use Rattle.std.proofs.lemmas.Bool.{cases_lt}
use Rattle.std.proofs.lemmas.List.{length_push}
use Rattle.column_base.specs.Words.{digit_at}
use Rattle.column_base.proofs.WordDigits.{digit_left, digit_push}
use Rattle.column_core.specs.Leaf.{single_rows}
use Rattle.runend_windows.specs.Starts.{GoesOn}
use Rattle.runend_encode.proofs.changes.change_words.Goals as goal

pub loop-index-preserved : goal.loop-index-preserved
loop-index-preserved g c =
    let inv = c.loop-index.invariant in
    let rows = single_rows (g.R.ColumnOps.leaf c.args.column.now) in
    let start : ℕ = c.loop-index.index * 64 in
    let words = c.loop-index.words.items in
    let word : ℕ = c.change_word.result in
    let more = c.push_reserved.ensures.items in
    record {
      digits = λ row below h. ⊎_elim
          (λ (p : row < start).
          let is : digit_at c.push_reserved.new.self.items row ≡ digit_at words row = ap (λ ws. digit_at ws row) more ∙ digit_left words (word ∷ []) row (omega (arith, inv.long)) in
          rw is (inv.digits row p h))
          (λ (p : start ≤ row).
          let lane : ℕ = row - start in
          let place : start + lane ≡ row = omega arith in
          let at : row % 64 ≡ lane = omega arith in
          let is : digit_at c.push_reserved.new.self.items row ≡ bit_at word lane = ap (λ ws. digit_at ws row) more ∙ digit_push words word row (omega (arith, inv.long)) ∙ ap (bit_at word) at in
          let told = c.change_word.ensures lane (omega arith) (omega arith) in
          rw is (subst (λ (k : ℕ). (bit_at word lane ≡ 0) ↔ GoesOn rows k) place told))
          (cases_lt row start);
      long = ap length more ∙ length_push words word ∙ ap (λ n. n + 1) inv.long;
      len = c.push_reserved.ensures.len ∙ ap (λ n. n + 1) inv.len;
      room = rw c.push_reserved.ensures.capacity inv.room;
    }
