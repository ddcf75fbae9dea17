use Rattle.std.proofs.Common.{◌≡◌, ◌*◌, ◌∙◌, ap, arith, drop, length, sym}
use Rattle.std.proofs.lemmas.List.{take_at}
use Rattle.runend_select.specs.Ranks.{ones_before}
use Rattle.runend_select.proofs.RunBits.{ones_few}
use Rattle.runend_select.proofs.ranks.run_ranks.Goals as goal

pub ones_before_words-counts-requires-clause-few : goal.ones_before_words-counts-requires-clause-few
ones_before_words-counts-requires-clause-few g c =
    let words = c.mark_ends.new.words in
    let was = c.in_ok-words.words in
    let kept = c.mark_ends.auto.words in
    let lent = c.as_mut_slice.ensures.value in
    let owned = was.ok.0 in
    let long : length words ≡ was.len = kept ∙ ap length lent ∙ sym owned in
    let same = c.as_slice.ensures.value ∙ take_at words (drop (length words) was.items) was.len long in
    let few = ones_few c.args.ends.now.ends c.args.offset c.args.length words c.mark_ends.ensures.marked in
    let total : ones_before c.as_slice.result.now (length c.as_slice.result.now * 64) ≡ ones_before words (length words * 64) = ap (λ ws. ones_before ws (length ws * 64)) same in
    let small = c.requires.window.small in
    omega (arith, total, few)
