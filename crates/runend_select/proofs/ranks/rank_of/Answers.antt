use Rattle.std.proofs.Common.{ℕ, Fits, w64, subst, sym, arith}
use Rattle.runend_select.proofs.RunBits.{length-counts, rank_fits, rank_in_words}
use Rattle.runend_select.proofs.ranks.rank_of.Goals as goal

pub bounds-counts-index : goal.bounds-counts-index
bounds-counts-index c = omega (arith, length-counts c.args.words.now c.args.counts.now c.requires.counted, c.requires.within)

pub bounds-words-index : goal.bounds-words-index
bounds-words-index c = omega (arith, c.requires.within)

pub overflow_add-result : goal.overflow_add-result
overflow_add-result c =
    let words = c.args.words.now in
    let row = c.args.row in
    let is = rank_in_words words c.args.counts.now row c.requires.counted c.requires.within in
    subst (λ (n : ℕ). Fits w64 n) (sym is) (record { fits = rank_fits words c.args.counts.now row c.requires.counted c.requires.within })

pub returns : goal.returns
returns c = rank_in_words c.args.words.now c.args.counts.now c.args.row c.requires.counted c.requires.within
