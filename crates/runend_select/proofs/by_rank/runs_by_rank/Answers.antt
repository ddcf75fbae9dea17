use Rattle.std.proofs.Common.{◌*◌, ◌^◌, ◌∙◌, length, ap, subst, sym, List, ℕ, arith}
use Rattle.column_base.specs.Mask.{mask_bits}
use Rattle.runend_select.specs.Indices.{optional_indices}
use Rattle.runend_select.specs.Ranks.{AreMarked}
use Rattle.runend_select.proofs.Bounds.{AreInBounds-wider}
use Rattle.runend_select.proofs.IndexRows.{ranks_of_rows}
use Rattle.runend_select.proofs.by_rank.runs_by_rank.Goals as goal

pub ranked-requires-clause-in_bounds : goal.ranked-requires-clause-in_bounds
ranked-requires-clause-in_bounds g c =
    let small = c.requires.window.small in
    AreInBounds-wider (optional_indices g.T.NativePType.number c.args.indices.now (mask_bits c.args.mask.now)) c.args.length (2 ^ 64) (omega arith) c.requires.in_bounds

pub ranked-requires-clause-in_words : goal.ranked-requires-clause-in_words
ranked-requires-clause-in_words g c =
    let long = ap length c.as_slice-words.ensures.value in
    let sized = c.in_ok-ranks.ensures.marked.sized in
    AreInBounds-wider (optional_indices g.T.NativePType.number c.args.indices.now (mask_bits c.args.mask.now)) c.args.length (length c.as_slice-words.result.now * 64) (omega arith) c.requires.in_bounds

pub ranked-requires-clause-some : goal.ranked-requires-clause-some
ranked-requires-clause-some g c =
    let long = ap length c.as_slice-words.ensures.value in
    let sized = c.in_ok-ranks.ensures.marked.sized in
    omega (arith, c.requires.some)

pub returns-clause-runs : goal.returns-clause-runs
returns-clause-runs g c =
    let ends = c.args.ends.now.ends in
    let indices = optional_indices g.T.NativePType.number c.args.indices.now (mask_bits c.args.mask.now) in
    let marked = subst (λ (words : List ℕ). AreMarked ends c.args.offset c.args.length words) (sym c.as_slice-words.ensures.value) c.in_ok-ranks.ensures.marked in
    c.ranked.ensures ∙ ranks_of_rows ends c.args.offset c.args.length c.as_slice-words.result.now indices c.requires.window marked c.requires.some c.requires.in_bounds
