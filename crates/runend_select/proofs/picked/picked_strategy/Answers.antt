use Rattle.std.proofs.Common.{◌∙◌, sym}
use Rattle.std.proofs.lemmas.Bool.{false≢true}
use Rattle.column_base.specs.Mask.{mask_bits}
use Rattle.runend_select.proofs.Places.{valid_count-bits}
use Rattle.runend_select.proofs.picked.picked_strategy.Goals as goal

pub prefers_sorted_merge-requires-clause-counted : goal.prefers_sorted_merge-requires-clause-counted
prefers_sorted_merge-requires-clause-counted g c = c.true_count-count.ensures ∙ sym (valid_count-bits g.T.NativePType.number c.args.indices.now (mask_bits c.args.mask.now) c.requires.masked)

pub returns-then-is_within : goal.returns-then-is_within
returns-then-is_within g c =
    let count = c.true_count-count.ensures ∙ sym (valid_count-bits g.T.NativePType.number c.args.indices.now (mask_bits c.args.mask.now) c.requires.masked) in
    (λ p. false≢true (sym c.if-prefers_sorted_merge.false ∙ c.prefers_sorted_merge.ensures.1 p), rw count at (c.is_within.ensures.0 c.if-is_within.true))

pub returns-then-prefers_sort_and_merge : goal.returns-then-prefers_sort_and_merge
returns-then-prefers_sort_and_merge g c =
    let count = c.true_count-count.ensures ∙ sym (valid_count-bits g.T.NativePType.number c.args.indices.now (mask_bits c.args.mask.now) c.requires.masked) in (
      λ p. false≢true (sym c.if-prefers_sorted_merge.false ∙ c.prefers_sorted_merge.ensures.1 p),
      λ p. false≢true (sym c.if-is_within.false ∙ c.is_within.ensures.1 (rw count p)),
      rw count at (c.prefers_sort_and_merge.ensures.0 c.if-prefers_sort_and_merge.true),
    )

pub returns : goal.returns
returns g c =
    let count = c.true_count-count.ensures ∙ sym (valid_count-bits g.T.NativePType.number c.args.indices.now (mask_bits c.args.mask.now) c.requires.masked) in (
      λ p. false≢true (sym c.if-prefers_sorted_merge.false ∙ c.prefers_sorted_merge.ensures.1 p),
      λ p. false≢true (sym c.if-is_within.false ∙ c.is_within.ensures.1 (rw count p)),
      λ p. false≢true (sym c.if-prefers_sort_and_merge.false ∙ c.prefers_sort_and_merge.ensures.1 (rw count p)),
    )
