use Rattle.std.proofs.Common.{◌+◌, ◌*◌, ℕ, pos, length, ap, ◌∙◌, arith}
use Rattle.std.specs.Prelude.{option_map}
use Rattle.column_base.specs.Mask.{mask_bits}
use Rattle.runend_select.specs.Indices.{optional_indices}
use Rattle.runend_select.specs.Ranks.{ones_before, rank_at}
use Rattle.runend_select.proofs.Places.{answered-all, answered-more, length-optional_indices}
use Rattle.runend_select.proofs.IndexRows.{named_within, rank_named}
use Rattle.runend_select.proofs.by_rank.ranks_of.Goals as goal

pub rank_of-requires-clause-within : goal.rank_of-requires-clause-within
rank_of-requires-clause-within g c =
    let indices = optional_indices g.T.NativePType.number c.args.indices.now (mask_bits c.args.mask.now) in
    rw c.unwrap_or-row.ensures (named_within indices (length c.args.words.now * 64) c.loop-place.place c.named_row.result (omega (arith, c.requires.some)) c.requires.in_words c.named_row.ensures)

pub loop-place-preserved : goal.loop-place-preserved
loop-place-preserved g c =
    let words = c.args.words.now in
    let indices = optional_indices g.T.NativePType.number c.args.indices.now (mask_bits c.args.mask.now) in
    let row = c.named_row.result in
    let inv = c.loop-place.invariant in
    let is = c.rank_of.ensures ∙ ap (λ (n : ℕ). ones_before words (n + 1)) c.unwrap_or-row.ensures ∙ rank_named words row in
    record {
      answered = c.push_reserved.ensures.items
          ∙ answered-more (rank_at words) indices c.loop-place.ranks.items c.loop-place.place c.rank_of.result (option_map (λ (n : ℕ). pos n) row) c.named_row.ensures inv.answered is;
      counted = c.push_reserved.ensures.len ∙ ap (λ n. n + 1) inv.counted;
      room = rw c.push_reserved.ensures.capacity inv.room;
    }

pub returns : goal.returns
returns g c =
    let indices = optional_indices g.T.NativePType.number c.args.indices.now (mask_bits c.args.mask.now) in
    let counted = length-optional_indices g.T.NativePType.number c.args.indices.now (mask_bits c.args.mask.now) c.requires.masked in
    answered-all (rank_at c.args.words.now) indices c.loop-place.ranks.items c.loop-place.place (omega arith) c.loop-place.invariant.answered
