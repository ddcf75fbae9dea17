-- Each view that is pushed.
use Rattle.std.proofs.Common.{◌≡◌, ◌∙◌, ◌+◌, ◌<◌, ap, sym, pos, ℕ, length, map, slice_index_or, arith}
use Rattle.std.proofs.lemmas.List.{length_push}
use Rattle.column_core.specs.declared.varbinview.View.{View}
use Rattle.c_columns.proofs.Cuts.{cut_more, offset_at, view_more}
use Rattle.c_columns.proofs.texts.views_between.Goals as goal

pub loop-row-preserved : goal.loop-row-preserved
loop-row-preserved g c =
    let number = g.T.NativePType.number in
    let offsets = c.args.offsets.now in
    let row = c.loop-row.row in
    let views = c.loop-row.views.items in
    let more = c.push.new.self.items in
    let view = c.in-Some.view in
    let so_far = c.loop-row.invariant in
    let put = c.in_ok-push-in-Some.ensures.items in
    let told = c.in-Some.ensures.view in
    let there : row + 1 < length offsets = omega (arith, c.loop-row-test.true) in
    let start = offset_at number offsets row c.index-offsets-row.result (omega (arith, there)) c.index-offsets-row.is in
    let stop = offset_at number offsets (row + 1) c.index-offsets-row-in-loop-row.result there c.index-offsets-row-in-loop-row.is in
    record {
      len = ap length put ∙ length_push views view ∙ ap (λ (n : ℕ). n + 1) so_far.len;
      buffers = view_more (λ (k : ℕ). λ (v : View). v.buffer ≡ 0) views more row view so_far.len put so_far.buffers told.0;
      starts = view_more (λ (k : ℕ). λ (v : View). pos v.start ≡ slice_index_or (map number offsets) k (pos 0)) views more row view so_far.len put so_far.starts (told.1 ∙ sym start);
      stops = view_more (λ (k : ℕ). λ (v : View). pos (v.start + v.size) ≡ slice_index_or (map number offsets) (k + 1) (pos 0)) views more row view so_far.len put so_far.stops (told.2 ∙ sym stop);
      cut = cut_more (map number offsets) row (number c.index-offsets-row.result) (number c.index-offsets-row-in-loop-row.result) so_far.cut start stop c.in-Some.ensures.cut;
    }
