use Rattle.std.proofs.Common.{◌≡◌, ◌≤◌, ◌<◌, ◌∙◌, ◌+◌, ◌-◌, ℕ, List, None, length, ap, sym, slice_index_or, arith}
use Rattle.std.specs.Prelude.{slice_range}
use Rattle.std.proofs.lemmas.List.{length-set}
use Rattle.c_columns.specs.Reads.{bytes_of, bytes_of_rows, size_between, text_rows}
use Rattle.c_columns.proofs.ReadRefusals.{offset_below, offset_small}
use Rattle.c_columns.proofs.TextRows.{first_offset, has_room, next_offset, none_yet, offset_after, offset_more, offset_none, size_more}
use Rattle.c_columns.proofs.text_rows.put_each_offset.Goals as goal

pub offset_within-requires : goal.offset_within-requires
offset_within-requires g c = offset_below g.T.NativePType.PTYPE 0 (size_between c.args.texts.now c.args.start c.args.stop) c.requires.last (omega arith)

pub loop-row-init : goal.loop-row-init
loop-row-init g c =
    let rows = text_rows c.args.texts.now in
    let first = c.offset_within.result in
    record {
      len = length-set c.args.offsets.now 0 first;
      size = sym (ap length (none_yet rows c.args.start));
      so_far = first_offset g.T.NativePType.number (offset_after rows c.args.start) c.args.offsets.now c.args.start first (omega (arith, c.requires.room)) (c.offset_within.ensures ∙ offset_none rows c.args.start);
    }

-- no sum is past that of all rows, which the type has
pub overflow_add-size : goal.overflow_add-size
overflow_add-size g c =
    let texts = c.args.texts.now in
    let room = has_room (text_rows texts) c.args.start c.loop-row.row c.args.stop c.loop-row.auto.row c.loop-row-test.true (omega (arith, c.requires.within, c.requires.counted)) in
    let text = bytes_of (slice_index_or (text_rows texts) c.loop-row.row None) in
    let more = ap length {y = text} c.bytes_at-more.ensures in
    omega (arith, room, more, c.loop-row.invariant.size, offset_small g.T.NativePType.PTYPE (size_between texts c.args.start c.args.stop) c.requires.last)

pub offset_within-requires-in-loop-row : goal.offset_within-requires-in-loop-row
offset_within-requires-in-loop-row g c =
    let texts = c.args.texts.now in
    let room = has_room (text_rows texts) c.args.start c.loop-row.row c.args.stop c.loop-row.auto.row c.loop-row-test.true (omega (arith, c.requires.within, c.requires.counted)) in
    let text = bytes_of (slice_index_or (text_rows texts) c.loop-row.row None) in
    let more = ap length {y = text} c.bytes_at-more.ensures in
    offset_below g.T.NativePType.PTYPE (c.loop-row.size + length c.bytes_at-more.result.now) (size_between texts c.args.start c.args.stop) c.requires.last (omega (arith, room, more, c.loop-row.invariant.size))

pub loop-row-preserved : goal.loop-row-preserved
loop-row-preserved g c =
    let rows = text_rows c.args.texts.now in
    let start = c.args.start in
    let row = c.loop-row.row in
    let size = c.loop-row.size + length c.bytes_at-more.result.now in
    let second = c.offset_within-in-loop-row.result in
    let order : start ≤ row = c.loop-row.auto.row in
    let below : row < c.args.stop = c.loop-row-test.true in
    let there : row < length rows = omega (arith, below, c.requires.within, c.requires.counted) in
    let room : row - start + 1 < length c.loop-row.offsets = omega (arith, order, below, c.requires.room, c.loop-row.invariant.len) in
    let grown : size ≡ length (bytes_of_rows (slice_range rows start (row + 1))) =
    ap (λ (n : ℕ). n + length c.bytes_at-more.result.now) {y = length (bytes_of_rows (slice_range rows start row))} c.loop-row.invariant.size
    ∙ ap (λ (bytes : List ℕ). length (bytes_of_rows (slice_range rows start row)) + length bytes) {y = bytes_of (slice_index_or rows row None)} c.bytes_at-more.ensures ∙ sym (size_more rows start row order there) in
    record {
      len = length-set c.loop-row.offsets (row - start + 1) second ∙ c.loop-row.invariant.len;
      size = grown;
      so_far = next_offset g.T.NativePType.number (offset_after rows start) c.loop-row.offsets start row second order room c.loop-row.invariant.so_far (c.offset_within-in-loop-row.ensures ∙ offset_more rows start row size order grown);
    }
