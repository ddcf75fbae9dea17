use Rattle.std.proofs.Common.{◌≡◌, ℕ, bit_and, false, length, map, sym, ◌∙◌, arith}
use Rattle.std.specs.Prelude.{slice_index, unsigned_abs}
use Rattle.column_base.specs.ValidityForm.{ByBits}
use Rattle.column_core.specs.Optionals.{optionals}
use Rattle.runend_windows.specs.Encoding.{blanked}
use Rattle.runend_windows.proofs.Blanked.{length-blanked}
use Rattle.runend_windows.proofs.StoredNumbers.{length-naturals}
use Rattle.runend_windows.proofs.FilledRows.{Filled-next, Filled-all, digit_of, digit_of_marked}
use Rattle.runend_windows.proofs.decode_bool.decode_marked.Goals as goal

pub loop-index-preserved : goal.loop-index-preserved
loop-index-preserved g c =
    let number = g.E.NativePType.number in
    let ends = map unsigned_abs (map number c.args.ends.now) in
    let values = c.args.values.now in
    let marks = c.args.marks.now in
    let stored = blanked false (optionals values marks) in
    let words = c.words-words.result.now in
    let marked = c.words-marked.result.now in
    let index : ℕ = c.loop-index.index in
    let long : length values ≡ length ends = c.requires.paired ∙ sym (length-naturals number c.args.ends.now) in
    let rows = c.fill_runs.ensures in
    let flags = c.fill_runs-in-loop-index.ensures in
    record {
      rows = Filled-next ends stored c.args.offset c.args.count index (bit_and (slice_index words index) (slice_index marked index)) c.runs_unlike-truths.result c.starts_true-start.result
          c.loop-index.rows c.fill_runs.new.rows c.requires.window (length-blanked false values (ByBits marks) c.requires.fits ∙ long)
          (λ j small. digit_of_marked words marked values marks index j c.words-words.ensures c.words-marked.ensures c.requires.fits small)
          (λ j small. c.runs_unlike-truths.ensures j small)
          (record { len = rows.len; put = rows.put; kept = rows.kept; before = rows.before; behind = rows.behind })
          c.loop-index.invariant.rows;
      flags = Filled-next ends marks c.args.offset c.args.count index (slice_index marked index) c.runs_unlike-nulls.result c.starts_true-valid.result
          c.loop-index.flags c.fill_runs-in-loop-index.new.rows c.requires.window (c.requires.fits ∙ long)
          (λ j small. digit_of marked marks index j c.words-marked.ensures small)
          (λ j small. c.runs_unlike-nulls.ensures j small)
          (record { len = flags.len; put = flags.put; kept = flags.kept; before = flags.before; behind = flags.behind })
          c.loop-index.invariant.flags;
    }

pub returns-clause-bits : goal.returns-clause-bits
returns-clause-bits g c =
    let number = g.E.NativePType.number in
    let ends = map unsigned_abs (map number c.args.ends.now) in
    let values = c.args.values.now in
    let marks = c.args.marks.now in
    let counted = length-blanked false values (ByBits marks) c.requires.fits in
    rw c.freeze.ensures
    (Filled-all ends (blanked false (optionals values marks)) c.args.offset c.args.count c.loop-index.index c.starts_true-start.result c.loop-index.rows c.requires.window
    (counted ∙ c.requires.paired ∙ sym (length-naturals number c.args.ends.now)) (omega (arith, counted, c.words-words.ensures.least, c.loop-index-test.false)) c.loop-index.invariant.rows)

pub returns-clause-flags : goal.returns-clause-flags
returns-clause-flags g c =
    let number = g.E.NativePType.number in
    let ends = map unsigned_abs (map number c.args.ends.now) in
    rw c.freeze-2.ensures
    (Filled-all ends c.args.marks.now c.args.offset c.args.count c.loop-index.index c.starts_true-valid.result c.loop-index.flags c.requires.window
    (c.requires.fits ∙ c.requires.paired ∙ sym (length-naturals number c.args.ends.now)) (omega (arith, c.requires.fits, c.words-words.ensures.least, c.loop-index-test.false)) c.loop-index.invariant.flags)
