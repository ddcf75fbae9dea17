use Rattle.std.proofs.Common.{ℕ, map, sym, ◌∙◌, arith}
use Rattle.std.specs.Prelude.{slice_index, unsigned_abs}
use Rattle.runend_windows.proofs.StoredNumbers.{length-naturals}
use Rattle.runend_windows.proofs.FilledRows.{Filled-next, Filled-all, digit_of}
use Rattle.runend_windows.proofs.decode_bool.decode_bits.Goals as goal

pub loop-index-preserved : goal.loop-index-preserved
loop-index-preserved g c =
    let number = g.E.NativePType.number in
    let ends = map unsigned_abs (map number c.args.ends.now) in
    let values = c.args.values.now in
    let words = c.words-words.result.now in
    let index : ℕ = c.loop-index.index in
    let wrote = c.fill_runs.ensures in
    Filled-next ends values c.args.offset c.args.count index (slice_index words index) c.runs_unlike-runs.result c.starts_true-start.result c.loop-index.rows c.fill_runs.new.rows c.requires.window
    (c.requires.paired ∙ sym (length-naturals number c.args.ends.now))
    (λ j small. digit_of words values index j c.words-words.ensures small)
    (λ j small. c.runs_unlike-runs.ensures j small)
    (record { len = wrote.len; put = wrote.put; kept = wrote.kept; before = wrote.before; behind = wrote.behind })
    c.loop-index.invariant

pub returns-clause-cover : goal.returns-clause-cover
returns-clause-cover g c =
    let number = g.E.NativePType.number in
    let ends = map unsigned_abs (map number c.args.ends.now) in
    rw c.freeze.ensures
    (Filled-all ends c.args.values.now c.args.offset c.args.count c.loop-index.index c.starts_true-start.result c.loop-index.rows c.requires.window
    (c.requires.paired ∙ sym (length-naturals number c.args.ends.now)) (omega (arith, c.words-words.ensures.least, c.loop-index-test.false)) c.loop-index.invariant)
