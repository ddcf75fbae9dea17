use Rattle.std.proofs.Common.{◌≡◌, ◌∙◌, ◌+◌, ◌/◌, ◌%◌, ◌^◌, ◌<◌, ℕ, Some, bit_and, eqb, get_or, refl, sym, ap, arith}
use Rattle.std.specs.Prelude.{slice_range}
use Rattle.std.specs.Int.{bit_at}
use Rattle.std.specs.declared.cmp.Ordering.TheVariants.{Less, Greater}
use Rattle.std.proofs.lemmas.Nat.Bits.{shr_and_one}
use Rattle.column_ops.specs.Items.{flagged_rows, item_row}
use Rattle.column_ops.proofs.ItemRows.{length-flagged_rows}
use Rattle.column_ops.proofs.PairedEnds.{Contains-longer, IsLookedAt, looked-flagged, max-further, min-further, two-all, two-init, two-next}
use Rattle.column_ops.proofs.WordFlags.{flag_read}
use Rattle.column_ops.proofs.item_ends.ends_in_whole_word.Goals as goal

pub loop-lane-init : goal.loop-lane-init
loop-lane-init g c =
    let value = g.T.FlatItem.value in
    let rows = flagged_rows value c.args.items.now c.args.flags.now in
    let from : ℕ = c.args.from in
    let long = length-flagged_rows value c.args.items.now c.args.flags.now c.requires.fits in
    let none : from + 0 ≡ from = omega arith in
    let nor : from + 32 + 0 ≡ from + 32 = omega arith in
    record {
      least = λ start low so_far. rw (none, nor) (two-init Less rows start from (from + 64) (from + 32) (item_row value c.args.ends.0) low (omega arith) (omega arith) so_far.low);
      greatest = λ start low so_far. rw (none, nor) (two-init Greater rows start from (from + 64) (from + 32) (item_row value c.args.ends.1) low (omega arith) (omega arith) so_far.high);
    }

pub loop-lane-preserved : goal.loop-lane-preserved
loop-lane-preserved g c =
    let value = g.T.FlatItem.value in
    let cmp = g.T.Ord.cmp in
    let ordered = g.met.T.FlatItem.ordered in
    let items = c.args.items.now in
    let marks = c.args.flags.now in
    let rows = flagged_rows value items marks in
    let long = length-flagged_rows value items marks c.requires.fits in
    let from : ℕ = c.args.from in
    let lane : ℕ = c.loop-lane.lane in
    let row : ℕ = from + lane in
    let later : ℕ = from + 32 + lane in
    let first = c.args.first in
    let few : lane < 32 = omega arith in
    let bytes = c.bytes_of_bits-marks.result in
    let word : ℕ = get_or c.words.result.now (from / 64) 0 in
    let place : row % 64 ≡ lane = omega (arith, c.requires.first_of_word) in
    let place2 : later % 64 ≡ lane + 32 = omega (arith, c.requires.first_of_word) in
    let same : row / 64 ≡ from / 64 = omega (arith, c.requires.first_of_word) in
    let same2 : later / 64 ≡ from / 64 = omega (arith, c.requires.first_of_word) in
    let bit : bit_and (word / 2 ^ (row % 64)) 1 ≡ get_or bytes lane 0 = shr_and_one word (row % 64) ∙ ap (bit_at word) place ∙ sym (c.bytes_of_bits-marks.ensures lane (omega arith)) in
    let bit2 : bit_and (word / 2 ^ (later % 64)) 1 ≡ get_or bytes (lane + 32) 0 = shr_and_one word (later % 64) ∙ ap (bit_at word) place2 ∙ sym (c.bytes_of_bits-marks.ensures (lane + 32) (omega arith)) in
    let flag = flag_read c.words.result.now marks row from c.words.ensures (omega arith) same ∙ ap (λ (n : ℕ). Some (eqb n 1)) bit in
    let flag2 = flag_read c.words.result.now marks later from c.words.ensures (omega arith) same2 ∙ ap (λ (n : ℕ). Some (eqb n 1)) bit2 in
    let after : from + (lane + 1) ≡ row + 1 = omega arith in
    let after2 : from + 32 + (lane + 1) ≡ later + 1 = omega arith in
    let left = c.select_unpredictable-left.result in
    let right = c.select_unpredictable-right.result in
    record {
      least = λ start low so_far.
          let all = slice_range rows start (from + 64) in
          let has = Contains-longer rows start from (from + 64) (item_row value first) low (omega arith) (omega arith) so_far.among in
          let one : IsLookedAt rows all row (item_row value left) = rw c.select_unpredictable-left.ensures (looked-flagged value items marks start (from + 64) row c.index-items-row.result first (eqb (get_or bytes lane 0) 1) (omega arith) (omega arith) (omega arith) (omega arith) c.index-items-row.is flag has) in
          let two : IsLookedAt rows all later (item_row value right) = rw c.select_unpredictable-right.ensures (looked-flagged value items marks start (from + 64) later c.index-items-later.result first (eqb (get_or bytes (lane + 32) 0) 1) (omega arith) (omega arith) (omega arith) (omega arith) c.index-items-later.is flag2 has) in
          rw (after, after2) (two-next Less value rows all start row (from + 32) later c.loop-lane.least left right c.min.result c.min-least.result (λ e. cc) one two
          (rw c.min.ensures (min-further value cmp ordered left right)) (rw c.min-least.ensures (min-further value cmp ordered c.loop-lane.least c.min.result)) (c.loop-lane.invariant.least start low so_far));
      greatest = λ start low so_far.
          let all = slice_range rows start (from + 64) in
          let has = Contains-longer rows start from (from + 64) (item_row value first) low (omega arith) (omega arith) so_far.among in
          let one : IsLookedAt rows all row (item_row value left) = rw c.select_unpredictable-left.ensures (looked-flagged value items marks start (from + 64) row c.index-items-row.result first (eqb (get_or bytes lane 0) 1) (omega arith) (omega arith) (omega arith) (omega arith) c.index-items-row.is flag has) in
          let two : IsLookedAt rows all later (item_row value right) = rw c.select_unpredictable-right.ensures (looked-flagged value items marks start (from + 64) later c.index-items-later.result first (eqb (get_or bytes (lane + 32) 0) 1) (omega arith) (omega arith) (omega arith) (omega arith) c.index-items-later.is flag2 has) in
          rw (after, after2) (two-next Greater value rows all start row (from + 32) later c.loop-lane.greatest left right c.max.result c.max-greatest.result (λ e. cc) one two
          (rw c.max.ensures (max-further value cmp ordered left right)) (rw c.max-greatest.ensures (max-further value cmp ordered c.loop-lane.greatest c.max.result)) (c.loop-lane.invariant.greatest start low so_far));
    }

pub returns : goal.returns
returns g c =
    let value = g.T.FlatItem.value in
    let items = c.args.items.now in
    let marks = c.args.flags.now in
    let rows = flagged_rows value items marks in
    let long = length-flagged_rows value items marks c.requires.fits in
    let from : ℕ = c.args.from in
    let middle : from + c.loop-lane.lane ≡ from + 32 = omega arith in
    let whole : from + 32 + c.loop-lane.lane ≡ from + 64 = omega arith in
    λ start low so_far. record {
      among = Contains-longer rows start from (from + 64) (item_row value c.args.first) low (omega arith) (omega arith) so_far.among;
      low = two-all Less rows start (from + 32) (from + 32) (from + 64) (item_row value c.loop-lane.least) (omega arith) (omega arith) (omega arith) refl
          (rw (middle, whole) at (c.loop-lane.invariant.least start low so_far));
      high = two-all Greater rows start (from + 32) (from + 32) (from + 64) (item_row value c.loop-lane.greatest) (omega arith) (omega arith) (omega arith) refl
          (rw (middle, whole) at (c.loop-lane.invariant.greatest start low so_far));
    }
