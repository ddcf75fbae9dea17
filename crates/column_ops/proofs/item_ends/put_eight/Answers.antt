use Rattle.std.proofs.Common.{◌≡◌, ◌≢◌, ◌∙◌, ◌+◌, ◌*◌, ◌/◌, ◌^◌, ◌<◌, ℕ, length, bit_and, ap, arith, ⊎_elim}
use Rattle.std.specs.Int.{bit_at}
use Rattle.std.proofs.lemmas.Bool.{cases_eq}
use Rattle.std.proofs.lemmas.List.{get_or-set_other, get_or-set_same, length-set}
use Rattle.std.proofs.lemmas.Nat.{and_mask}
use Rattle.std.proofs.lemmas.Nat.Bits.{shr_and_one}
use Rattle.column_base.proofs.WordMasks.{bit_at-cut, bit_at-shifted}
use Rattle.column_ops.proofs.item_ends.put_eight.Goals as goal

pub loop-lane-preserved : goal.loop-lane-preserved
loop-lane-preserved c =
    let word : ℕ = c.args.word in
    let eight : ℕ = c.args.eight in
    let lane : ℕ = c.loop-lane.lane in
    let bytes = c.loop-lane.bytes in
    let place : ℕ = eight * 8 + lane in
    let part : ℕ = word / 2 ^ (eight * 8) in
    let byte : ℕ = bit_and part 255 in
    let few : lane < 8 = omega arith in
    let bit : bit_and (byte / 2 ^ lane) 1 ≡ bit_at word place =
    shr_and_one byte lane ∙ ap (λ (b : ℕ). bit_at b lane) (and_mask part 8) ∙ bit_at-cut part 8 lane few ∙ bit_at-shifted word (eight * 8) lane in
    let long : length bytes ≡ 64 = c.loop-lane.invariant.long in
    record {
      long = length-set bytes place (bit_and (byte / 2 ^ lane) 1) ∙ long;
      own = λ k mine below. ⊎_elim
          (λ (is : k ≡ place). rw (is, get_or-set_same bytes place (bit_and (byte / 2 ^ lane) 1) 0 (omega arith)) bit)
          (λ (other : k ≢ place). rw (get_or-set_other bytes place k (bit_and (byte / 2 ^ lane) 1) 0 other) (c.loop-lane.invariant.own k mine (omega arith)))
          (cases_eq k place);
      others = λ k other.
          let apart : k ≢ place = λ is. other (omega arith) in
          rw (get_or-set_other bytes place k (bit_and (byte / 2 ^ lane) 1) 0 apart) (c.loop-lane.invariant.others k other);
    }
