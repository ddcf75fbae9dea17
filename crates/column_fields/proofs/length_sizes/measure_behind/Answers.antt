use Rattle.std.proofs.Common.{◌≡◌, ◌∙◌, ap, arith, ℕ, pos, map, ◌++◌}
use Rattle.std.proofs.lemmas.List.{map-append}
use Rattle.std.proofs.lemmas.List.Elements.{All-append, All-same}
use Rattle.column_base.specs.Types.{HasNumber}
use Rattle.column_fields.specs.Lengths.{lengths_bytes}
use Rattle.column_fields.proofs.EightLaws.{cut_items}
use Rattle.column_fields.proofs.OneByteLaws.{runs_ahead, long_ahead}
use Rattle.column_fields.proofs.length_sizes.measure_behind.Goals as goal

pub loop-rest-init : goal.loop-rest-init
loop-rest-init g c = record { counted = omega arith; small = omega arith; fits = λ h. h }

pub loop-rest-preserved : goal.loop-rest-preserved
loop-rest-preserved g c =
    let natural = g.E.UnsignedPType.natural in
    let has = λ (end : ℕ). HasNumber g.E.NativePType.PTYPE (pos end) in
    let front = c.split_at.result.0.now in
    let back = c.split_at.result.1.now in
    let last = c.index-front.result in
    let start = natural c.loop-rest.start in
    let measured = lengths_bytes start (map natural front) in
    let left = lengths_bytes (natural last) (map natural back) in
    let parts : lengths_bytes start (map natural c.loop-rest.rest.now) ≡ measured ++ left =
    runs_ahead natural last start (natural last) 63 c.loop-rest.rest.now front back c.split_at.ensures.front c.split_at.ensures.back c.split_at.ensures.front_len (ap natural c.index-front.is) in
    let items : map natural c.loop-rest.rest.now ≡ map natural front ++ map natural back = ap (map natural) (cut_items 64 c.loop-rest.rest.now front back c.split_at.ensures.front c.split_at.ensures.back) ∙ map-append natural front back in
    record {
      counted = omega (arith, c.loop-rest.invariant.counted, long_ahead _ measured left parts, c.measure_block.ensures.size);
      small = omega (arith, c.loop-rest.invariant.small, c.measure_block.ensures.most, c.split_at.ensures.front_len, c.split_at.ensures.back_len);
      fits = λ others. c.loop-rest.invariant.fits (All-same has _ _ items (All-append has (map natural front) (map natural back) c.measure_block.ensures.fit others));
    }

pub returns-clause-size : goal.returns-clause-size
returns-clause-size g c = omega (arith, c.loop-rest.invariant.counted, c.measure_block-2.ensures.size)

pub returns-clause-fit : goal.returns-clause-fit
returns-clause-fit g c = c.loop-rest.invariant.fits c.measure_block-2.ensures.fit
