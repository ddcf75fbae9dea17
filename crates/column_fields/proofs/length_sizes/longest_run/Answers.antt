use Rattle.std.proofs.Common.{◌≡◌, ◌∙◌, ap, sym, arith, ℕ, List, pos, map, take, [], ◌∷◌, ◌+◌, ◌++◌}
use Rattle.std.proofs.lemmas.Int.{ints}
use Rattle.std.proofs.lemmas.List.{map_more, take_all}
use Rattle.std.proofs.lemmas.List.Elements.{All-push, All-nil, All-same}
use Rattle.column_base.specs.Types.{HasNumber}
use Rattle.column_fields.proofs.BlockLaws.{greatest_left, none_greatest}
use Rattle.column_fields.proofs.length_sizes.longest_run.Goals as goal

pub loop-stop-init : goal.loop-stop-init
loop-stop-init g c =
    let natural = g.E.UnsignedPType.natural in
    let zero : natural c.default-longest.result ≡ 0 = omega (arith, ints, g.met.E.UnsignedPType.natural_law c.default-longest.result, g.met.E.NativePType.law.zeroth c.default-longest.result c.default-longest.ensures) in
    record {
      longest = omega (arith, zero);
      fits = All-nil (λ (end : ℕ). HasNumber g.E.NativePType.PTYPE (pos end));
    }

pub loop-stop-preserved : goal.loop-stop-preserved
loop-stop-preserved g c =
    let natural = g.E.UnsignedPType.natural in
    let has = λ (end : ℕ). HasNumber g.E.NativePType.PTYPE (pos end) in
    let front : List ℕ = map natural (take c.loop-stop.stop-index c.args.ends.now) in
    let more : map natural (take (c.loop-stop.stop-index + 1) c.args.ends.now) ≡ front ++ natural c.stop-item.result ∷ [] = map_more natural c.args.ends.now c.loop-stop.stop-index c.stop-item.result c.loop-stop-test.true ∙ ap (λ x. front ++ natural x ∷ []) (sym c.stop-item.is) in
    let left = greatest_left natural c.args.ends.now c.loop-stop.stop-index (natural c.loop-stop.begin) c.stop-item.result c.loop-stop-test.true c.stop-item.is in
    record {
      longest = omega (arith, c.loop-stop.invariant.longest, left, c.length.ensures.rows, c.greater-longest.ensures);
      fits = All-same has _ _ more (All-push has front (natural c.stop-item.result) c.loop-stop.invariant.fits c.length.ensures.fits);
    }

pub returns-clause-longest : goal.returns-clause-longest
returns-clause-longest g c = omega (arith, c.loop-stop.invariant.longest, none_greatest g.E.UnsignedPType.natural c.args.ends.now c.loop-stop.stop-index (g.E.UnsignedPType.natural c.loop-stop.begin) (omega arith))

pub returns-clause-fit : goal.returns-clause-fit
returns-clause-fit g c =
    let has = λ (end : ℕ). HasNumber g.E.NativePType.PTYPE (pos end) in
    All-same has _ _ (ap (map g.E.UnsignedPType.natural) (sym (take_all c.loop-stop.stop-index c.args.ends.now (omega arith)))) c.loop-stop.invariant.fits
