use Rattle.std.proofs.Common.{◌≡◌, ◌∙◌, ◌<◌, Some, arith, ap, refl, sym, length, ⊎_elim}
use Rattle.std.specs.Prelude.{option_map, slice_get}
use Rattle.std.proofs.lemmas.Bool.{cases_lt}
use Rattle.std.proofs.lemmas.Nat.{le_or_l, le_or_r}
use Rattle.std.proofs.lemmas.Option.{slice_get_read}
use Rattle.column_sums.specs.SumRange.{sum_range}
use Rattle.column_sums.proofs.Reaches.{sized-wider}
use Rattle.column_sums.proofs.items.size_of_items.Goals as goal

pub loop-index-preserved : goal.loop-index-preserved
loop-index-preserved g c =
    let range = sum_range g.V.NativePType.PTYPE in
    let number = g.T.NativePType.number in
    let items = c.args.items.now in
    let index = c.loop-index.index in
    let old = c.loop-index.invariant in
    let item = c.index-items-index.result in
    let stored = slice_get_read items (length items) index item refl (omega (arith, c.loop-index-test.true, c.requires.within)) c.index-items-index.is in
    record {
      from = omega (arith, old.from);
      to = omega (arith, c.loop-index-test.true);
      sized = λ k n low high is. ⊎_elim
          (λ (before : k < index). sized-wider range c.loop-index.size _ n (le_or_l c.loop-index.size c.size-size-in-loop-index.result) (old.sized k n low before is))
          (λ past.
          let here : k ≡ index = omega (arith, high, past) in
          let at : Some (Some (number item)) ≡ Some (Some n) = ap (option_map (λ i. Some (number i))) (sym stored) ∙ ap (λ j. option_map (λ i. Some (number i)) (slice_get items j)) (sym here) ∙ is in
          let same : number item ≡ n = cc in
          sized-wider range c.size-size-in-loop-index.result _ n (le_or_r c.loop-index.size c.size-size-in-loop-index.result) (rw same at c.size-size-in-loop-index.ensures))
          (cases_lt k index);
    }

pub returns : goal.returns
returns g c = λ k n low high is. c.loop-index.invariant.sized k n low (omega (arith, high, c.loop-index-test.false)) is
