use Rattle.std.proofs.Common.{◌∙◌, length, get_or, sym, ap, arith}
use Rattle.std.proofs.lemmas.List.{with_items_is}
use Rattle.column_base.specs.Words.{digit_at}
use Rattle.column_ops.proofs.BitItems.{items_or-by_digits}
use Rattle.column_ops.proofs.items_or.with_item_at_nulls.Goals as goal

pub returns : goal.returns
unfolding digit_at
returns g c =
    let items = c.args.items.items in
    let instead = c.args.instead in
    let out = c.put_at_zeros.new.items in
    let wrote = c.put_at_zeros.ensures in
    let same = c.deref_mut.ensures.value in
    let long = ap length same in
    with_items_is c.args.items out (wrote.len ∙ long ∙ sym c.args.items.ok.0)
    ∙ items_or-by_digits items out c.words.result.now c.args.bits.now instead c.words.ensures c.requires (wrote.len ∙ long)
    (λ k h zero. wrote.put k (omega (arith, long)) zero)
    (λ k h one. wrote.kept k (omega (arith, long)) one ∙ ap (λ xs. get_or xs k instead) same)
