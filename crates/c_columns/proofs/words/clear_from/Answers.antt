use Rattle.std.proofs.Common.{◌≡◌, ◌-◌, ◌∙◌, ◌^◌, ◌%◌, ap, arith}
use Rattle.std.proofs.lemmas.Nat.Bits.{ones_shr}
use Rattle.column_base.proofs.WordClears.{IsClearedFrom-masked, IsClearedFrom-full}
use Rattle.c_columns.proofs.words.clear_from.Goals as goal

pub returns-then-used-ne0 : goal.returns-then-used-ne0
returns-then-used-ne0 c =
    let last = c.args.count % 64 in
    let back : 64 - (64 - last) ≡ last = omega arith in
    IsClearedFrom-masked c.args.words.now c.args.count _ c.requires c.if-used-ne0.true (ones_shr 64 (64 - last) (omega arith) ∙ ap (λ k. 2 ^ k - 1) back)

pub returns-else-used-ne0 : goal.returns-else-used-ne0
returns-else-used-ne0 c = IsClearedFrom-full c.args.words.now c.args.count c.requires c.if-used-ne0.false
