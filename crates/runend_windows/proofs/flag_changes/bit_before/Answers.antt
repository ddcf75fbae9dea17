use Rattle.std.proofs.Common.{◌≡◌, ◌∙◌, ◌-◌, ◌*◌, slice_index_or, refl, sym, ap, arith}
use Rattle.column_base.specs.Words.{digit_at}
use Rattle.runend_windows.proofs.ChangedItems.{digit-before_first, digit-before_word}
use Rattle.runend_windows.proofs.flag_changes.bit_before.Goals as goal

pub returns-then-index-eq0 : goal.returns-then-index-eq0
returns-then-index-eq0 c =
    let words = c.args.words.now in
    let first : c.args.index * 64 - 1 ≡ 0 = omega (arith, c.if-index-eq0.true) in
    digit-before_first words (slice_index_or words 0 0) refl ∙ ap (digit_at words) (sym first)

pub returns-else-index-eq0 : goal.returns-else-index-eq0
returns-else-index-eq0 c =
    let words = c.args.words.now in
    digit-before_word words c.args.index (slice_index_or words (c.args.index - 1) 0) (omega (arith, c.if-index-eq0.false)) (omega (arith, c.type_inv.words (c.args.index - 1))) refl
