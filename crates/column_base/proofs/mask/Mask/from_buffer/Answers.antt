use Rattle.std.proofs.Common.{◌∙◌, ap, arith, true, false}
use Rattle.std.specs.Prelude.{replicate}
use Rattle.std.proofs.lemmas.List.Sums.{count_by-le-length}
use Rattle.column_base.proofs.BitLists.{all_set, none_set, Contains-true, Contains-false}
use Rattle.column_base.proofs.mask.Mask.from_buffer.Goals as goal

pub returns-then-selected-count-clause-bits : goal.returns-then-selected-count-clause-bits
returns-then-selected-count-clause-bits g c =
    ap (λ n. replicate n true) c.len-count.ensures ∙ all_set c.args.bits (omega arith)

pub returns-then-selected-eq0-clause-bits : goal.returns-then-selected-eq0-clause-bits
returns-then-selected-eq0-clause-bits g c =
    ap (λ n. replicate n false) c.len-count.ensures ∙ none_set c.args.bits (omega arith)

pub returns-else-selected-eq0-clause-normal : goal.returns-else-selected-eq0-clause-normal
returns-else-selected-eq0-clause-normal g c =
    (Contains-true c.args.bits (omega arith), Contains-false c.args.bits (omega (arith, count_by-le-length (λ b. b) c.args.bits)))
