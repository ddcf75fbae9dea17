use Rattle.std.proofs.Common.{length, take}
use Rattle.std.specs.List.{AllZip}
use Rattle.column_base.specs.Validity.{validity_flags}
use Rattle.column_core.specs.Optionals.{optionals}
use Rattle.runend_map.proofs.answers.answers.Given as goal

abbrev pub invariant-loop-row : goal.invariant-loop-row
invariant-loop-row g l =
    AllZip (λ row answer. g.F.Fn.post l.function (row, tt) answer) (take l.row (optionals l.items (validity_flags l.validity (length l.items)))) l.answers.items
