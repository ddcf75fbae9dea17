use Rattle.std.proofs.Common.{◌∙◌, sym}
use Rattle.column_core.specs.SameType.{same_dtype-decides}
use Rattle.runend_column.proofs.record.is_same_type.Goals as goal

pub returns : goal.returns
returns c =
    let decided = same_dtype-decides c.args.left c.args.right in
    ((λ h. decided.0 (sym c.eq.ensures ∙ h)), (λ h. c.eq.ensures ∙ decided.1 h))
