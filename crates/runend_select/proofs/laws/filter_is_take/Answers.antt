use Rattle.runend_select.proofs.SelectLaws.{filter-is_take}
use Rattle.runend_select.proofs.laws.filter_is_take.Goals as goal

pub returns : goal.returns
returns c = λ rows mask long. filter-is_take rows mask long
