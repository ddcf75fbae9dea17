use Rattle.std.proofs.Common.{◌∙◌, sym, ap}
use Rattle.runend_array.specs.Lists.{list_rows}
use Rattle.std.proofs.Common.{length}
use Rattle.runend_array.specs.Array.{lists_of}
use Rattle.runend_array.proofs.ListRows.{length-list_rows}
use Rattle.runend_array.proofs.lists.listview.ListViewArray.len.Goals as goal

pub returns-clause-rows : goal.returns-clause-rows
returns-clause-rows g c =
    let lists = lists_of c.self.inside.elements.value c.self.inside.offsets c.self.inside.sizes c.self.inside.validity in
    c.index_len.ensures ∙ sym (length-list_rows lists) ∙ ap (λ l. length (list_rows l)) c.self.view_is
