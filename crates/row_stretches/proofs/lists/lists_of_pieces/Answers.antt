use Rattle.std.proofs.Common.{◌≡◌, ◌∙◌, ℕ, List, Option, ap, length, subst, sym}
use Rattle.std.proofs.lemmas.Result.{IfOk-weaker}
use Rattle.column_base.specs.ValidityForm.{NeverNull}
use Rattle.column_core.specs.Leaf.{leaf_dtype}
use Rattle.column_core.specs.Value.{Value, element_of}
use Rattle.runend_windows.specs.Ends.{ends_of}
use Rattle.runend_windows.specs.Window.{run_rows}
use Rattle.runend_windows.proofs.Ends.{length_ends_of}
use Rattle.runend_array.specs.ListTake.{ArePlacesOf, lists_taken}
use Rattle.runend_array.specs.Lists.{list_count, list_dtype, list_rows, row_nullability}
use Rattle.runend_encode.specs.Starts.{rows_at}
use Rattle.row_stretches.proofs.Copies.{count_taken, lists_at, same_type}
use Rattle.row_stretches.proofs.lists.lists_of_pieces.Goals as goal

pub take_at-requires-clause-within : goal.take_at-requires-clause-within
take_at-requires-clause-within g c =
    subst (λ (places : List ℕ). ArePlacesOf (list_count c.args.lists.now) places NeverNull) (sym c.as_slice.ensures.value) (λ place there valid. c.requires.pieces.there place 0 there)

pub decode_with-made-requires-clause-paired : goal.decode_with-made-requires-clause-paired
decode_with-made-requires-clause-paired g c =
    count_taken c.args.lists.now c.in_ok-taken.taken c.as_slice.result.now NeverNull c.in_ok-taken.ensures.rows ∙ ap length c.as_slice.ensures.value ∙ c.requires.pieces.paired
    ∙ sym (ap length (c.in-Ok.ensures.least.shown ∙ c.deref.ensures.value)) ∙ length_ends_of c.in-Ok.ends

pub returns-clause-rows : goal.returns-clause-rows
returns-clause-rows g c =
    let p = c.args.pieces.now in
    let lists = c.args.lists.now in
    let values = list_rows c.in_ok-taken.taken in
    let shown : values ≡ rows_at (list_rows lists) p.runs.items =
    c.in_ok-taken.ensures.rows ∙ ap (λ (places : List ℕ). lists_taken lists places NeverNull) c.as_slice.ensures.value ∙ lists_at lists p.runs.items c.requires.pieces.there in
    IfOk-weaker c.decode_with-made.result (λ made. list_rows made ≡ run_rows (ends_of c.in-Ok.ends) values 0 p.count) (λ made. list_rows made ≡ run_rows p.ends.items (rows_at (list_rows lists) p.runs.items) 0 p.count)
    (λ made is. is ∙ ap (λ (ends : List ℕ). run_rows ends values 0 p.count) (c.in-Ok.ensures.least.shown ∙ c.deref.ensures.value) ∙ ap (λ (vs : List (Option Value)). run_rows p.ends.items vs 0 p.count) shown)
    c.decode_with-made.ensures.rows

pub returns-clause-dtype : goal.returns-clause-dtype
returns-clause-dtype g c =
    let lists = c.args.lists.now in
    IfOk-weaker c.decode_with-made.result (λ made. list_dtype made ≡ list_dtype c.in_ok-taken.taken) (λ made. list_dtype made ≡ list_dtype lists)
    (λ made is. is ∙ c.in_ok-taken.ensures.dtype ∙ same_type (element_of (leaf_dtype lists.elements)) (row_nullability lists.validity)) c.decode_with-made.ensures.dtype
