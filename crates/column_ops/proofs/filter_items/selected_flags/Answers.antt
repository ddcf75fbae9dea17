use Rattle.std.proofs.Common.{◌≤◌, ◌∙◌, ◌++◌, ◌∷◌, [], length, map, sym, ap, take, arith}
use Rattle.std.specs.Prelude.{is_some}
use Rattle.std.proofs.lemmas.List.{map_push, take_all}
use Rattle.column_base.specs.Mask.{mask_bits}
use Rattle.column_base.specs.Validity.{validity_flags}
use Rattle.column_core.specs.Optionals.{optionals}
use Rattle.column_ops.specs.Filter.{filter_rows}
use Rattle.column_ops.proofs.Passed.{passed_all, filter_rows-selected, filter_rows-passed}
use Rattle.column_ops.proofs.filter_items.selected_flags.Goals as goal
use Rattle.column_ops.proofs.filter_items.selected_flags.Goals.{then-value+in_ok-append, else-value}

pub loop-row-preserved : goal.loop-row-preserved
loop-row-preserved g c =
    let rows = optionals c.args.items.now (validity_flags c.args.validity.now (length c.args.items.now)) in
    let mask = mask_bits c.args.mask.now in
    let before = filter_rows (take c.loop-row.row mask) (take c.loop-row.row rows) in
    elim c.if-value.branch [
      | then-value+in_ok-append w ↦
          let more = filter_rows-selected mask rows c.loop-row.row c.value.result w.item_at.result c.value.ensures w.if-value.true w.item_at.ensures.row in
          w.kept-is ∙ w.in_ok-append.ensures.ok ∙ ap (λ old. old ++ w.is_some.result ∷ []) c.loop-row.invariant
          ∙ ap (λ flag. map is_some before ++ flag ∷ []) w.is_some.ensures ∙ sym (map_push is_some before w.item_at.result) ∙ ap (map is_some) (sym more)
      | else-value w ↦
          w.kept-is ∙ c.loop-row.invariant ∙ ap (map is_some) (sym (filter_rows-passed mask rows c.loop-row.row c.value.result c.value.ensures w.if-value.false))
    ]

pub returns-clause-flags : goal.returns-clause-flags
returns-clause-flags g c =
    let rows = optionals c.args.items.now (validity_flags c.args.validity.now (length c.args.items.now)) in
    let row = c.loop-row.row in
    let all = passed_all c.args.items.now (validity_flags c.args.validity.now (length c.args.items.now)) row (omega arith) in
    let masked : length (mask_bits c.args.mask.now) ≤ row = omega (arith, c.requires.masked) in
    let all_bits = take_all row (mask_bits c.args.mask.now) masked in
    c.freeze.ensures ∙ c.loop-row.invariant ∙ ap (λ bits. map is_some (filter_rows bits (take row rows))) all_bits ∙ ap (λ xs. map is_some (filter_rows (mask_bits c.args.mask.now) xs)) all
