use Rattle.std.proofs.Common.{◌≡◌, ◌∙◌, ℕ, length, replicate, ap, sym}
use Rattle.std.specs.Prelude.{option_map}
use Rattle.std.proofs.lemmas.List.{length-replicate}
use Rattle.column_base.specs.Mask.{mask_bits}
use Rattle.column_core.specs.Value.{Single}
use Rattle.runend_array.specs.Column.{Constant, OfConstant, column_rows}
use Rattle.runend_column.proofs.ConstantRows.{selected-constant}
use Rattle.runend_column.proofs.FilterFaults.{fault_here}
use Rattle.runend_column.proofs.FilterFaults as faults
use Rattle.runend_commands.proofs.compute.filters.filter_constant.Goals as goal

pub returns-then-len-clause-refused : goal.returns-then-len-clause-refused
returns-then-len-clause-refused g c =
    let n = c.args.constant.now.count in
    let v = option_map Single c.args.constant.now.value in
    let long : length (column_rows (OfConstant c.args.constant.now)) ≡ n = length-replicate n v in
    fault_here (length (mask_bits c.args.mask.now)) (length (column_rows (OfConstant c.args.constant.now))) c.len-then-len.result c.len-then-len-2.result
    (λ same. c.if-len.true (c.len.ensures ∙ same ∙ long ∙ sym c.len-2.ensures)) c.len-then-len.ensures (c.len-then-len-2.ensures ∙ sym long)

pub returns-clause-refused : goal.returns-clause-refused
returns-clause-refused g c =
    let n = c.args.constant.now.count in
    let v = option_map Single c.args.constant.now.value in
    let long : length (column_rows (OfConstant c.args.constant.now)) ≡ n = length-replicate n v in
    faults.no_fault (length (mask_bits c.args.mask.now)) (length (column_rows (OfConstant c.args.constant.now))) (sym c.len.ensures ∙ c.if-len.false ∙ c.len-2.ensures ∙ sym long)

pub returns-clause-rows : goal.returns-clause-rows
returns-clause-rows g c =
    let n = c.args.constant.now.count in
    let v = option_map Single c.args.constant.now.value in
    let masked : length (mask_bits c.args.mask.now) ≡ n = sym c.len.ensures ∙ c.if-len.false ∙ c.len-2.ensures in
    ap (λ (k : Constant). column_rows (OfConstant k)) c.in_ok-kept.ensures.form ∙ ap (λ (k : ℕ). replicate k v) c.true_count.ensures
    ∙ sym (selected-constant v n (mask_bits c.args.mask.now) masked)
