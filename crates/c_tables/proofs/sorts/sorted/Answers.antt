use Rattle.std.proofs.Common.{◌∙◌, ap, map}
use Rattle.std.specs.String.{string_bytes}
use Rattle.c_tables.proofs.SortKeys.{sort_failed, sort_made}
use Rattle.c_tables.proofs.sorts.sorted.Goals as goal

pub returns-in_err-made-clause-refused : goal.returns-in_err-made-clause-refused
returns-in_err-made-clause-refused c =
    sort_failed c.args.names.now c.args.flags.now c.args.table.now c.from_residual-in_err-made.result c.in_ok-keys.keys.items c.deref.result.now c.in_err-made.field-0.0 c.in_ok-keys.ensures.refused c.deref.ensures.value c.in_ok-keys.ensures.names
    c.in_err-made.ensures.refused c.from_residual-in_err-made.ensures.1

pub returns-clause-sorted : goal.returns-clause-sorted
returns-clause-sorted c =
    let made = c.in_ok-made.ensures in
    let same = c.deref.ensures.value in
    sort_made c.args.names.now c.args.flags.now c.args.table.now c.deref.result.now c.in_ok-made.field-0 c.in_ok-boxed.field-0.value c.in_ok-boxed.ensures.table c.in_ok-keys.ensures.refused
    (ap (map (λ key. string_bytes key.name)) same ∙ c.in_ok-keys.ensures.names) (ap (map (λ key. key.order)) same ∙ c.in_ok-keys.ensures.orders) made.sorted made.count made.kept
