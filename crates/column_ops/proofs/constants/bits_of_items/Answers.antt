use Rattle.std.proofs.Common.{◌≡◌, ◌∙◌, Bool, List, length, map, sym, ap, subst}
use Rattle.std.specs.Prelude.{IfOk}
use Rattle.column_base.specs.Validity.{validity_flags}
use Rattle.column_core.specs.Optionals.{optionals}
use Rattle.column_ops.specs.Comparing.{holds_of, is_held}
use Rattle.column_ops.proofs.ConstantBits.{is_held-all, is_held-none}
use Rattle.column_ops.proofs.constants.bits_of_items.Goals as goal

pub returns-in-NonNullable-clause-bits : goal.returns-in-NonNullable-clause-bits
returns-in-NonNullable-clause-bits g c =
    let items = c.args.items.now in
    let test = λ (item : g.row.T.Denot). holds_of c.args.operator (g.T.Ord.cmp item c.args.right) in
    subst (λ (told : List Bool). IfOk c.bits_of_all.result (λ bits. bits ≡ told))
    (sym (is_held-all test items) ∙ ap (λ v. map (is_held test) (optionals items (validity_flags v (length items)))) (sym c.in-NonNullable.is)) c.bits_of_all.ensures.bits

pub returns-in-AllValid-clause-bits : goal.returns-in-AllValid-clause-bits
returns-in-AllValid-clause-bits g c =
    let items = c.args.items.now in
    let test = λ (item : g.row.T.Denot). holds_of c.args.operator (g.T.Ord.cmp item c.args.right) in
    subst (λ (told : List Bool). IfOk c.bits_of_all-in-AllValid.result (λ bits. bits ≡ told))
    (sym (is_held-all test items) ∙ ap (λ v. map (is_held test) (optionals items (validity_flags v (length items)))) (sym c.in-AllValid.is)) c.bits_of_all-in-AllValid.ensures.bits

pub returns-in-AllInvalid-clause-bits : goal.returns-in-AllInvalid-clause-bits
returns-in-AllInvalid-clause-bits g c =
    let items = c.args.items.now in
    let test = λ (item : g.row.T.Denot). holds_of c.args.operator (g.T.Ord.cmp item c.args.right) in
    subst (λ (told : List Bool). IfOk c.full.result (λ bits. bits ≡ told))
    (sym (is_held-none test items) ∙ ap (λ v. map (is_held test) (optionals items (validity_flags v (length items)))) (sym c.in-AllInvalid.is)) c.full.ensures.bits
