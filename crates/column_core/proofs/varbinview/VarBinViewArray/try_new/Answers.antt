use Rattle.std.proofs.Common.{refl, sym}
use Rattle.std.proofs.lemmas.Bool.{false≢true}
use Rattle.column_core.proofs.varbinview.VarBinViewArray.try_new.Goals as goal

pub returns-in-Some-clause-accepts : goal.returns-in-Some-clause-accepts
returns-in-Some-clause-accepts g c =
    let none = rw (c.deref.ensures.value, c.deref-2.ensures.value) at c.in-Some.ensures.none in
    (λ accepted. absurd (false≢true accepted), λ are. sym (none.1 are))

pub returns-in-Some-clause-refused : goal.returns-in-Some-clause-refused
returns-in-Some-clause-refused g c = rw (c.deref.ensures.value, c.deref-2.ensures.value) at c.in-Some.ensures.fault

pub invariant_of-result : goal.invariant_of-result
invariant_of-result g c = rw (c.deref.ensures.value, c.deref-2.ensures.value, ← c.shared.ensures) at (c.in_default.ensures.none.0 refl)

pub returns-clause-accepts : goal.returns-clause-accepts
returns-clause-accepts g c =
    let are = rw (c.deref.ensures.value, c.deref-2.ensures.value) at (c.in_default.ensures.none.0 refl) in
    (λ _. are, λ _. refl)
