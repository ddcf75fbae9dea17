use Rattle.std.proofs.Common.{◌∙◌, ℕ, List, Some, ap, sym, subst}
use Rattle.column_base.specs.declared.dtype.DType.{DType}
use Rattle.logical_types.specs.Formats.{Names}
use Rattle.logical_types.specs.declared.types.LogicalType.{LogicalType}
use Rattle.typed_columns.specs.Typed.{typed_of}
use Rattle.typed_kernels.specs.Served.{meaning, IsServed}
use Rattle.typed_kernels.specs.declared.meanings.Served.{Served}
use Rattle.typed_kernels.proofs.ServedTypes.{exactly_as, exactly_plain, served_as, served_plainly}
use Rattle.typed_kernels.proofs.meanings.Served.of.Goals as goal

pub returns-in-Some-clause-served : goal.returns-in-Some-clause-served
returns-in-Some-clause-served g c =
    let column = typed_of c.args.column.now in
    let a = c.in-Some.annotation in
    let names = subst (λ (word : List ℕ). Names word a.logical a.zone.now) c.as_str.ensures.value c.in-Some.ensures.found in
    c.meaning.ensures ∙ ap (λ (t : LogicalType). meaning (Some t) c.dtype.result) c.logical.ensures ∙ ap (λ (d : DType). meaning (Some a.logical) d) c.dtype.ensures ∙ sym (served_as column a.logical a.zone.now names)

pub returns-in-Some-clause-exactly : goal.returns-in-Some-clause-exactly
returns-in-Some-clause-exactly g c =
    let column = typed_of c.args.column.now in
    let a = c.in-Some.annotation in
    let names = subst (λ (word : List ℕ). Names word a.logical a.zone.now) c.as_str.ensures.value c.in-Some.ensures.found in
    let is = c.meaning.ensures ∙ ap (λ (t : LogicalType). meaning (Some t) c.dtype.result) c.logical.ensures ∙ ap (λ (d : DType). meaning (Some a.logical) d) c.dtype.ensures in
    subst (λ (s : Served). IsServed column s) (sym is) (exactly_as column a.logical a.zone.now names)

pub returns-in-None-clause-served : goal.returns-in-None-clause-served
returns-in-None-clause-served g c =
    let none = subst (λ (word : List ℕ). (t : LogicalType) (zone : List ℕ) → Names word t zone → ⊥) c.as_str.ensures.value c.in-None.ensures.none in
    sym (served_plainly (typed_of c.args.column.now) none)

pub returns-in-None-clause-exactly : goal.returns-in-None-clause-exactly
returns-in-None-clause-exactly g c =
    let none = subst (λ (word : List ℕ). (t : LogicalType) (zone : List ℕ) → Names word t zone → ⊥) c.as_str.ensures.value c.in-None.ensures.none in
    exactly_plain (typed_of c.args.column.now) none
