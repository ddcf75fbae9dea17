use Rattle.std.proofs.Common.{◌≡◌, ℤ, List, sym, ap, subst, ◌∙◌}
use Rattle.std.specs.Prelude.{IfOk}
use Rattle.std.proofs.lemmas.List.{map-id}
use Rattle.column_base.specs.Numbers.{numbers, ptype_of}
use Rattle.column_base.specs.declared.dtype.PType.{PType}
use Rattle.column_base.proofs.values.PrimitiveValues.try_clone.Goals as goal

pub returns-in-U8-clause-only : goal.returns-in-U8-clause-only
returns-in-U8-clause-only g c = c.clone_of.ensures.only

pub returns-in-U8-clause-shows : goal.returns-in-U8-clause-shows
returns-in-U8-clause-shows g c =
    let shown = sym (ap numbers c.in-U8.is) in
    subst (λ (all : List ℤ). IfOk c.clone_of.result (λ values. numbers values ≡ all)) shown c.clone_of.ensures.shows

pub returns-in-U8-clause-typed : goal.returns-in-U8-clause-typed
returns-in-U8-clause-typed g c = subst (λ (ptype : PType). IfOk c.clone_of.result (λ values. ptype_of values ≡ ptype)) (sym (ap ptype_of c.in-U8.is)) c.clone_of.ensures.typed

pub returns-in-U16-clause-only : goal.returns-in-U16-clause-only
returns-in-U16-clause-only g c = c.clone_of-in-U16.ensures.only

pub returns-in-U16-clause-shows : goal.returns-in-U16-clause-shows
returns-in-U16-clause-shows g c =
    let shown = sym (ap numbers c.in-U16.is) in
    subst (λ (all : List ℤ). IfOk c.clone_of-in-U16.result (λ values. numbers values ≡ all)) shown c.clone_of-in-U16.ensures.shows

pub returns-in-U16-clause-typed : goal.returns-in-U16-clause-typed
returns-in-U16-clause-typed g c = subst (λ (ptype : PType). IfOk c.clone_of-in-U16.result (λ values. ptype_of values ≡ ptype)) (sym (ap ptype_of c.in-U16.is)) c.clone_of-in-U16.ensures.typed

pub returns-in-U32-clause-only : goal.returns-in-U32-clause-only
returns-in-U32-clause-only g c = c.clone_of-in-U32.ensures.only

pub returns-in-U32-clause-shows : goal.returns-in-U32-clause-shows
returns-in-U32-clause-shows g c =
    let shown = sym (ap numbers c.in-U32.is) in
    subst (λ (all : List ℤ). IfOk c.clone_of-in-U32.result (λ values. numbers values ≡ all)) shown c.clone_of-in-U32.ensures.shows

pub returns-in-U32-clause-typed : goal.returns-in-U32-clause-typed
returns-in-U32-clause-typed g c = subst (λ (ptype : PType). IfOk c.clone_of-in-U32.result (λ values. ptype_of values ≡ ptype)) (sym (ap ptype_of c.in-U32.is)) c.clone_of-in-U32.ensures.typed

pub returns-in-U64-clause-only : goal.returns-in-U64-clause-only
returns-in-U64-clause-only g c = c.clone_of-in-U64.ensures.only

pub returns-in-U64-clause-shows : goal.returns-in-U64-clause-shows
returns-in-U64-clause-shows g c =
    let shown = sym (ap numbers c.in-U64.is) in
    subst (λ (all : List ℤ). IfOk c.clone_of-in-U64.result (λ values. numbers values ≡ all)) shown c.clone_of-in-U64.ensures.shows

pub returns-in-U64-clause-typed : goal.returns-in-U64-clause-typed
returns-in-U64-clause-typed g c = subst (λ (ptype : PType). IfOk c.clone_of-in-U64.result (λ values. ptype_of values ≡ ptype)) (sym (ap ptype_of c.in-U64.is)) c.clone_of-in-U64.ensures.typed

pub returns-in-I8-clause-only : goal.returns-in-I8-clause-only
returns-in-I8-clause-only g c = c.clone_of-in-I8.ensures.only

pub returns-in-I8-clause-shows : goal.returns-in-I8-clause-shows
returns-in-I8-clause-shows g c =
    let shown = map-id c.in-I8.items.items ∙ sym (ap numbers c.in-I8.is) in
    subst (λ (all : List ℤ). IfOk c.clone_of-in-I8.result (λ values. numbers values ≡ all)) shown c.clone_of-in-I8.ensures.shows

pub returns-in-I8-clause-typed : goal.returns-in-I8-clause-typed
returns-in-I8-clause-typed g c = subst (λ (ptype : PType). IfOk c.clone_of-in-I8.result (λ values. ptype_of values ≡ ptype)) (sym (ap ptype_of c.in-I8.is)) c.clone_of-in-I8.ensures.typed

pub returns-in-I16-clause-only : goal.returns-in-I16-clause-only
returns-in-I16-clause-only g c = c.clone_of-in-I16.ensures.only

pub returns-in-I16-clause-shows : goal.returns-in-I16-clause-shows
returns-in-I16-clause-shows g c =
    let shown = map-id c.in-I16.items.items ∙ sym (ap numbers c.in-I16.is) in
    subst (λ (all : List ℤ). IfOk c.clone_of-in-I16.result (λ values. numbers values ≡ all)) shown c.clone_of-in-I16.ensures.shows

pub returns-in-I16-clause-typed : goal.returns-in-I16-clause-typed
returns-in-I16-clause-typed g c = subst (λ (ptype : PType). IfOk c.clone_of-in-I16.result (λ values. ptype_of values ≡ ptype)) (sym (ap ptype_of c.in-I16.is)) c.clone_of-in-I16.ensures.typed

pub returns-in-I32-clause-only : goal.returns-in-I32-clause-only
returns-in-I32-clause-only g c = c.clone_of-in-I32.ensures.only

pub returns-in-I32-clause-shows : goal.returns-in-I32-clause-shows
returns-in-I32-clause-shows g c =
    let shown = map-id c.in-I32.items.items ∙ sym (ap numbers c.in-I32.is) in
    subst (λ (all : List ℤ). IfOk c.clone_of-in-I32.result (λ values. numbers values ≡ all)) shown c.clone_of-in-I32.ensures.shows

pub returns-in-I32-clause-typed : goal.returns-in-I32-clause-typed
returns-in-I32-clause-typed g c = subst (λ (ptype : PType). IfOk c.clone_of-in-I32.result (λ values. ptype_of values ≡ ptype)) (sym (ap ptype_of c.in-I32.is)) c.clone_of-in-I32.ensures.typed

pub returns-in-I64-clause-only : goal.returns-in-I64-clause-only
returns-in-I64-clause-only g c = c.clone_of-in-I64.ensures.only

pub returns-in-I64-clause-shows : goal.returns-in-I64-clause-shows
returns-in-I64-clause-shows g c =
    let shown = map-id c.in-I64.items.items ∙ sym (ap numbers c.in-I64.is) in
    subst (λ (all : List ℤ). IfOk c.clone_of-in-I64.result (λ values. numbers values ≡ all)) shown c.clone_of-in-I64.ensures.shows

pub returns-in-I64-clause-typed : goal.returns-in-I64-clause-typed
returns-in-I64-clause-typed g c = subst (λ (ptype : PType). IfOk c.clone_of-in-I64.result (λ values. ptype_of values ≡ ptype)) (sym (ap ptype_of c.in-I64.is)) c.clone_of-in-I64.ensures.typed
