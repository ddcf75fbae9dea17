use Rattle.std.proofs.Common.{◌≡◌, map, ap, sym, refl, ◌∙◌, ℕ, arith, subst}
use Rattle.std.specs.Prelude.{unsigned_abs, IfOk, IfErr}
use Rattle.column_fields.specs.Lengths.{lengths_bytes}
use Rattle.column_fields.specs.Sizes.{IsPast}
use Rattle.column_bytes.specs.Bytes.{column_bytes}
use Rattle.column_bytes.proofs.MessageSizes.{runs_sized}
use Rattle.column_bytes.proofs.RunLaws.{stored_fit}
use Rattle.column_bytes.proofs.runs.runs_size.Goals as goal

pub returns-in-Ok-clause-size : goal.returns-in-Ok-clause-size
returns-in-Ok-clause-size g c =
    let r = c.args.runs.now in
    let ends-are : map unsigned_abs c.in-Primitive.ends.numbers ≡ r.ends = rw c.in-Primitive.is at c.ends.ensures.numbers in
    let typed : c.in-Primitive.ends.ptype ≡ r.ends_type = rw c.in-Primitive.is at c.ends.ensures.ptype in
    let lengths = ap (λ xs. lengths_bytes 0 (map unsigned_abs xs)) c.values.ensures.shows ∙ ap (lengths_bytes 0) ends-are in
    let long = runs_sized r c.ptype.result _ _ _ _ _ c.in-Ok.fields _ (c.ptype.ensures ∙ typed) c.header_of.ensures.kind c.header_of.ensures.form c.header_of.ensures.rows c.offset.ensures lengths c.header_size-header.ensures.size (c.in-Ok.ensures.size (column_bytes r.values) (sym c.requires)) in
    subst (λ (n : ℕ). IfOk c.size_of_total.result (λ size. size ≡ n)) long c.size_of_total.ensures.size

pub returns-in-Ok-clause-past : goal.returns-in-Ok-clause-past
returns-in-Ok-clause-past g c =
    let r = c.args.runs.now in
    let ends-are : map unsigned_abs c.in-Primitive.ends.numbers ≡ r.ends = rw c.in-Primitive.is at c.ends.ensures.numbers in
    let typed : c.in-Primitive.ends.ptype ≡ r.ends_type = rw c.in-Primitive.is at c.ends.ensures.ptype in
    let lengths = ap (λ xs. lengths_bytes 0 (map unsigned_abs xs)) c.values.ensures.shows ∙ ap (lengths_bytes 0) ends-are in
    let long = runs_sized r c.ptype.result _ _ _ _ _ c.in-Ok.fields _ (c.ptype.ensures ∙ typed) c.header_of.ensures.kind c.header_of.ensures.form c.header_of.ensures.rows c.offset.ensures lengths c.header_size-header.ensures.size (c.in-Ok.ensures.size (column_bytes r.values) (sym c.requires)) in
    subst (λ (n : ℕ). IfErr c.size_of_total.result (λ error. IsPast n error)) long c.size_of_total.ensures.past

pub returns-in-Err-clause-past : goal.returns-in-Err-clause-past
returns-in-Err-clause-past g c =
    let r = c.args.runs.now in
    let ends-are : map unsigned_abs c.in-Primitive.ends.numbers ≡ r.ends = rw c.in-Primitive.is at c.ends.ensures.numbers in
    let typed : c.in-Primitive.ends.ptype ≡ r.ends_type = rw c.in-Primitive.is at c.ends.ensures.ptype in
    let lengths = ap (λ xs. lengths_bytes 0 (map unsigned_abs xs)) c.values.ensures.shows ∙ ap (lengths_bytes 0) ends-are in
    let error = c.in-Err.ensures.past (column_bytes r.values) (sym c.requires) in
    let long = runs_sized r c.ptype.result _ _ _ _ _ _ _ (c.ptype.ensures ∙ typed) c.header_of.ensures.kind c.header_of.ensures.form c.header_of.ensures.rows c.offset.ensures lengths c.header_size-header.ensures.size refl in
    record { told = error.told; past = omega (arith, error.past, long) }

pub returns-in-Ok-clause-fit : goal.returns-in-Ok-clause-fit
returns-in-Ok-clause-fit g c =
    let ends-are : map unsigned_abs c.in-Primitive.ends.numbers ≡ c.args.runs.now.ends = rw c.in-Primitive.is at c.ends.ensures.numbers in
    let typed : c.in-Primitive.ends.ptype ≡ c.args.runs.now.ends_type = rw c.in-Primitive.is at c.ends.ensures.ptype in
    stored_fit _ _ c.args.runs.now.ends_type _ _ c.args.runs.now.ends c.values.ensures.typed typed c.values.ensures.shows ends-are c.run_fields_size.ensures.fit

pub returns-in-Err-clause-fit : goal.returns-in-Err-clause-fit
returns-in-Err-clause-fit g c =
    let ends-are : map unsigned_abs c.in-Primitive.ends.numbers ≡ c.args.runs.now.ends = rw c.in-Primitive.is at c.ends.ensures.numbers in
    let typed : c.in-Primitive.ends.ptype ≡ c.args.runs.now.ends_type = rw c.in-Primitive.is at c.ends.ensures.ptype in
    stored_fit _ _ c.args.runs.now.ends_type _ _ c.args.runs.now.ends c.values.ensures.typed typed c.values.ensures.shows ends-are c.run_fields_size.ensures.fit
