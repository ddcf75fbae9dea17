use Rattle.std.proofs.Common.{◌∙◌, ap, length, map, refl, sym, subst}
use Rattle.std.specs.Prelude.{count_by, unsigned_abs}
use Rattle.column_base.specs.Types.{IsUnsigned}
use Rattle.column_base.specs.ValidityForm.{nullability_in}
use Rattle.runend_array.specs.Array.{column_of}
use Rattle.runend_array.specs.Column.{IsPlainEnds, column_dtype}
use Rattle.runend_windows.specs.Ends.{ends_of}
use Rattle.runend_select.specs.KeptRuns.{AreKept}
use Rattle.runend_select.proofs.KeptColumn.{filled-kept, parts-kept, positions-shown, rows-kept, shown-places, unsigned_of_ends}
use Rattle.runend_column.proofs.PassedOn.{no_value, only_error}
use Rattle.runend_select.proofs.filtered_runs.kept_parts.Goals as goal

pub values_at-values-requires : goal.values_at-values-requires
values_at-values-requires g c =
    let array = c.args.array.now in
    let found = c.in_ok-kept_ends.ensures.kept in
    let numbers = ap (map unsigned_abs) c.values-ends.ensures.shows ∙ rw c.in-Primitive.is at c.ends.ensures.numbers in
    record {
      within = positions-shown array (column_of c.values.result.now) found.kept c.as_slice.result.now c.values.ensures.form c.ends.ensures.valid (found.are.paired ∙ ap length numbers) (c.as_slice.ensures.value ∙ found.placed);
    }

pub returns-in-Ok-clause-parts : goal.returns-in-Ok-clause-parts
returns-in-Ok-clause-parts g c =
    let array = c.args.array.now in
    let bits = (g.S.Ranked.bits c.args.selected.now) in
    let found = c.in_ok-kept_ends.ensures.kept in
    let kept = found.kept in
    let kept_ends = c.in_ok-kept_ends.kept_ends in
    let numbers = ap (map unsigned_abs) c.values-ends.ensures.shows ∙ rw c.in-Primitive.is at c.ends.ensures.numbers in
    let are : AreKept array.ends array.offset bits kept (ends_of kept_ends) = rw (numbers, c.offset.ensures) at found.are in
    let rows = c.in-Ok.ensures.made.rows ∙ shown-places array (column_of c.values.result.now) kept c.as_slice.result.now c.values.ensures.form c.ends.ensures.valid are.paired (c.as_slice.ensures.value ∙ found.placed) in
    let plain : IsPlainEnds (column_of c.ends.result.now) = c.ends.ensures.plain in
    let unsigned : IsUnsigned kept_ends.ptype = subst IsUnsigned (sym (c.in_ok-kept_ends.ensures.typed ∙ c.values-ends.ensures.typed)) (unsigned_of_ends c.in-Primitive.plain.ptype (nullability_in c.in-Primitive.plain.validity) (rw c.in-Primitive.is at plain)) in
    parts-kept array bits kept kept_ends (column_of c.in-Ok.values) (count_by (λ bit. bit) bits) c.ends.ensures.valid c.requires.masked are rows refl c.in_ok-kept_ends.ensures.required unsigned

pub returns-in-Ok-clause-rows : goal.returns-in-Ok-clause-rows
returns-in-Ok-clause-rows g c =
    let array = c.args.array.now in
    let bits = (g.S.Ranked.bits c.args.selected.now) in
    let found = c.in_ok-kept_ends.ensures.kept in
    let kept = found.kept in
    let kept_ends = c.in_ok-kept_ends.kept_ends in
    let numbers = ap (map unsigned_abs) c.values-ends.ensures.shows ∙ rw c.in-Primitive.is at c.ends.ensures.numbers in
    let are : AreKept array.ends array.offset bits kept (ends_of kept_ends) = rw (numbers, c.offset.ensures) at found.are in
    let rows = c.in-Ok.ensures.made.rows ∙ shown-places array (column_of c.values.result.now) kept c.as_slice.result.now c.values.ensures.form c.ends.ensures.valid are.paired (c.as_slice.ensures.value ∙ found.placed) in
    rows-kept array bits kept kept_ends (column_of c.in-Ok.values) (count_by (λ bit. bit) bits) c.ends.ensures.valid c.requires.masked are rows refl

pub returns-in-Ok-clause-filled : goal.returns-in-Ok-clause-filled
returns-in-Ok-clause-filled g c =
    let array = c.args.array.now in
    let bits = (g.S.Ranked.bits c.args.selected.now) in
    let found = c.in_ok-kept_ends.ensures.kept in
    let kept = found.kept in
    let kept_ends = c.in_ok-kept_ends.kept_ends in
    let numbers = ap (map unsigned_abs) c.values-ends.ensures.shows ∙ rw c.in-Primitive.is at c.ends.ensures.numbers in
    let are : AreKept array.ends array.offset bits kept (ends_of kept_ends) = rw (numbers, c.offset.ensures) at found.are in
    let rows = c.in-Ok.ensures.made.rows ∙ shown-places array (column_of c.values.result.now) kept c.as_slice.result.now c.values.ensures.form c.ends.ensures.valid are.paired (c.as_slice.ensures.value ∙ found.placed) in
    filled-kept array bits kept kept_ends (column_of c.in-Ok.values) (count_by (λ bit. bit) bits) c.ends.ensures.valid c.requires.masked are rows refl

pub returns-in-Ok-clause-dtype : goal.returns-in-Ok-clause-dtype
returns-in-Ok-clause-dtype g c =
    c.in-Ok.ensures.made.dtype ∙ ap column_dtype c.values.ensures.form

pub returns-in-Ok-clause-form : goal.returns-in-Ok-clause-form
returns-in-Ok-clause-form g c =
    let array = c.args.array.now in
    let bits = (g.S.Ranked.bits c.args.selected.now) in
    let found = c.in_ok-kept_ends.ensures.kept in
    let kept = found.kept in
    let kept_ends = c.in_ok-kept_ends.kept_ends in
    let numbers = ap (map unsigned_abs) c.values-ends.ensures.shows ∙ rw c.in-Primitive.is at c.ends.ensures.numbers in
    let are : AreKept array.ends array.offset bits kept (ends_of kept_ends) = rw (numbers, c.offset.ensures) at found.are in
    let rows = c.in-Ok.ensures.made.rows ∙ shown-places array (column_of c.values.result.now) kept c.as_slice.result.now c.values.ensures.form c.ends.ensures.valid are.paired (c.as_slice.ensures.value ∙ found.placed) in
    record {
      kept = kept;
      ends = are;
      values = rows;
      ends_type = c.in_ok-kept_ends.ensures.typed ∙ c.values-ends.ensures.typed ∙ rw c.in-Primitive.is at c.ends.ensures.ptype;
      flat = c.in-Ok.ensures.made.form;
      window = (refl, refl);
    }

pub returns-in_err-kept_ends-clause-only : goal.returns-in_err-kept_ends-clause-only
returns-in_err-kept_ends-clause-only g c =
    only_error c.from_residual.result c.in_err-kept_ends.field-0.0 _ c.from_residual.ensures.1 c.in_err-kept_ends.ensures.only

pub returns-in_err-kept_ends-clause-parts : goal.returns-in_err-kept_ends-clause-parts
returns-in_err-kept_ends-clause-parts g c =
    no_value _ c.from_residual.result c.from_residual.ensures.0

pub returns-in_err-kept_ends-clause-rows : goal.returns-in_err-kept_ends-clause-rows
returns-in_err-kept_ends-clause-rows g c =
    no_value _ c.from_residual.result c.from_residual.ensures.0

pub returns-in_err-kept_ends-clause-dtype : goal.returns-in_err-kept_ends-clause-dtype
returns-in_err-kept_ends-clause-dtype g c =
    no_value _ c.from_residual.result c.from_residual.ensures.0

pub returns-in_err-kept_ends-clause-form : goal.returns-in_err-kept_ends-clause-form
returns-in_err-kept_ends-clause-form g c =
    no_value _ c.from_residual.result c.from_residual.ensures.0

pub returns-in_err-kept_ends-clause-filled : goal.returns-in_err-kept_ends-clause-filled
returns-in_err-kept_ends-clause-filled g c =
    no_value _ c.from_residual.result c.from_residual.ensures.0

pub returns-in-Err-clause-parts : goal.returns-in-Err-clause-parts
returns-in-Err-clause-parts g c =
    tt

pub returns-in-Err-clause-rows : goal.returns-in-Err-clause-rows
returns-in-Err-clause-rows g c =
    tt

pub returns-in-Err-clause-dtype : goal.returns-in-Err-clause-dtype
returns-in-Err-clause-dtype g c =
    tt

pub returns-in-Err-clause-form : goal.returns-in-Err-clause-form
returns-in-Err-clause-form g c =
    tt

pub returns-in-Err-clause-filled : goal.returns-in-Err-clause-filled
returns-in-Err-clause-filled g c =
    tt
