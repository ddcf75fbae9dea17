use Rattle.std.proofs.Common.{◌∙◌, ap, sym, subst, w32, ℤ, length, Some}
use Rattle.std.proofs.lemmas.Int.{to_z-of_z}
use Rattle.std.specs.Global.{Global}
use Rattle.typed_columns.specs.declared.typed_column.TypedColumn.{TypedColumn}
use Rattle.c_columns.specs.Ending.{EndsOnEnds}
use Rattle.c_columns.specs.Handle.{array_in}
use Rattle.c_columns.proofs.Held.{lent_array}
use Rattle.c_kernels.specs.TypedEnds.{IsEndNeverShortOn}
use Rattle.c_kernels.proofs.TypedEndEndings.{ends_refused, refused_never_short}
use Rattle.c_kernels.proofs.typed_ends.typed_min_max_in_handle.Goals as goal

pub returns-in-Err-clause-ended : goal.returns-in-Err-clause-ended
returns-in-Err-clause-ended c =
    let back = to_z-of_z w32 c.refuse.result (record { sfits = c.refuse.type_inv }) in
    subst (λ (code : ℤ). EndsOnEnds (length c.args.least_text.now) (length c.args.greatest_text.now) (array_in c.args.column.now.column) code c.refuse.new.fields) (sym back)
    (ends_refused (length c.args.least_text.now) (length c.args.greatest_text.now) (array_in c.args.column.now.column) c.deref.result.now.array c.in-Err.why c.refuse.result c.refuse.new.fields (lent_array c.deref.ensures c.in-Some.ensures.array) c.in-Err.ensures.refused c.refuse.ensures.number c.refuse.ensures.fields)

pub returns-in-Err-clause-memory : goal.returns-in-Err-clause-memory
returns-in-Err-clause-memory c =
    let back = to_z-of_z w32 c.refuse.result (record { sfits = c.refuse.type_inv }) in
    let lent = c.in-Some.ensures.found ∙ ap (λ (column : TypedColumn Global). Some column) (sym c.deref.ensures) in
    subst (λ (code : ℤ). IsEndNeverShortOn c.args.session.now c.args.column.now.column code) (sym back)
    (refused_never_short c.args.session.now c.args.column.now.column c.deref.result.now c.ends_of-outcome.result c.in-Err.why c.refuse.result lent c.ends_of-outcome.ensures.memory c.in-Err.is c.refuse.ensures.number)
