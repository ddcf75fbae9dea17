use Rattle.std.proofs.Common.{◌∙◌, None, refl, subst, sym}
use Rattle.std.specs.List.{AllZip}
use Rattle.std.specs.Prelude.{IfOk}
use Rattle.exact_comparisons.specs.ExactRows.{number_fault, IsExactTruth}
use Rattle.runend_array.specs.Array.{dtype_of, rows}
use Rattle.tables.specs.TableFaults.{IsRefusedFirstBy}
use Rattle.typed_columns.specs.Typed.{typed_of}
use Rattle.typed_kernels.specs.Served.{IsServed}
use Rattle.typed_kernels.specs.declared.meanings.Served.{Served}
use Rattle.exact_comparisons.proofs.Filtering.{only_memory}
use Rattle.exact_comparisons.proofs.comparisons.compare_number.Goals as goal

pub returns-in-Stored-clause-refused : goal.returns-in-Stored-clause-refused
returns-in-Stored-clause-refused g c =
    subst (λ (s : Served). IsRefusedFirstBy (number_fault s (dtype_of c.args.column.now.array)) c.compare_stored.result) (sym c.in-Stored.is ∙ c.of.ensures.served) c.compare_stored.ensures.refused

pub returns-in-Stored-clause-truths : goal.returns-in-Stored-clause-truths
returns-in-Stored-clause-truths g c =
    subst (λ (s : Served). IfOk c.compare_stored.result (λ truths. AllZip (IsExactTruth s (dtype_of c.args.column.now.array) c.args.operator c.args.number) (rows c.args.column.now.array) (rows truths)))
    (sym c.in-Stored.is ∙ c.of.ensures.served) c.compare_stored.ensures.truths

pub compare_floats-requires : goal.compare_floats-requires
compare_floats-requires g c =
    let is = subst (λ (s : Served). IsServed (typed_of c.args.column.now) s) c.in-Floats.is c.of.ensures.exactly in
    record { floats = is.stored }

pub returns-in-Floats-clause-refused : goal.returns-in-Floats-clause-refused
returns-in-Floats-clause-refused g c =
    subst (λ (s : Served). IsRefusedFirstBy (number_fault s (dtype_of c.args.column.now.array)) c.compare_floats.result) (sym c.in-Floats.is ∙ c.of.ensures.served)
    (only_memory None c.compare_floats.result refl c.compare_floats.ensures.only)

pub returns-in-Floats-clause-truths : goal.returns-in-Floats-clause-truths
returns-in-Floats-clause-truths g c =
    subst (λ (s : Served). IfOk c.compare_floats.result (λ truths. AllZip (IsExactTruth s (dtype_of c.args.column.now.array) c.args.operator c.args.number) (rows c.args.column.now.array) (rows truths)))
    (sym c.in-Floats.is ∙ c.of.ensures.served) c.compare_floats.ensures.truths
