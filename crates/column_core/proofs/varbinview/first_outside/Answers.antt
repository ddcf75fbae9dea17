use Rattle.std.proofs.Common.{length, sym, ◌∙◌, arith}
use Rattle.std.proofs.lemmas.Bool.{false≢true}
use Rattle.column_base.specs.Validity.{form_of}
use Rattle.column_base.proofs.ValidityRows.{has_row}
use Rattle.column_core.specs.declared.varbinview.VarBinKind.TheVariants.{Utf8}
use Rattle.column_core.specs.VarBinForm.{varbin_with}
use Rattle.column_core.specs.VarBinFault.{IsWithinAt}
use Rattle.column_core.proofs.VarBinRows.{valid-where_told, null-where_told, next-row}
use Rattle.column_core.proofs.varbinview.first_outside.Goals as goal
use Rattle.column_core.proofs.varbinview.first_outside.Goals.{else-is_valid-via-then-is_valid+else-not-is_within, else-is_valid-via-else-is_valid}

pub loop-row-init : goal.loop-row-init
loop-row-init g c k below = absurd (omega arith)

pub is_valid-requires : goal.is_valid-requires
is_valid-requires g c = has_row (form_of c.args.validity.now) (length c.args.views.now) c.loop-row.row c.requires c.loop-row-test.true

pub returns-then-not-is_within-clause-found : goal.returns-then-not-is_within-clause-found
returns-then-not-is_within-clause-found g c =
    let valid = valid-where_told (form_of c.args.validity.now) (length c.args.views.now) c.loop-row.row c.is_valid.result c.requires c.loop-row-test.true c.is_valid.ensures c.if-is_valid.true in
    record {
      in_rows = c.loop-row-test.true;
      valid = valid;
      outside = λ within. false≢true (sym c.if-not-is_within.true ∙ c.is_within.ensures.1 within);
      before = c.loop-row.invariant;
    }

pub loop-row-preserved : goal.loop-row-preserved
loop-row-preserved g c =
    let form = varbin_with Utf8 c.args.views.now c.args.buffers.now (form_of c.args.validity.now) in
    elim c.else-is_valid.branch [
      | else-is_valid-via-then-is_valid+else-not-is_within w ↦
          next-row form (IsWithinAt form) c.loop-row.row c.loop-row.invariant (λ _. w.is_within.ensures.0 w.if-not-is_within.false)
      | else-is_valid-via-else-is_valid w ↦
          let null = null-where_told (form_of c.args.validity.now) (length c.args.views.now) c.loop-row.row c.is_valid.result c.requires c.loop-row-test.true c.is_valid.ensures w.if-is_valid.false in
          next-row form (IsWithinAt form) c.loop-row.row c.loop-row.invariant (λ valid. absurd (null valid))
    ]

pub returns-clause-none : goal.returns-clause-none
returns-clause-none g c row within valid = c.loop-row.invariant row (omega (arith, within, c.loop-row-test.false)) valid
