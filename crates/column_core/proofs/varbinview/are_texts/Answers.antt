use Rattle.std.proofs.Common.{length, sym, subst, ◌∙◌, arith}
use Rattle.std.specs.Str.{IsUtf8}
use Rattle.std.proofs.lemmas.Bool.{false≢true}
use Rattle.column_base.specs.Validity.{form_of}
use Rattle.column_base.proofs.ValidityRows.{has_row}
use Rattle.column_core.specs.declared.varbinview.VarBinKind.TheVariants.{Utf8}
use Rattle.column_core.specs.VarBinForm.{varbin_with}
use Rattle.column_core.specs.VarBinFault.{IsOfKindAt}
use Rattle.column_core.proofs.VarBinRows.{valid-where_told, null-where_told, next-row}
use Rattle.column_core.proofs.varbinview.are_texts.Goals as goal
use Rattle.column_core.proofs.varbinview.are_texts.Goals.{else-is_valid-via-then-is_valid+else-not-is_text, else-is_valid-via-else-is_valid}

pub loop-row-init : goal.loop-row-init
loop-row-init g c k below = absurd (omega arith)

pub is_valid-requires : goal.is_valid-requires
is_valid-requires g c = has_row (form_of c.args.validity.now) (length c.args.views.now) c.loop-row.row c.requires.counted c.loop-row-test.true

pub cut-requires : goal.cut-requires
cut-requires g c =
    let valid = valid-where_told (form_of c.args.validity.now) (length c.args.views.now) c.loop-row.row c.is_valid.result c.requires.counted c.loop-row-test.true c.is_valid.ensures c.if-is_valid.true in
    c.requires.within c.loop-row.row c.loop-row-test.true valid

pub returns-then-not-is_text-clause-some : goal.returns-then-not-is_text-clause-some
returns-then-not-is_text-clause-some g c =
    let valid = valid-where_told (form_of c.args.validity.now) (length c.args.views.now) c.loop-row.row c.is_valid.result c.requires.counted c.loop-row-test.true c.is_valid.ensures c.if-is_valid.true in (
      c.loop-row.row,
      record {
        in_rows = c.loop-row-test.true;
        valid = valid;
        otherwise = λ text. false≢true (sym c.if-not-is_text.true ∙ c.is_text.ensures.1 (subst IsUtf8 (sym c.cut.ensures) text));
      },
    )

pub loop-row-preserved : goal.loop-row-preserved
loop-row-preserved g c =
    let form = varbin_with Utf8 c.args.views.now c.args.buffers.now (form_of c.args.validity.now) in
    elim c.else-is_valid.branch [
      | else-is_valid-via-then-is_valid+else-not-is_text w ↦
          next-row form (IsOfKindAt form) c.loop-row.row c.loop-row.invariant (λ _. subst IsUtf8 w.cut.ensures (w.is_text.ensures.0 w.if-not-is_text.false))
      | else-is_valid-via-else-is_valid w ↦
          let null = null-where_told (form_of c.args.validity.now) (length c.args.views.now) c.loop-row.row c.is_valid.result c.requires.counted c.loop-row-test.true c.is_valid.ensures w.if-is_valid.false in
          next-row form (IsOfKindAt form) c.loop-row.row c.loop-row.invariant (λ valid. absurd (null valid))
    ]

pub returns-clause-all : goal.returns-clause-all
returns-clause-all g c row within valid = c.loop-row.invariant row (omega (arith, within, c.loop-row-test.false)) valid
