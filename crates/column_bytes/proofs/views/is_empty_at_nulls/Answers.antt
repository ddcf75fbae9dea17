use Rattle.std.proofs.Common.{◌≡◌, ℕ, ◌∙◌, false, get_or, sym, arith}
use Rattle.std.proofs.lemmas.Bool.{false≢true}
use Rattle.std.proofs.lemmas.List.{length-map}
use Rattle.column_base.specs.Validity.{form_of}
use Rattle.column_base.specs.ValidityForm.{flag_at}
use Rattle.column_core.specs.declared.varbinview.View.{View}
use Rattle.column_core.specs.VarBinForm.{zero_view}
use Rattle.column_bytes.specs.Texts.{sizes_in}
use Rattle.column_bytes.proofs.TextNulls.{all_blank, not_blank_at, one_row_more, size_at}
use Rattle.column_bytes.proofs.views.is_empty_at_nulls.Goals as goal
use Rattle.column_bytes.proofs.views.is_empty_at_nulls.Goals.{else-views-row-ne0-via-then-views-row-ne0+else-not-is_valid, else-views-row-ne0-via-else-views-row-ne0}

pub returns-then-not-is_valid-clause-no : goal.returns-then-not-is_valid-clause-no
returns-then-not-is_valid-clause-no g c =
    not_blank_at (form_of c.args.validity.now) _ c.loop-row.row (sizes_in c.args.views.now) c.requires (omega arith) (omega (arith, length-map c.args.views.now (λ (view : View). view.size))) (sym c.is_valid.ensures ∙ c.if-not-is_valid.true) (λ e. c.if-views-row-ne0.true (sym (size_at c.args.views.now c.loop-row.row zero_view (omega arith)) ∙ e))

pub loop-row-preserved : goal.loop-row-preserved
loop-row-preserved g c =
    one_row_more (λ (k : ℕ). flag_at (form_of c.args.validity.now) k ≡ false → get_or (sizes_in c.args.views.now) k 0 ≡ 0) c.loop-row.row c.loop-row.invariant (λ null. elim c.else-views-row-ne0.branch [ else-views-row-ne0-via-then-views-row-ne0+else-not-is_valid w ↦ absurd (false≢true (sym null ∙ sym w.is_valid.ensures ∙ w.if-not-is_valid.false)) | else-views-row-ne0-via-else-views-row-ne0 w ↦ size_at c.args.views.now c.loop-row.row zero_view (omega arith) ∙ w.if-views-row-ne0.false ])

pub returns-clause-yes : goal.returns-clause-yes
returns-clause-yes g c = all_blank (form_of c.args.validity.now) _ (sizes_in c.args.views.now) c.requires (λ k lt null. c.loop-row.invariant k (omega arith) null)
