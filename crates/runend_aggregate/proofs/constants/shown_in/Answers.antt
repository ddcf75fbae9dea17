use Rattle.std.proofs.Common.{◌≡◌, ◌∙◌, Option, sym, ap}
use Rattle.std.specs.Prelude.{option_map}
use Rattle.std.specs.declared.cmp.Ordering.TheVariants.{Less, Greater}
use Rattle.std.proofs.lemmas.Bool.{false≢true}
use Rattle.column_core.specs.ScalarForm.{ScalarForm}
use Rattle.column_core.specs.ScalarView.{sees}
use Rattle.column_core.specs.Value.{FlatValue, Single, Value}
use Rattle.runend_aggregate.proofs.SameRows.{IsFurthest-seen}
use Rattle.runend_aggregate.proofs.constants.shown_in.Goals as goal

pub returns-in_default : goal.returns-in_default
returns-in_default g c =
    let constant = c.args.array.now in
    let row : Option Value = option_map (λ (v : FlatValue). Single v) constant.value in
    let seen = c.view.result in
    let some : ¬ (constant.count ≡ 0) = λ zero. false≢true (sym c.if-is_empty.false ∙ c.is_empty.ensures.1 zero) in
    let same : sees seen ≡ row = c.view.ensures.value ∙ ap (λ (scalar : ScalarForm). option_map (λ (v : FlatValue). Single v) scalar.value) c.scalar.ensures in
    record {
      none = tt;
      least = IsFurthest-seen Less seen row constant.count (λ e. cc) c.in_default.not-Null some same;
      greatest = IsFurthest-seen Greater seen row constant.count (λ e. cc) c.in_default.not-Null some same;
      of_type = rw c.scalar.ensures at c.view.ensures.of_type;
    }
