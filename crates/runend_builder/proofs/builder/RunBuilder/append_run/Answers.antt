use Rattle.std.proofs.Common.{◌≡◌, ◌∙◌, ◌++◌, Bool, true, false, Option, Some, append-nil, ap, refl, replicate, subst, sym}
use Rattle.std.specs.Prelude.{◌↔◌, IsTrue}
use Rattle.column_core.specs.ScalarForm.{ScalarForm}
use Rattle.runend_builder.specs.Builder.{IsBuilt, scalar_row, shown_rows}
use Rattle.runend_builder.proofs.OneRun.{built_of_run, is_last}
use Rattle.runend_builder.proofs.builder.RunBuilder.append_run.Given as given
use Rattle.runend_builder.proofs.builder.RunBuilder.append_run.Goals as goal

extended : (g : given.Over) (c : goal.After-extend_last g) → IsBuilt c.self.inside.dtype c.extend_last.new.ends.items c.self.inside.values (Some c.args.value.now)
    × (shown_rows c.extend_last.new.ends.items c.self.inside.values.rows ≡ c.args.self.now.rows ++ replicate c.args.count (scalar_row c.args.value.now))
extended g c =
    let own = c.self.inside in
    let same = subst (λ (b : Bool). IsTrue b ↔ (own.last ≡ Some c.args.value.now)) c.if-is_same_value.true c.is_same_value.ensures in
    built_of_run c.args.self.now own.dtype own.ends.items own.values own.values own.last c.args.value.now c.args.count c.extend_last.new.ends.items true c.self.view_is c.self.invariant
    c.requires.some c.requires.small c.requires.typed same c.extend_last.ensures (sym (append-nil own.values.rows)) refl

pub invariant_of-self : goal.invariant_of-self
invariant_of-self g c =
    let own = c.self.inside in
    let last : own.last ≡ Some c.args.value.now = c.is_same_value.ensures.0 c.if-is_same_value.true in
    subst (λ (l : Option ScalarForm). IsBuilt own.dtype c.extend_last.new.ends.items own.values l) (sym last) (extended g c).0

pub returns-then-is_same_value-clause-rows : goal.returns-then-is_same_value-clause-rows
returns-then-is_same_value-clause-rows g c = (extended g c).1

pub returns-in_err-last-clause-in_place : goal.returns-in_err-last-clause-in_place
returns-in_err-last-clause-in_place g c = λ here.
    let own = c.self.inside in
    let one = is_last c.args.self.now own.dtype own.ends.items own.values own.last c.args.value.now c.is_same_value.result c.self.view_is c.self.invariant c.requires.typed c.is_same_value.ensures here in
    let other = c.if-is_same_value.false in
    cc

pub returns-in-Err-clause-in_place : goal.returns-in-Err-clause-in_place
returns-in-Err-clause-in_place g c = λ here.
    let own = c.self.inside in
    let one = is_last c.args.self.now own.dtype own.ends.items own.values own.last c.args.value.now c.is_same_value.result c.self.view_is c.self.invariant c.requires.typed c.is_same_value.ensures here in
    let other = c.if-is_same_value.false in
    cc

pushed : (g : given.Over) (c : goal.After-drop-2 g) → IsBuilt c.self.inside.dtype c.push_run.new.ends.items c.push_run.new.values (Some c.args.value.now)
    × (shown_rows c.push_run.new.ends.items c.push_run.new.values.rows ≡ c.args.self.now.rows ++ replicate c.args.count (scalar_row c.args.value.now))
pushed g c =
    let own = c.self.inside in
    let same = subst (λ (b : Bool). IsTrue b ↔ (own.last ≡ Some c.args.value.now)) c.if-is_same_value.false c.is_same_value.ensures in
    built_of_run c.args.self.now own.dtype own.ends.items own.values c.push_run.new.values own.last c.args.value.now c.args.count c.push_run.new.ends.items false c.self.view_is c.self.invariant
    c.requires.some c.requires.small c.requires.typed same c.in_default.ensures.ends c.in_default.ensures.values c.push_run.ensures.dtype

pub invariant_of-self-2 : goal.invariant_of-self-2
invariant_of-self-2 g c =
    let own = c.self.inside in
    let last : c.replace-before.new.dest ≡ Some c.args.value.now = c.replace-before.ensures.after ∙ ap Some c.in_ok-last.ensures.same in
    subst (λ (l : Option ScalarForm). IsBuilt own.dtype c.push_run.new.ends.items c.push_run.new.values l) (sym last) (pushed g c).0

pub returns-clause-rows : goal.returns-clause-rows
returns-clause-rows g c = (pushed g c).1
