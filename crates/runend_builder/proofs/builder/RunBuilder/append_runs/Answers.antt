use Rattle.std.proofs.Common.{◌≡◌, ◌∙◌, ◌-◌, ℕ, Option, length, sym, ap, subst}
use Rattle.std.specs.Prelude.{option_map, slice_get}
use Rattle.std.proofs.lemmas.List.{length-map}
use Rattle.column_base.specs.declared.dtype.DType.{DType}
use Rattle.column_core.specs.FlatColumn.{leaf_of}
use Rattle.column_core.specs.FlatView.{leaf_in}
use Rattle.column_core.specs.Leaf.{Leaf, leaf_dtype, leaf_rows, single_rows}
use Rattle.column_core.specs.ScalarForm.{ScalarForm}
use Rattle.column_core.specs.Value.{FlatValue, Single}
use Rattle.runend_windows.specs.Cover.{IsTightCover}
use Rattle.runend_windows.specs.Ends.{ends_of}
use Rattle.runend_builder.specs.Builder.{Built, IsBuilt, IsLastOf, part_rows}
use Rattle.runend_builder.proofs.Builds.{built_of_joined, ends_within}
use Rattle.runend_builder.proofs.builder.RunBuilder.append_runs.Goals as goal

pub push_runs-requires-clause-small : goal.push_runs-requires-clause-small
push_runs-requires-clause-small g c =
    let own = c.self.inside in
    let leaf = leaf_of c.args.values.now in
    ends_within c.args.self.now (part_rows c.args.ends.now leaf) own.dtype own.ends.items own.values own.last (ends_of c.args.ends.now) (single_rows leaf) c.self.view_is c.self.invariant
    c.requires.encoded.cover c.requires.small

pub invariant_of-self : goal.invariant_of-self
invariant_of-self g c =
    let own = c.self.inside in
    let leaf = leaf_in c.view-view.result in
    let shown = single_rows leaf in
    let typed : leaf_dtype leaf ≡ own.dtype = ap leaf_dtype c.view-view.ensures ∙ c.requires.encoded.typed ∙ sym (ap (λ (b : Built). b.dtype) c.self.view_is) in
    let part = part_rows c.args.ends.now (leaf_of c.args.values.now) in
    let cover : IsTightCover part (ends_of c.args.ends.now) shown =
    subst (λ (l : Leaf). IsTightCover part (ends_of c.args.ends.now) (single_rows l)) (sym c.view-view.ensures) c.requires.encoded.cover in
    let seam = c.in_ok-one.ensures.seam own.values.rows (subst (λ (t : DType). IsLastOf t own.values.rows own.last) (sym typed) c.self.invariant.ended) in
    let ended = ap (λ (n : ℕ). slice_get shown (n - 1)) (length-map (leaf_rows leaf) (option_map (λ (v : FlatValue). Single v)) ∙ sym c.len.ensures) ∙ c.in_ok-last.ensures.row in
    let built = built_of_joined c.args.self.now part own.dtype own.ends.items own.values c.push_runs.new.values own.last c.in_ok-last.last (ends_of c.args.ends.now) shown c.push_runs.new.ends.items c.in_ok-one.one
    c.self.view_is c.self.invariant cover c.requires.small seam c.in-Ok.ensures.ends c.in-Ok.ensures.values c.in-Ok.ensures.dtype (c.in_ok-last.ensures.dtype ∙ typed) ended in
    subst (λ (last : Option ScalarForm). IsBuilt own.dtype c.push_runs.new.ends.items c.push_runs.new.values last) (sym c.replace.ensures.after) built.0

pub returns-in-Ok-clause-rows : goal.returns-in-Ok-clause-rows
returns-in-Ok-clause-rows g c =
    let own = c.self.inside in
    let leaf = leaf_in c.view-view.result in
    let shown = single_rows leaf in
    let typed : leaf_dtype leaf ≡ own.dtype = ap leaf_dtype c.view-view.ensures ∙ c.requires.encoded.typed ∙ sym (ap (λ (b : Built). b.dtype) c.self.view_is) in
    let part = part_rows c.args.ends.now (leaf_of c.args.values.now) in
    let cover : IsTightCover part (ends_of c.args.ends.now) shown =
    subst (λ (l : Leaf). IsTightCover part (ends_of c.args.ends.now) (single_rows l)) (sym c.view-view.ensures) c.requires.encoded.cover in
    let seam = c.in_ok-one.ensures.seam own.values.rows (subst (λ (t : DType). IsLastOf t own.values.rows own.last) (sym typed) c.self.invariant.ended) in
    let ended = ap (λ (n : ℕ). slice_get shown (n - 1)) (length-map (leaf_rows leaf) (option_map (λ (v : FlatValue). Single v)) ∙ sym c.len.ensures) ∙ c.in_ok-last.ensures.row in
    let built = built_of_joined c.args.self.now part own.dtype own.ends.items own.values c.push_runs.new.values own.last c.in_ok-last.last (ends_of c.args.ends.now) shown c.push_runs.new.ends.items c.in_ok-one.one
    c.self.view_is c.self.invariant cover c.requires.small seam c.in-Ok.ensures.ends c.in-Ok.ensures.values c.in-Ok.ensures.dtype (c.in_ok-last.ensures.dtype ∙ typed) ended in
    built.1
