use Rattle.std.proofs.Common.{◌≡◌, ◌∙◌, ℕ, ap, arith, count_by}
use Rattle.column_base.specs.ValidityForm.{ValidityForm, flags}
use Rattle.column_core.specs.FlatView.{leaf_in}
use Rattle.column_core.specs.Leaf.{leaf_count, leaf_validity}
use Rattle.runend_pairs.proofs.NullCounted.{nulls_of_leaf}
use Rattle.runend_pairs.proofs.null_counts.nulls_of_flat.Goals as goal

pub returns : goal.returns
returns g c =
    let leaf = leaf_in c.args.flat in
    let count = c.args.count in
    let long : c.args.count ≡ leaf_count leaf = c.requires.counted ∙ c.validity.ensures.rows in
    let whole = nulls_of_leaf leaf c.validity.ensures.counted in
    let valid : c.valid_count-valid.result ≡ count_by (λ flag. flag) (flags (leaf_validity leaf) (leaf_count leaf)) =
    c.valid_count-valid.ensures ∙ ap (λ (form : ValidityForm). count_by (λ flag. flag) (flags form count)) c.validity.ensures.form
    ∙ ap (λ (n : ℕ). count_by (λ flag. flag) (flags (leaf_validity leaf) n)) long in
    omega (arith, whole, valid, long, c.saturating_sub.ensures)
