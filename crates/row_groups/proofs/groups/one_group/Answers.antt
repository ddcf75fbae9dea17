use Rattle.std.proofs.Common.{◌∙◌, ◌++◌, ℕ, List, [], ◌∷◌, ap, arith, subst, sym}
use Rattle.row_groups.specs.Groups.{AreGroupEnds}
use Rattle.row_groups.proofs.Cuts.{no_end, one_end, one_group_of_all}
use Rattle.row_groups.proofs.groups.one_group.Goals as goal
use Rattle.row_groups.proofs.groups.one_group.Goals.{then-count-gt0+in_ok-push, else-count-gt0}

pub returns-clause-groups : goal.returns-clause-groups
returns-clause-groups g c =
    let count = c.args.count in
    elim c.if-count-gt0.branch [
      | then-count-gt0+in_ok-push w ↦
          let is = ap (λ v. v.items) w.ends-is ∙ w.in_ok-push.ensures.items ∙ ap (λ (before : List ℕ). before ++ count ∷ []) c.new-ends.ensures.items in
          subst (AreGroupEnds [] count) (sym is) (one_group_of_all count (count ∷ []) (one_end count (omega arith) (omega arith)) (omega arith))
      | else-count-gt0 w ↦
          let is = ap (λ v. v.items) w.ends-is ∙ c.new-ends.ensures.items in
          subst (AreGroupEnds [] count) (sym is) (one_group_of_all count [] (no_end count (omega arith)) (omega arith))
    ]
