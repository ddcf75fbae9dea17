use Rattle.column_ops.proofs.item_ends.min_max_of.Goals as goal

pub returns : goal.returns
returns g c =
    λ decimal nullability. record {
      least = rw c.view.ensures.row c.in_ok-least.ensures.least;
      greatest = rw c.view-2.ensures.row c.in_ok-least.ensures.greatest;
      least_of_type = c.view.ensures.of_type decimal nullability;
      greatest_of_type = c.view-2.ensures.of_type decimal nullability;
    }
