use Rattle.column_ops.proofs.ItemEnds.{greatest_side}
use Rattle.column_ops.proofs.item_ends.end_of.Goals as goal

pub returns-in_ok-least-in-Less : goal.returns-in_ok-least-in-Less
returns-in_ok-least-in-Less g c =
    λ decimal nullability. record {
      furthest = rw (c.in-Less.is, c.view.ensures.row) c.in_ok-least-in-Less.ensures.least;
      of_type = c.view.ensures.of_type decimal nullability;
    }

pub returns-in_ok-greatest-in_default : goal.returns-in_ok-greatest-in_default
returns-in_ok-greatest-in_default g c =
    λ decimal nullability. record {
      furthest = rw (greatest_side c.args.side c.in_default.not-Less c.requires.side, c.view-in_default.ensures.row) c.in_ok-greatest-in_default.ensures.greatest;
      of_type = c.view-in_default.ensures.of_type decimal nullability;
    }
