use Rattle.std.proofs.Common.{map, sym, ap, ◌∙◌}
use Rattle.std.specs.Prelude.{unsigned_abs}
use Rattle.column_base.proofs.Ranges.{slice_range_of_map}
use Rattle.runend_array.proofs.array.rows.ends_in.Goals as goal

pub returns-clause-ends : goal.returns-clause-ends
returns-clause-ends g c =
    rw c.in-Primitive.is
    (ap (map unsigned_abs) c.in_ok-part-in-Primitive.ensures.stored ∙ sym (slice_range_of_map unsigned_abs c.in-Primitive.plain.numbers c.args.first c.args.stop))
