use Rattle.std.proofs.Common.{refl}
use Rattle.runend_array.proofs.WrittenLeaves.{map-copies}
use Rattle.runend_array.proofs.written.zeros_of.Goals as goal

pub returns-clause-form : goal.returns-clause-form
returns-clause-form g c = rw (c.new_unchecked-zeros.ensures, c.from_vec.ensures.shows, c.from_vec.ensures.typed, c.in_ok-zeros.ensures.items, map-copies) refl
