use Rattle.std.proofs.Common.{sym, subst, w32, ℤ}
use Rattle.std.proofs.lemmas.Int.{to_z-of_z}
use Rattle.c_columns.specs.Ending.{EndsOnHeldUnless}
use Rattle.c_columns.specs.Handle.{array_in}
use Rattle.c_columns.specs.Lists.{PassedListsFault}
use Rattle.c_columns.proofs.Held.{lent_array}
use Rattle.hivevigil.proofs.PartEndings.{held_unless_ends}
use Rattle.hivevigil.proofs.lists.hv_lists.Goals as goal

pub returns-clause-ended : goal.returns-clause-ended
returns-clause-ended c =
    let back = to_z-of_z w32 c.answer.result (record { sfits = c.answer.type_inv }) in
    subst (λ (code : ℤ). EndsOnHeldUnless (PassedListsFault c.args.offsets.now c.args.sizes.now c.args.nulls c.args.bits.now c.args.first) (array_in c.args.elements.now.column) code c.answer.new.error) (sym back)
    (held_unless_ends c.lists-outcome.result (λ made. made.value) (PassedListsFault c.args.offsets.now c.args.sizes.now c.args.nulls c.args.bits.now c.args.first) (array_in c.args.elements.now.column) c.answer.new.out.column _
    c.deref.result.now.array c.answer.result c.answer.new.error (lent_array c.deref.ensures c.in-Some.ensures.array) c.lists-outcome.ensures.served c.lists-outcome.ensures.refused c.answer.ensures.ok c.answer.ensures.err)
