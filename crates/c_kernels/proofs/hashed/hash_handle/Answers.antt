use Rattle.std.proofs.Common.{sym, subst, w32, ℤ}
use Rattle.std.proofs.lemmas.Int.{to_z-of_z}
use Rattle.c_columns.specs.Handle.{array_in}
use Rattle.c_columns.proofs.Held.{lent_array}
use Rattle.c_kernels.specs.Hashed.{EndsOnHash}
use Rattle.c_kernels.proofs.Answered.{hash_ends}
use Rattle.c_kernels.proofs.hashed.hash_handle.Goals as goal

pub returns-clause-ended : goal.returns-clause-ended
returns-clause-ended c =
    let back = to_z-of_z w32 c.write_answer.result (record { sfits = c.write_answer.type_inv }) in
    subst (λ (code : ℤ). EndsOnHash (array_in c.args.column.now.column) code c.write_answer.new.fields) (sym back)
    (hash_ends (array_in c.args.column.now.column) c.deref.result.now.array c.hash_of-outcome.result c.write_answer.new.place c.write_answer.result c.write_answer.new.fields
    (lent_array c.deref.ensures c.in-Some.ensures.array) c.hash_of-outcome.ensures.refused c.write_answer.ensures.ok c.write_answer.ensures.err)
