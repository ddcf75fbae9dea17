use Rattle.std.proofs.Common.{inr, ap, ◌∙◌, sym}
use Rattle.std.specs.Prelude.{Err}
use Rattle.column_base.specs.declared.error.VortexError.{VortexError}
use Rattle.runend_array.specs.Array.{dtype_of}
use Rattle.runend_commands.specs.Refusal.{numbers_fault}
use Rattle.runend_commands.proofs.VisibleEncodings.{other_numbers, one_fault}
use Rattle.runend_commands.proofs.compute.encodings.encode.Goals as goal

pub returns-in_default-clause-refused : goal.returns-in_default-clause-refused
returns-in_default-clause-refused g c = inr (ap numbers_fault (sym c.dtype.ensures) ∙ other_numbers c.dtype.result c.in_default.not-Primitive)

pub returns-in_default-clause-first : goal.returns-in_default-clause-first
returns-in_default-clause-first g c = λ error has.
    ap (λ (e : VortexError). Err e) (one_fault (dtype_of c.args.column.now) error (ap numbers_fault (sym c.dtype.ensures) ∙ other_numbers c.dtype.result c.in_default.not-Primitive) has)
