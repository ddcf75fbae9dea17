use Rattle.std.proofs.Common.{◌≡◌, ◌-◌, length, subst, refl, arith, true, false}
use Rattle.std.specs.Prelude.{IfOk}
use Rattle.runend_array.specs.Array.{validity_of}
use Rattle.runend_array.specs.Lists.{row_flag_at}
use Rattle.runend_array.proofs.ListWalks.{replicate-read, slice_range-read}
use Rattle.runend_array.proofs.lists.slice.flags_between.Goals as goal

pub returns-in-NonNullable-clause-flags : goal.returns-in-NonNullable-clause-flags
returns-in-NonNullable-clause-flags g c =
    subst (λ xs. IfOk c.same_flags.result (λ bits. bits ≡ xs))
    (replicate-read (row_flag_at (validity_of c.args.validity.now)) true c.args.start (c.args.stop - c.args.start) (λ row. rw c.in-NonNullable.is refl)) c.same_flags.ensures.flags

pub returns-in-AllValid-clause-flags : goal.returns-in-AllValid-clause-flags
returns-in-AllValid-clause-flags g c =
    subst (λ xs. IfOk c.same_flags-in-AllValid.result (λ bits. bits ≡ xs))
    (replicate-read (row_flag_at (validity_of c.args.validity.now)) true c.args.start (c.args.stop - c.args.start) (λ row. rw c.in-AllValid.is refl)) c.same_flags-in-AllValid.ensures.flags

pub returns-in-AllInvalid-clause-flags : goal.returns-in-AllInvalid-clause-flags
returns-in-AllInvalid-clause-flags g c =
    subst (λ xs. IfOk c.same_flags-in-AllInvalid.result (λ bits. bits ≡ xs))
    (replicate-read (row_flag_at (validity_of c.args.validity.now)) false c.args.start (c.args.stop - c.args.start) (λ row. rw c.in-AllInvalid.is refl)) c.same_flags-in-AllInvalid.ensures.flags

pub returns-in-Bits-clause-flags : goal.returns-in-Bits-clause-flags
returns-in-Bits-clause-flags g c =
    let counted : length c.in-Bits.bits ≡ c.args.count = rw c.in-Bits.is at c.requires.counted in
    rw c.in-Bits.is
    (subst (λ xs. IfOk c.slice.result (λ bits. bits ≡ xs)) (slice_range-read c.in-Bits.bits false c.args.start c.args.stop c.requires.ordered (omega (arith, c.requires.in_bounds, counted)))
    c.slice.ensures.bits)
