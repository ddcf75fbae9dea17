use Rattle.std.proofs.Common.{false, sym, ◌∙◌, arith}
use Rattle.column_base.specs.Mask.{mask_bits}
use Rattle.column_base.specs.ValidityForm.{ByBits}
use Rattle.column_core.specs.Optionals.{optionals}
use Rattle.runend_windows.specs.Encoding.{blanked}
use Rattle.runend_windows.proofs.Blanked.{length-blanked}
use Rattle.runend_windows.proofs.BitRuns.{background_of-few, background_of-most}
use Rattle.runend_windows.proofs.typed_bool.start_bits.Goals as goal

pub returns-then-len-prefill_runs-clause-start : goal.returns-then-len-prefill_runs-clause-start
returns-then-len-prefill_runs-clause-start g c =
    let marks = mask_bits c.args.mask.now in
    let stored = blanked false (optionals c.args.values.now marks) in
    let long = length-blanked false c.args.values.now (ByBits marks) c.requires.masked in
    rw (background_of-few stored c.args.count c.args.prefill_runs (omega arith)) c.with_room.ensures.empty

pub returns-clause-start : goal.returns-clause-start
returns-clause-start g c =
    let marks = mask_bits c.args.mask.now in
    let stored = blanked false (optionals c.args.values.now marks) in
    let long = length-blanked false c.args.values.now (ByBits marks) c.requires.masked in
    rw (background_of-most stored c.args.count c.args.prefill_runs c.is_majority-majority.result (omega arith)
    (rw (long ∙ sym c.len-2.ensures, sym c.count_masked.ensures) c.is_majority-majority.ensures)) c.prefilled.ensures.start
