use Rattle.std.proofs.Common.{◌≡◌, ℕ, List, length, sym, subst, arith, ◌∙◌}
use Rattle.column_base.proofs.ValidityRows.{length-flags}
use Rattle.column_core.specs.PrimitiveForm.{optional_numbers, row_flags}
use Rattle.column_core.proofs.OptionalRows.{length-optionals}
use Rattle.runend_windows.specs.Cover.{IsTightCover}
use Rattle.runend_windows.specs.Ends.{ends_of}
use Rattle.runend_windows.specs.Window.{run_rows}
use Rattle.runend_windows.proofs.Ends.{length_ends_of}
use Rattle.runend_windows.proofs.RunRows.{Covers-run_rows}
use Rattle.runend_encode.proofs.Joining.{tight-windowed}
use Rattle.runend_encode.proofs.JoinedParts.{AreJoined-moved}
use Rattle.runend_encode.proofs.join.coalesce_runs.Goals as goal

-- no two neighbours are equal, so the runs are a tight cover once their ends are counted from the first row
pub returns-then-all_differ-clause-joined : goal.returns-then-all_differ-clause-joined
returns-then-all_differ-clause-joined g c =
    let ends = c.args.ends in
    let values = c.args.values in
    let rows = run_rows (ends_of ends) (optional_numbers values) c.args.offset c.args.count in
    let counted : length (optional_numbers values) ≡ length values.numbers = length-optionals values.numbers (row_flags values) (length-flags values.validity (length values.numbers) c.all_differ.ensures.counted) in
    let long : length (optional_numbers values) ≡ length (ends_of ends) = counted ∙ c.requires.paired ∙ sym (length_ends_of ends) in
    let cover = Covers-run_rows (ends_of ends) (optional_numbers values) c.args.offset c.args.count c.requires.window long in
    let differ = c.all_differ.ensures.differ c.if-all_differ.true in
    let tight = tight-windowed rows (ends_of ends) (optional_numbers values) c.args.offset c.args.count cover c.requires.shown (λ k d h. differ k d (omega (arith, h, counted))) in
    AreJoined-moved ends values c.in_ok-ends.ends c.args.offset c.args.count c.requires.window long
    (subst (λ (moved : List ℕ). IsTightCover rows moved (optional_numbers values)) (sym c.in_ok-ends.ensures.ends) tight) c.in_ok-ends.ensures.dtype c.requires.computed
