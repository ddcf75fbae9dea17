use Rattle.std.proofs.Common.{◌≡◌, ℕ, ◌-◌, ◌+◌, ◌<◌, Some, true, length, map, min, refl, ap, ◌∙◌, arith, add-one}
use Rattle.std.specs.Prelude.{slice_index, unsigned_abs}
use Rattle.std.proofs.lemmas.List.{length-replicate}
use Rattle.column_base.specs.ValidityForm.{ByBits}
use Rattle.column_core.specs.Optionals.{optionals}
use Rattle.runend_windows.specs.Encoding.{blanked}
use Rattle.runend_windows.proofs.Blanked.{length-blanked}
use Rattle.runend_windows.proofs.Decoded.{Decoded-none, Decoded-next, Decoded-all, reached, reached-le}
use Rattle.runend_windows.proofs.Marked.{Marked-none, Marked-valid, Marked-null, Marked-all, Marked-length}
use Rattle.runend_windows.proofs.StoredNumbers.{length-naturals}
use Rattle.runend_windows.proofs.decode.decode_marked.Goals as goal
use Rattle.runend_windows.proofs.decode.decode_marked.Goals.{then-not-value, else-not-value}

pub loop-run-init : goal.loop-run-init
loop-run-init g c =
    let ends = map unsigned_abs (map g.E.NativePType.number c.args.ends.now) in
    record {
      rows = rw c.in_ok-rows.ensures.empty (Decoded-none ends (blanked c.args.blank (optionals c.args.values.now c.args.marks.now)) c.args.offset c.args.count);
      limit = rw c.in_ok-rows.ensures.empty refl;
      marked = rw c.in_ok-bits.ensures.bits (Marked-none ends c.args.marks.now c.args.offset c.args.count);
      long = rw c.in_ok-bits.ensures.bits (length-replicate c.args.count true);
      start = refl;
    }

pub fill_range-requires : goal.fill_range-requires
fill_range-requires g c =
    let end_number = g.E.NativePType.number in
    let ends = map unsigned_abs (map end_number c.args.ends.now) in
    let within : c.loop-run.run < length ends = omega (arith, length-naturals end_number c.args.ends.now) in
    let order = reached-le ends c.args.offset c.args.count c.loop-run.run c.requires.window.increasing within in
    record { ordered = omega (arith, order, c.loop-run.invariant.start, c.reach_of-reach.ensures); in_bounds = omega (arith, c.loop-run.invariant.long, c.reach_of-reach.ensures) }

pub loop-run-preserved : goal.loop-run-preserved
loop-run-preserved g c =
    let end_number = g.E.NativePType.number in
    let ends = map unsigned_abs (map end_number c.args.ends.now) in
    let marks = c.args.marks.now in
    let stored = blanked c.args.blank (optionals c.args.values.now marks) in
    let run = c.loop-run.run in
    let rows = c.loop-run.rows.rows in
    let inv = c.loop-run.invariant in
    let reach = c.reach_of-reach.result in
    let within : run < length ends = omega (arith, length-naturals end_number c.args.ends.now) in
    let to : reach ≡ min (slice_index ends run - c.args.offset) c.args.count = c.reach_of-reach.ensures in
    let copies : reach - length rows ≡ min (slice_index ends run - c.args.offset) c.args.count - length rows = ap (λ (n : ℕ). n - length rows) to in
    let next = Decoded-next ends stored c.args.offset c.args.count run rows c.stored_at-item.result (reach - length rows) c.requires.window within c.stored_at-item.ensures copies inv.rows in
    let limit = c.repeat_to.ensures.limit ∙ inv.limit in
    let start : reach ≡ reached ends c.args.offset c.args.count (run + 1) = rw add-one to in
    elim c.if-not-value.branch [
      | then-not-value w ↦
          let marked = Marked-null ends marks c.args.offset c.args.count run c.loop-run.bits c.loop-run.start reach c.requires.window within
          (c.value.ensures ∙ ap Some w.if-not-value.true) inv.start to inv.marked in
          record {
            rows = rw c.repeat_to.ensures.rows next;
            limit = limit;
            marked = rw (w.bits-is, w.fill_range.ensures) marked;
            long = rw (w.bits-is, w.fill_range.ensures) (Marked-length ends marks c.args.offset c.args.count (run + 1) _ marked);
            start = start;
          }
      | else-not-value w ↦ record {
        rows = rw c.repeat_to.ensures.rows next;
        limit = limit;
        marked = rw w.bits-is (Marked-valid ends marks c.args.offset c.args.count run c.loop-run.bits c.requires.window within (c.value.ensures ∙ ap Some w.if-not-value.false) inv.marked);
        long = rw w.bits-is inv.long;
        start = start;
      }
    ]

pub returns-clause-items : goal.returns-clause-items
returns-clause-items g c =
    let end_number = g.E.NativePType.number in
    let ends = map unsigned_abs (map end_number c.args.ends.now) in
    let values = c.args.values.now in
    let marks = c.args.marks.now in
    let long = length-naturals end_number c.args.ends.now in
    let paired = length-blanked c.args.blank values (ByBits marks) c.requires.fits in
    let all : c.loop-run.run ≡ length ends = omega arith in
    rw c.finish.ensures
    (Decoded-all ends (blanked c.args.blank (optionals values marks)) c.args.offset c.args.count c.loop-run.run c.loop-run.rows.rows c.requires.window (omega arith) all c.loop-run.invariant.rows)

pub returns-clause-bits : goal.returns-clause-bits
returns-clause-bits g c =
    let end_number = g.E.NativePType.number in
    let ends = map unsigned_abs (map end_number c.args.ends.now) in
    let long = length-naturals end_number c.args.ends.now in
    let all : c.loop-run.run ≡ length ends = omega arith in
    Marked-all ends c.args.marks.now c.args.offset c.args.count c.loop-run.run c.loop-run.bits c.requires.window (omega arith) all c.loop-run.invariant.marked
