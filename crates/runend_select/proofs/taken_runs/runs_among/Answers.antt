use Rattle.std.proofs.Common.{ℤ, pos, List, map, sym, ap, subst, ◌∙◌}
use Rattle.std.specs.Prelude.{IfOk, unsigned_abs}
use Rattle.column_base.specs.Mask.{mask_bits}
use Rattle.column_base.specs.Numbers.{numbers}
use Rattle.runend_windows.specs.Window.{IsWindow}
use Rattle.runend_select.specs.RunsOf.{AreRunsOf}
use Rattle.runend_select.specs.Indices.{optional_indices}
use Rattle.runend_select.proofs.taken_runs.runs_among.Goals as goal

pub runs_by-requires-clause-window : goal.runs_by-requires-clause-window
runs_by-requires-clause-window g c =
    let shown = ap (map pos) c.as_slice.ensures.value ∙ sym (ap numbers c.in-U8-match_each_unsigned.is) in
    subst (λ (ns : List ℤ). IsWindow (map unsigned_abs ns) c.args.offset c.args.count) (sym shown) c.requires.window

pub runs_by-requires-clause-some : goal.runs_by-requires-clause-some
runs_by-requires-clause-some g c = c.requires.some

pub runs_by-requires-clause-masked : goal.runs_by-requires-clause-masked
runs_by-requires-clause-masked g c = c.requires.masked

pub runs_by-requires-clause-in_bounds : goal.runs_by-requires-clause-in_bounds
runs_by-requires-clause-in_bounds g c = c.requires.in_bounds

pub returns-in-U8-match_each_unsigned-clause-only : goal.returns-in-U8-match_each_unsigned-clause-only
returns-in-U8-match_each_unsigned-clause-only g c = c.runs_by.ensures.only

pub returns-in-U8-match_each_unsigned-clause-runs : goal.returns-in-U8-match_each_unsigned-clause-runs
returns-in-U8-match_each_unsigned-clause-runs g c =
    let shown = ap (map pos) c.as_slice.ensures.value ∙ sym (ap numbers c.in-U8-match_each_unsigned.is) in
    subst (λ (ns : List ℤ). IfOk c.runs_by.result (λ runs. AreRunsOf (map unsigned_abs ns) c.args.offset (optional_indices g.T.NativePType.number c.args.indices.now (mask_bits c.args.mask.now)) runs.items)) shown
    c.runs_by.ensures.runs

pub runs_by-requires-2-clause-window : goal.runs_by-requires-2-clause-window
runs_by-requires-2-clause-window g c =
    let shown = ap (map pos) c.as_slice-2.ensures.value ∙ sym (ap numbers c.in-U16-match_each_unsigned.is) in
    subst (λ (ns : List ℤ). IsWindow (map unsigned_abs ns) c.args.offset c.args.count) (sym shown) c.requires.window

pub runs_by-requires-2-clause-some : goal.runs_by-requires-2-clause-some
runs_by-requires-2-clause-some g c = c.requires.some

pub runs_by-requires-2-clause-masked : goal.runs_by-requires-2-clause-masked
runs_by-requires-2-clause-masked g c = c.requires.masked

pub runs_by-requires-2-clause-in_bounds : goal.runs_by-requires-2-clause-in_bounds
runs_by-requires-2-clause-in_bounds g c = c.requires.in_bounds

pub returns-in-U16-match_each_unsigned-clause-only : goal.returns-in-U16-match_each_unsigned-clause-only
returns-in-U16-match_each_unsigned-clause-only g c = c.runs_by-2.ensures.only

pub returns-in-U16-match_each_unsigned-clause-runs : goal.returns-in-U16-match_each_unsigned-clause-runs
returns-in-U16-match_each_unsigned-clause-runs g c =
    let shown = ap (map pos) c.as_slice-2.ensures.value ∙ sym (ap numbers c.in-U16-match_each_unsigned.is) in
    subst (λ (ns : List ℤ). IfOk c.runs_by-2.result (λ runs. AreRunsOf (map unsigned_abs ns) c.args.offset (optional_indices g.T.NativePType.number c.args.indices.now (mask_bits c.args.mask.now)) runs.items)) shown
    c.runs_by-2.ensures.runs

pub runs_by-requires-3-clause-window : goal.runs_by-requires-3-clause-window
runs_by-requires-3-clause-window g c =
    let shown = ap (map pos) c.as_slice-3.ensures.value ∙ sym (ap numbers c.in-U32-match_each_unsigned.is) in
    subst (λ (ns : List ℤ). IsWindow (map unsigned_abs ns) c.args.offset c.args.count) (sym shown) c.requires.window

pub runs_by-requires-3-clause-some : goal.runs_by-requires-3-clause-some
runs_by-requires-3-clause-some g c = c.requires.some

pub runs_by-requires-3-clause-masked : goal.runs_by-requires-3-clause-masked
runs_by-requires-3-clause-masked g c = c.requires.masked

pub runs_by-requires-3-clause-in_bounds : goal.runs_by-requires-3-clause-in_bounds
runs_by-requires-3-clause-in_bounds g c = c.requires.in_bounds

pub returns-in-U32-match_each_unsigned-clause-only : goal.returns-in-U32-match_each_unsigned-clause-only
returns-in-U32-match_each_unsigned-clause-only g c = c.runs_by-3.ensures.only

pub returns-in-U32-match_each_unsigned-clause-runs : goal.returns-in-U32-match_each_unsigned-clause-runs
returns-in-U32-match_each_unsigned-clause-runs g c =
    let shown = ap (map pos) c.as_slice-3.ensures.value ∙ sym (ap numbers c.in-U32-match_each_unsigned.is) in
    subst (λ (ns : List ℤ). IfOk c.runs_by-3.result (λ runs. AreRunsOf (map unsigned_abs ns) c.args.offset (optional_indices g.T.NativePType.number c.args.indices.now (mask_bits c.args.mask.now)) runs.items)) shown
    c.runs_by-3.ensures.runs

pub runs_by-requires-4-clause-window : goal.runs_by-requires-4-clause-window
runs_by-requires-4-clause-window g c =
    let shown = ap (map pos) c.as_slice-4.ensures.value ∙ sym (ap numbers c.in-U64-match_each_unsigned.is) in
    subst (λ (ns : List ℤ). IsWindow (map unsigned_abs ns) c.args.offset c.args.count) (sym shown) c.requires.window

pub runs_by-requires-4-clause-some : goal.runs_by-requires-4-clause-some
runs_by-requires-4-clause-some g c = c.requires.some

pub runs_by-requires-4-clause-masked : goal.runs_by-requires-4-clause-masked
runs_by-requires-4-clause-masked g c = c.requires.masked

pub runs_by-requires-4-clause-in_bounds : goal.runs_by-requires-4-clause-in_bounds
runs_by-requires-4-clause-in_bounds g c = c.requires.in_bounds

pub returns-in-U64-match_each_unsigned-clause-only : goal.returns-in-U64-match_each_unsigned-clause-only
returns-in-U64-match_each_unsigned-clause-only g c = c.runs_by-4.ensures.only

pub returns-in-U64-match_each_unsigned-clause-runs : goal.returns-in-U64-match_each_unsigned-clause-runs
returns-in-U64-match_each_unsigned-clause-runs g c =
    let shown = ap (map pos) c.as_slice-4.ensures.value ∙ sym (ap numbers c.in-U64-match_each_unsigned.is) in
    subst (λ (ns : List ℤ). IfOk c.runs_by-4.result (λ runs. AreRunsOf (map unsigned_abs ns) c.args.offset (optional_indices g.T.NativePType.number c.args.indices.now (mask_bits c.args.mask.now)) runs.items)) shown
    c.runs_by-4.ensures.runs
