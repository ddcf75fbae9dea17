use Rattle.std.proofs.Common.{◌≡◌, ◌<◌, ◌∙◌, ap, refl, arith, length, take, set, get_or, true, false, Some}
use Rattle.std.specs.Prelude.{slice_get}
use Rattle.std.proofs.lemmas.List.{take_all, length-set}
use Rattle.std.proofs.lemmas.Option.{slice_get-get_or, same_Some}
use Rattle.column_base.specs.Mask.{mask_bits}
use Rattle.column_base.specs.declared.error.VortexError.TheVariants.{OutOfMemory}
use Rattle.column_base.proofs.BitLists.{fill_one, selected_more}
use Rattle.column_base.proofs.Refusals.{nothing_made, passed_on}
use Rattle.column_base.proofs.mask.Mask.from_indices.Goals as goal

pub loop-index-preserved : goal.loop-index-preserved
loop-index-preserved g c =
    let index = get_or c.args.indices.now c.loop-index.index-index 0 in
    let place : index < c.args.len = c.requires.in_bounds c.loop-index.index-index 0 c.loop-index-test.true in
    let within : index < length c.loop-index.bits = omega arith in
    let written : c.fill_range.new.self ≡ set c.loop-index.bits index true = rw (fill_one c.loop-index.bits index true within) at c.fill_range.ensures in
    record {
      len = ap length written ∙ length-set c.loop-index.bits index true ∙ c.loop-index.invariant.len;
      selected = rw written (rw (← c.loop-index.invariant.len) (selected_more c.loop-index.bits c.args.indices.now c.loop-index.index-index index c.loop-index-test.true refl within (rw c.loop-index.invariant.len c.loop-index.invariant.selected)));
    }

-- the loop has gone over all indices, and the mask shows the bits
pub returns-clause-selected : goal.returns-clause-selected
returns-clause-selected g c i h =
    let same : mask_bits c.from_buffer.result ≡ c.loop-index.bits = c.from_buffer.ensures.bits ∙ c.freeze.ensures in
    let within : i < length c.loop-index.bits = omega (arith, c.loop-index.invariant.len) in
    let read : slice_get c.loop-index.bits i ≡ Some (get_or c.loop-index.bits i false) = slice_get-get_or c.loop-index.bits i false within in
    let all : take c.loop-index.index-index c.args.indices.now ≡ c.args.indices.now = take_all c.loop-index.index-index c.args.indices.now c.loop-index-test.false in
    let shown = rw all at (c.loop-index.invariant.selected i h) in
    rw (same, read) (λ e. shown.0 (same_Some _ _ e), λ member. ap Some (shown.1 member))

pub fill_range-requires-clause-in_bounds : goal.fill_range-requires-clause-in_bounds
fill_range-requires-clause-in_bounds g c =
    let place = c.requires.in_bounds c.loop-index.index-index 0 c.loop-index-test.true in
    omega (arith, place, c.loop-index.invariant.len)

pub returns-clause-len : goal.returns-clause-len
returns-clause-len g c = ap length (c.from_buffer.ensures.bits ∙ c.freeze.ensures) ∙ c.loop-index.invariant.len

pub returns-clause-normal : goal.returns-clause-normal
returns-clause-normal g c = c.from_buffer.ensures.normal

pub returns-in_err-bits-clause-selected : goal.returns-in_err-bits-clause-selected
returns-in_err-bits-clause-selected g c = nothing_made _ c.from_residual.result c.from_residual.ensures.0

pub returns-in_err-bits-clause-len : goal.returns-in_err-bits-clause-len
returns-in_err-bits-clause-len g c = nothing_made _ c.from_residual.result c.from_residual.ensures.0

pub returns-in_err-bits-clause-normal : goal.returns-in_err-bits-clause-normal
returns-in_err-bits-clause-normal g c = nothing_made _ c.from_residual.result c.from_residual.ensures.0

pub returns-in_err-bits-clause-only : goal.returns-in_err-bits-clause-only
returns-in_err-bits-clause-only g c = passed_on c.from_residual.result c.in_err-bits.field-0.0 OutOfMemory c.from_residual.ensures.1 c.in_err-bits.ensures.only
