use Rattle.std.proofs.Common.{length, map, ap, sym, ◌∙◌}
use Rattle.std.specs.Prelude.{unsigned_abs}
use Rattle.std.proofs.lemmas.List.{length-map}
use Rattle.column_base.specs.Mask.{mask_bits}
use Rattle.runend_windows.specs.Ends.{ends_of}
use Rattle.runend_encode.proofs.Fitting.{naturals-of}
use Rattle.runend_select.proofs.KeptPlaces.{AreKept-masked, AreKeptAt-ascend, AreKeptAt-within}
use Rattle.runend_select.proofs.filtered_ends.filter_run_end_primitive.Goals as goal

pub filter_ends-parts-requires-clause-increasing : goal.filter_ends-parts-requires-clause-increasing
filter_ends-parts-requires-clause-increasing g c =
    let same = ap (map unsigned_abs) (c.wrap-stored.ensures.shows ∙ ap (map g.E.NativePType.number) c.in_ok-from_slice.ensures.items) ∙ naturals-of g.E.NativePType.number g.E.UnsignedPType.natural g.met.E.UnsignedPType.natural_law c.args.ends.now in
    rw same c.requires.increasing

pub filter_ends-parts-requires-clause-last : goal.filter_ends-parts-requires-clause-last
filter_ends-parts-requires-clause-last g c =
    let same = ap (map unsigned_abs) (c.wrap-stored.ensures.shows ∙ ap (map g.E.NativePType.number) c.in_ok-from_slice.ensures.items) ∙ naturals-of g.E.NativePType.number g.E.UnsignedPType.natural g.met.E.UnsignedPType.natural_law c.args.ends.now in
    rw same c.requires.last

pub filter_ends-parts-requires-clause-unsigned : goal.filter_ends-parts-requires-clause-unsigned
filter_ends-parts-requires-clause-unsigned g c = rw c.wrap-stored.ensures.typed g.met.E.UnsignedPType.unsigned_law

pub mask_of_places-kept-requires-clause-ascending : goal.mask_of_places-kept-requires-clause-ascending
mask_of_places-kept-requires-clause-ascending g c =
    rw c.as_slice.ensures.value (AreKeptAt-ascend _ c.args.offset c.in_ok-selected.selected.bits.now c.in_ok-kept_ends.places.items (ends_of c.in_ok-kept_ends.kept_ends) c.in_ok-kept_ends.ensures.kept)

pub mask_of_places-kept-requires-clause-within : goal.mask_of_places-kept-requires-clause-within
mask_of_places-kept-requires-clause-within g c =
    let same = ap (map unsigned_abs) (c.wrap-stored.ensures.shows ∙ ap (map g.E.NativePType.number) c.in_ok-from_slice.ensures.items) ∙ naturals-of g.E.NativePType.number g.E.UnsignedPType.natural g.met.E.UnsignedPType.natural_law c.args.ends.now in
    let counted = sym (ap length same ∙ length-map c.args.ends.now g.E.UnsignedPType.natural) in
    rw c.as_slice.ensures.value
    (AreKeptAt-within _ c.args.offset c.in_ok-selected.selected.bits.now c.in_ok-kept_ends.places.items (ends_of c.in_ok-kept_ends.kept_ends) (length c.args.ends.now) counted c.in_ok-kept_ends.ensures.kept)

pub returns-in-Ok-clause-kept : goal.returns-in-Ok-clause-kept
returns-in-Ok-clause-kept g c =
    let same = ap (map unsigned_abs) (c.wrap-stored.ensures.shows ∙ ap (map g.E.NativePType.number) c.in_ok-from_slice.ensures.items) ∙ naturals-of g.E.NativePType.number g.E.UnsignedPType.natural g.met.E.UnsignedPType.natural_law c.args.ends.now in
    let found = rw (same, c.in_ok-selected.ensures.bits) at c.in_ok-kept_ends.ensures.kept in
    let says = rw c.as_slice.ensures.value at c.in-Ok.ensures.selected in
    AreKept-masked (map g.E.UnsignedPType.natural c.args.ends.now) c.args.offset c.args.mask.now c.in_ok-kept_ends.places.items (ends_of c.in_ok-kept_ends.kept_ends) (mask_bits c.in-Ok.kept)
    (length c.args.ends.now) (sym (length-map c.args.ends.now g.E.UnsignedPType.natural)) c.in-Ok.ensures.len says found

pub returns-in-Ok-clause-typed : goal.returns-in-Ok-clause-typed
returns-in-Ok-clause-typed g c = c.in_ok-kept_ends.ensures.typed ∙ c.wrap-stored.ensures.typed
