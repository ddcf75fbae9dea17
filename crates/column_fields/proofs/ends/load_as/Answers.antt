use Rattle.std.proofs.Common.{◌≡◌, ◌∙◌, ℕ, List, map, true, ap, sym, subst}
use Rattle.std.specs.Prelude.{unsigned_abs}
use Rattle.column_base.specs.Numbers.{numbers}
use Rattle.column_fields.specs.Lengths.{lengths_bytes, Rises, AreEndsOf}
use Rattle.column_fields.proofs.LengthLaws.{ends_natural}
use Rattle.column_fields.proofs.ends.load_as.Goals as goal

pub returns-in-Ok-clause-found : goal.returns-in-Ok-clause-found
returns-in-Ok-clause-found g c =
    let same : map unsigned_abs (numbers c.wrap.result) ≡ map g.E.UnsignedPType.natural c.in-Ok.ends.items = ends_natural g.E.NativePType.number g.E.UnsignedPType.natural c.in-Ok.ends.items _ g.met.E.UnsignedPType.natural_law c.wrap.ensures.shows in
    c.in-Ok.ensures.found ∙ ap (lengths_bytes 0) (sym same)

pub returns-in-Ok-clause-rises : goal.returns-in-Ok-clause-rises
returns-in-Ok-clause-rises g c =
    let same : map unsigned_abs (numbers c.wrap.result) ≡ map g.E.UnsignedPType.natural c.in-Ok.ends.items = ends_natural g.E.NativePType.number g.E.UnsignedPType.natural c.in-Ok.ends.items _ g.met.E.UnsignedPType.natural_law c.wrap.ensures.shows in
    subst (λ (ends : List ℕ). Rises true 0 ends) (sym same) c.in-Ok.ensures.rises

pub returns-in-Ok-clause-fit : goal.returns-in-Ok-clause-fit
returns-in-Ok-clause-fit g c =
    let same : map unsigned_abs (numbers c.wrap.result) ≡ map g.E.UnsignedPType.natural c.in-Ok.ends.items = ends_natural g.E.NativePType.number g.E.UnsignedPType.natural c.in-Ok.ends.items _ g.met.E.UnsignedPType.natural_law c.wrap.ensures.shows in
    subst (λ (ends : List ℕ). AreEndsOf g.E.NativePType.PTYPE ends) (sym same) c.in-Ok.ensures.fit
