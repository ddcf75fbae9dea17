use Rattle.std.proofs.Common.{ℕ, List, refl, subst, sym}
use Rattle.column_fields.specs.RecordFields.{Means}
use Rattle.column_fields.proofs.record_laws.write_then_read.Goals as goal

pub returns-clause-only : goal.returns-clause-only
returns-clause-only g c =
    let means : Means c.deref.result.now c.args.metadata.now = subst (λ (t : List ℕ). Means t c.args.metadata.now) (sym c.deref.ensures.value) c.in_ok-bytes.ensures.means in
    rw ((c.decode.ensures.ok c.args.metadata.now).1 means) tt

pub returns-clause-same : goal.returns-clause-same
returns-clause-same g c =
    let means : Means c.deref.result.now c.args.metadata.now = subst (λ (t : List ℕ). Means t c.args.metadata.now) (sym c.deref.ensures.value) c.in_ok-bytes.ensures.means in
    rw ((c.decode.ensures.ok c.args.metadata.now).1 means) refl
