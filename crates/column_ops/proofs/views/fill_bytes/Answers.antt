use Rattle.std.proofs.Common.{◌≡◌, ◌∙◌, ◌++◌, ◌∷◌, [], ap}
use Rattle.column_base.specs.declared.dtype.Nullability.TheVariants.{NonNullable}
use Rattle.column_base.specs.Validity.{form_of}
use Rattle.column_ops.proofs.Columns.{IsMade-filled_views, filled_views_sound}
use Rattle.column_ops.proofs.views.fill_bytes.Goals as goal

pub new_unchecked-requires : goal.new_unchecked-requires
new_unchecked-requires g c =
    let own = c.args.array.now in
    let grown : c.in_ok-buffers.buffers.items ≡ own.buffers ++ c.args.bytes.now ∷ [] = c.in_ok-buffers.ensures.more ∙ ap (λ old. old ++ c.args.bytes.now ∷ []) c.buffers-shared.ensures in
    let written = rw (c.buffers-shared.ensures, c.views.ensures.stored, c.validity-own.ensures.form) at c.in_ok-filled.ensures.filled in
    rw (c.kind.ensures, grown)
    (filled_views_sound own c.args.bytes.now NonNullable c.in_ok-filled.filled.items (form_of c.in_ok-filled.rows) c.views.ensures.accepted c.requires written)

pub returns-clause-made : goal.returns-clause-made
returns-clause-made g c =
    let own = c.args.array.now in
    let grown : c.in_ok-buffers.buffers.items ≡ own.buffers ++ c.args.bytes.now ∷ [] = c.in_ok-buffers.ensures.more ∙ ap (λ old. old ++ c.args.bytes.now ∷ []) c.buffers-shared.ensures in
    let written = rw (c.buffers-shared.ensures, c.views.ensures.stored, c.validity-own.ensures.form) at c.in_ok-filled.ensures.filled in
    rw (c.new_unchecked.ensures, c.kind.ensures, grown)
    (IsMade-filled_views own c.args.bytes.now NonNullable c.in_ok-filled.filled.items (form_of c.in_ok-filled.rows) c.views.ensures.accepted written)
