use Rattle.std.proofs.Common.{◌≡◌, ◌≤◌, ◌+◌, length, slice_range, ap, sym, subst, ◌∙◌, arith}
use Rattle.shared_buffer.specs.Storage.{IsWithin, items_of}
use Rattle.shared_buffer.specs.declared.buffer.Storage.TheVariants.{Shared}
use Rattle.shared_buffer.proofs.Parts.{length-slice_range, slice_range-slice_range}
use Rattle.shared_buffer.proofs.buffer.Buffer.slice.Goals as goal

pub returns-in_ok-clone-in-Shared : goal.returns-in_ok-clone-in-Shared
returns-in_ok-clone-in-Shared g c =
    let whole = c.in-Shared.vector.value.items in
    let start = c.in-Shared.start in
    let end = c.in-Shared.end in
    let r = c.args.range in
    let part : IsWithin (Shared c.in-Shared.vector start end) = subst IsWithin c.in-Shared.is c.self.invariant in
    let shown : c.args.self.now.items ≡ slice_range whole start end = ap (λ v. v.items) (sym c.self.view_is) ∙ ap items_of c.in-Shared.is in
    let long = ap length shown ∙ length-slice_range whole start end part.0 part.1 in
    let within : start + r.end ≤ end = omega (arith, long, c.requires.in_bounds, part.0) in
    ap (λ v. slice_range v.items (start + r.start) (start + r.end)) c.in_ok-clone-in-Shared.ensures.cases
    ∙ sym (slice_range-slice_range whole start end r.start r.end c.requires.ordered within)
    ∙ ap (λ xs. slice_range xs r.start r.end) (sym shown)
