use Rattle.std.proofs.Common.{◌≡◌, ℤ, Option, [], ◌∷◌, ◌++◌, ◌∙◌, ap, length, map, sym, arith, length-append}
use Rattle.std.proofs.lemmas.List.{length-map}
use Rattle.column_core.specs.PrimitiveForm.{optionals}
use Rattle.column_core.proofs.OptionalRows.{optionals-push, AreZeroAtNulls-push}
use Rattle.runend_windows.proofs.StoredNumbers.{stored-row, stored-zero, optionals-push_mapped}
use Rattle.runend_windows.proofs.encode.Encoder.close.Goals as goal

pub returns-clause-values : goal.returns-clause-values
returns-clause-values g c =
    let number = g.T.NativePType.number in
    let items = c.args.self.now.values.items in
    let flags = c.args.self.now.flags in
    let paired : length flags ≡ length (map number items) = c.requires ∙ sym (length-map items number) in
    rw (c.in_ok-push-2.ensures.items, optionals-push_mapped number, c.in_ok-append.ensures.ok)
    (optionals-push (map number items) flags (number c.unwrap_or_default.result) c.is_some.result paired
    ∙ ap (λ (r : Option ℤ). optionals (map number items) flags ++ r ∷ []) (stored-row number g.T.Default.is_default c.args.shown c.unwrap_or_default.result c.is_some.result c.is_some.ensures c.unwrap_or_default.ensures))

pub returns-clause-zeroed : goal.returns-clause-zeroed
returns-clause-zeroed g c =
    let number = g.T.NativePType.number in
    let items = c.args.self.now.values.items in
    let flags = c.args.self.now.flags in
    let paired : length flags ≡ length (map number items) = c.requires ∙ sym (length-map items number) in
    rw (c.in_ok-push-2.ensures.items, optionals-push_mapped number, c.in_ok-append.ensures.ok)
    (AreZeroAtNulls-push (map number items) flags (number c.unwrap_or_default.result) c.is_some.result paired
    (stored-zero g.T.PartialEq.eq g.T.Ord.cmp g.T.Default.is_default number g.met.T.NativePType.law c.args.shown c.unwrap_or_default.result c.is_some.result c.is_some.ensures c.unwrap_or_default.ensures))

pub returns-clause-ends : goal.returns-clause-ends
returns-clause-ends g c = c.in_ok-push.ensures.items

pub returns-clause-paired : goal.returns-clause-paired
returns-clause-paired g c =
    let items = c.args.self.now.values.items in
    let flags = c.args.self.now.flags in
    let more = length-append flags (c.is_some.result ∷ []) in
    let longer = length-append items (c.unwrap_or_default.result ∷ []) in
    rw (c.in_ok-append.ensures.ok, c.in_ok-push-2.ensures.items) (omega (arith, more, longer, c.requires))
