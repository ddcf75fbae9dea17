use Rattle.std.proofs.Common.{Some, ◌≡◌, ◌∙◌, ◌++◌, ◌∷◌, ap, lit<, rules}
use Rattle.std.specs.Prelude.{codes}
use Rattle.std.proofs.lemmas.Str.Pattern.{split_parts}
use Rattle.logical_types.proofs.ReadDecimals.{if_none}
use Rattle.logical_types.proofs.ReadFormats.{no_type}
use Rattle.logical_types.proofs.formats.read_format.Goals as goal

pub returns-in_err-decimal-clause-none : goal.returns-in_err-decimal-clause-none
returns-in_err-decimal-clause-none c =
    let parts = split_parts 58 c.args.format.now (Some (c.in-Some.kind, c.in-Some.rest)) c.in-Some.ensures.cases (lit< tt) in
    let kind : c.in-Some.kind.now ≡ codes "d" = search rules in
    if_none _ _ (no_type c.args.format.now c.in-Some.rest.now (parts.0 ∙ ap (λ word. word ++ (58 ∷ c.in-Some.rest.now)) kind) c.in_err-decimal.ensures.none)
