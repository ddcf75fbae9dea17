use Rattle.std.proofs.Common.{rules, ◌≡◌, ◌∙◌, ◌++◌, ◌∷◌, [], ℤ, Option, None, false, true, ap, subst, sym, true≢false, w64, FitsSigned}
use Rattle.std.specs.Prelude.{IfSome}
use Rattle.std.proofs.lemmas.Int.{to_z-of_z}
use Rattle.column_floats.specs.Extremes.{AreKeyExtremes, IsExtendedBy}
use Rattle.column_floats.specs.Formats.{IsKey}
use Rattle.column_floats.proofs.KeyExtremes.{ends_next, ends_same, keys_fit}
use Rattle.column_floats.proofs.extremes.with_row.Goals as goal

pub returns-in-Some-clause-ends : goal.returns-in-Some-clause-ends
returns-in-Some-clause-ends g c = λ keys known.
    let test = g.T.KeyTest.passes c.args.test.now in
    let key = c.in-Some.key in
    let low = c.extended.result.0 in
    let high = c.extended.result.1 in
    let fits : FitsSigned w64 key = search rules in
    let back = to_z-of_z w64 key fits in
    subst (λ (row : Option ℤ). AreKeyExtremes test (keys ++ row ∷ []) low high) (sym c.in-Some.is)
    (ends_next test keys c.args.found key low high known (ap test (sym back) ∙ sym c.test.ensures ∙ c.if-test.true)
    (subst (λ (k : ℤ). c.args.found ≡ None → (low ≡ k) × (high ≡ k)) back c.extended.ensures.first)
    (subst (λ (k : ℤ). IfSome c.args.found (λ ends. IsExtendedBy ends.0 ends.1 k low high)) back c.extended.ensures.next))

pub returns-in-Some-clause-fits : goal.returns-in-Some-clause-fits
returns-in-Some-clause-fits g c = λ format known in_format.
    let key = c.in-Some.key in
    let low = c.extended.result.0 in
    let high = c.extended.result.1 in
    let fits : FitsSigned w64 key = search rules in
    let back = to_z-of_z w64 key fits in
    keys_fit format c.args.found key low high known (subst (λ (row : Option ℤ). IfSome row (IsKey format)) c.in-Some.is in_format)
    (subst (λ (k : ℤ). c.args.found ≡ None → (low ≡ k) × (high ≡ k)) back c.extended.ensures.first)
    (subst (λ (k : ℤ). IfSome c.args.found (λ ends. IsExtendedBy ends.0 ends.1 k low high)) back c.extended.ensures.next)

pub returns-in_default-clause-ends : goal.returns-in_default-clause-ends
returns-in_default-clause-ends g c = λ keys known.
    let test = g.T.KeyTest.passes c.args.test.now in
    let key = c.in-Some.key in
    let fits : FitsSigned w64 key = search rules in
    let failed : test key ≡ false = ap test (sym (to_z-of_z w64 key fits)) ∙ sym c.test.ensures ∙ c.if-test.false in
    let fails : ¬ (test key ≡ true) = λ passes. true≢false (sym passes ∙ failed) in
    ends_same test keys c.args.found c.args.key known (subst (λ (row : Option ℤ). IfSome row (λ k. ¬ (test k ≡ true))) (sym c.in-Some.is) fails)

pub returns-in_default-2-clause-ends : goal.returns-in_default-2-clause-ends
returns-in_default-2-clause-ends g c = λ keys known.
    let test = g.T.KeyTest.passes c.args.test.now in
    ends_same test keys c.args.found c.args.key known (subst (λ (row : Option ℤ). IfSome row (λ k. ¬ (test k ≡ true))) (sym c.in_default.is) tt)
