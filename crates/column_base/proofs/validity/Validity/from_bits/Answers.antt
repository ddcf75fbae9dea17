use Rattle.std.proofs.Common.{◌≡◌, List, Bool, length, false, refl, sym, subst, arith}
use Rattle.std.specs.Prelude.{All}
use Rattle.std.proofs.lemmas.List.Elements.{All-replicate}
use Rattle.std.proofs.lemmas.List.Sums.{count_by-le-length}
use Rattle.column_base.proofs.BitLists.{all_set, none_set, All-true, Contains-true, Contains-false, count_by-all_true, count_by-all_false}
use Rattle.column_base.proofs.ValidityRows.{none_not_all}
use Rattle.column_base.proofs.validity.Validity.from_bits.Goals as goal

pub returns-then-valid-len-clause-flags : goal.returns-then-valid-len-clause-flags
returns-then-valid-len-clause-flags g c = all_set c.args.bits (omega arith)

pub returns-then-valid-len-clause-all_valid : goal.returns-then-valid-len-clause-all_valid
returns-then-valid-len-clause-all_valid g c = (λ _. All-true c.args.bits (omega arith), λ _. refl)

pub returns-then-valid-eq0-clause-flags : goal.returns-then-valid-eq0-clause-flags
returns-then-valid-eq0-clause-flags g c = none_set c.args.bits (omega arith)

pub returns-else-valid-eq0-clause-normal : goal.returns-else-valid-eq0-clause-normal
returns-else-valid-eq0-clause-normal g c =
    (Contains-true c.args.bits (omega arith), Contains-false c.args.bits (omega (arith, count_by-le-length (λ b. b) c.args.bits)))

pub returns-else-valid-eq0-clause-all_valid : goal.returns-else-valid-eq0-clause-all_valid
returns-else-valid-eq0-clause-all_valid g c =
    (λ (e : _). cc, λ all. absurd (omega (arith, count_by-all_true c.args.bits all)))

pub returns-else-valid-eq0-clause-all_null : goal.returns-else-valid-eq0-clause-all_null
returns-else-valid-eq0-clause-all_null g c =
    (λ (e : _). cc, λ all. absurd (omega (arith, count_by-all_false c.args.bits all.1)))

pub returns-then-valid-len-clause-all_null : goal.returns-then-valid-len-clause-all_null
returns-then-valid-len-clause-all_null g c =
    (λ same. absurd (none_not_all same), λ all. absurd (omega (arith, all.0, count_by-all_false c.args.bits all.1)))

pub returns-then-valid-eq0-clause-all_valid : goal.returns-then-valid-eq0-clause-all_valid
returns-then-valid-eq0-clause-all_valid g c =
    (λ same. absurd (none_not_all (sym same)), λ all. absurd (omega (arith, count_by-all_true c.args.bits all)))

pub returns-then-valid-eq0-clause-all_null : goal.returns-then-valid-eq0-clause-all_null
returns-then-valid-eq0-clause-all_null g c =
    let all = All-replicate (λ (bit : Bool). bit ≡ false) (length c.args.bits) false refl in
    (λ _. (omega arith, subst (λ (bits : List Bool). All (λ bit. bit ≡ false) bits) (none_set c.args.bits (omega arith)) all), λ _. refl)

pub returns-else-valid-eq0-clause-flags : goal.returns-else-valid-eq0-clause-flags
returns-else-valid-eq0-clause-flags g c = refl

pub returns-else-valid-eq0-clause-fits : goal.returns-else-valid-eq0-clause-fits
returns-else-valid-eq0-clause-fits g c = refl

pub returns-then-begins_mixed-clause-normal : goal.returns-then-begins_mixed-clause-normal
returns-then-begins_mixed-clause-normal g c =
    (Contains-true c.args.bits (c.begins_mixed.ensures.some c.if-begins_mixed.true), Contains-false c.args.bits (c.begins_mixed.ensures.not_all c.if-begins_mixed.true))

pub returns-then-begins_mixed-clause-all_valid : goal.returns-then-begins_mixed-clause-all_valid
returns-then-begins_mixed-clause-all_valid g c =
    (λ (e : _). cc, λ all. absurd (omega (arith, c.begins_mixed.ensures.not_all c.if-begins_mixed.true, count_by-all_true c.args.bits all)))

pub returns-then-begins_mixed-clause-all_null : goal.returns-then-begins_mixed-clause-all_null
returns-then-begins_mixed-clause-all_null g c =
    (λ (e : _). cc, λ all. absurd (omega (arith, c.begins_mixed.ensures.some c.if-begins_mixed.true, count_by-all_false c.args.bits all.1)))
