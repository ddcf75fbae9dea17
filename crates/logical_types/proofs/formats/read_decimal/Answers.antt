use Rattle.std.proofs.Common.{Some, None, ◌<◌, ◌≡◌, subst, lit<, arith, rules}
use Rattle.std.proofs.lemmas.Str.Pattern.{split_parts}
use Rattle.column_base.specs.declared.dtype.DecimalDType.{DecimalDType}
use Rattle.logical_types.specs.declared.types.DecimalWidth.{DecimalWidth}
use Rattle.logical_types.specs.Formats.{SpellsDecimal, most_digits}
use Rattle.logical_types.specs.Numbers.{IsNumberOf}
use Rattle.logical_types.proofs.ReadDecimals.{if_none, no_comma, no_digits, no_places, no_precision, no_room, no_scale}
use Rattle.logical_types.proofs.formats.read_decimal.Goals as goal
use Rattle.logical_types.proofs.formats.read_decimal.Goals.{then-precision-eq0-via-then-precision-eq0, then-precision-eq0-via-else-precision-eq0+then-precision-most_digits}

pub returns-in_err-digits-clause-none : goal.returns-in_err-digits-clause-none
returns-in_err-digits-clause-none c =
    if_none _ _ (no_comma c.args.word.now (split_parts 44 c.args.word.now None c.in_err-digits.ensures.cases (lit< tt)))

pub returns-in_err-places-clause-none : goal.returns-in_err-places-clause-none
returns-in_err-places-clause-none c =
    let parts = split_parts 44 c.args.word.now (Some (c.in_ok-digits.digits, c.in_ok-digits.rest)) c.in_ok-digits.ensures.cases (lit< tt) in
    let unspelled : (d : DecimalDType) (w : DecimalWidth) → SpellsDecimal c.args.word.now d w → ⊥ = λ d w s. no_places c.args.word.now c.in_ok-digits.digits.now c.in_ok-digits.rest.now parts.0 parts.1 d w s c.in_err-places.ensures.none in
    if_none _ _ unspelled

pub returns-in_err-precision-clause-none : goal.returns-in_err-precision-clause-none
returns-in_err-precision-clause-none c =
    let parts = split_parts 44 c.args.word.now (Some (c.in_ok-digits.digits, c.in_ok-digits.rest)) c.in_ok-digits.ensures.cases (lit< tt) in
    let unspelled : (d : DecimalDType) (w : DecimalWidth) → SpellsDecimal c.args.word.now d w → ⊥ = λ d w s. no_precision c.args.word.now c.in_ok-digits.digits.now c.in_ok-digits.rest.now parts.0 parts.1 d w s c.in_err-precision.ensures in
    if_none _ _ unspelled

pub returns-in_err-scale-clause-none : goal.returns-in_err-scale-clause-none
returns-in_err-scale-clause-none c =
    let parts = split_parts 44 c.args.word.now (Some (c.in_ok-digits.digits, c.in_ok-digits.rest)) c.in_ok-digits.ensures.cases (lit< tt) in
    let found = c.in_ok-places.ensures.found in
    let unspelled : (d : DecimalDType) (w : DecimalWidth) → SpellsDecimal c.args.word.now d w → ⊥ = λ d w s. no_scale c.args.word.now c.in_ok-digits.digits.now c.in_ok-digits.rest.now parts.0 parts.1 d w s c.in_ok-places.places.now found.0 c.in_ok-places.width found.1 c.in_ok-places.ensures.before found.2 c.in_err-scale.ensures in
    if_none _ _ unspelled

pub returns-then-precision-eq0-clause-none : goal.returns-then-precision-eq0-clause-none
returns-then-precision-eq0-clause-none c d w s =
    let parts = split_parts 44 c.args.word.now (Some (c.in_ok-digits.digits, c.in_ok-digits.rest)) c.in_ok-digits.ensures.cases (lit< tt) in
    let found = c.in_ok-places.ensures.found in
    let is = c.in_ok-precision.ensures in
    elim c.then-precision-eq0.branch [
      | then-precision-eq0-via-then-precision-eq0 b ↦
          let zero : c.in_ok-precision.precision ≡ 0 = search rules in
          no_digits c.args.word.now c.in_ok-digits.digits.now c.in_ok-digits.rest.now parts.0 parts.1 d w s c.in_ok-places.places.now found.0 c.in_ok-places.width found.1 c.in_ok-places.ensures.before found.2 (subst (λ n. IsNumberOf c.in_ok-digits.digits.now n) zero is)
      | then-precision-eq0-via-else-precision-eq0+then-precision-most_digits b ↦
          let past : most_digits c.in_ok-places.width < c.in_ok-precision.precision = grind arith in
          no_room c.args.word.now c.in_ok-digits.digits.now c.in_ok-digits.rest.now parts.0 parts.1 d w s c.in_ok-places.places.now found.0 c.in_ok-places.width found.1 c.in_ok-places.ensures.before found.2 c.in_ok-precision.precision is past
    ]
