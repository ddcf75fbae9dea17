use Rattle.std.proofs.Common.{◌≡◌, ap, ◌∙◌, sym, arith, List, ℕ, ℤ, ◌++◌, [], ◌∷◌}
use Rattle.std.proofs.lemmas.Int.{to_z-of_z}
use Rattle.std.proofs.lemmas.List.{append-nil, nil_from_length}
use Rattle.std.proofs.lemmas.List.Elements.{All-push, All-nil, All-same}
use Rattle.std.specs.Int.{w128}
use Rattle.std.specs.Int.RustNames.{FitsSigned}
use Rattle.column_fields.specs.DecimalBytes.{decimals_bytes}
use Rattle.column_fields.proofs.DecimalLaws.{load_step, decimals_none}
use Rattle.column_fields.proofs.decimals.load_decimals.Goals as goal

pub loop-row-init : goal.loop-row-init
loop-row-init g c = record {
  shows = ap (λ ns. decimals_bytes ns ++ c.args.bytes.now) c.in_ok-numbers.ensures.items ∙ ap (λ (b : List ℕ). b ++ c.args.bytes.now) decimals_none;
  left = omega (arith, c.requires);
  len = c.in_ok-numbers.ensures.len;
  room = c.in_ok-numbers.ensures.exact;
  fits = All-same (λ n. FitsSigned w128 n) _ _ c.in_ok-numbers.ensures.items (All-nil (λ n. FitsSigned w128 n));
}

pub loop-row-preserved : goal.loop-row-preserved
loop-row-preserved g c =
    let h = c.loop-row.invariant in
    let front : List ℤ = c.loop-row.numbers.items in
    let number : ℤ = c.load_decimal.result in
    let more : List ℤ = c.push_reserved.new.self.items in
    let pushed : more ≡ front ++ number ∷ [] = c.push_reserved.ensures.items ∙ ap (λ (n : ℤ). front ++ n ∷ []) (to_z-of_z w128 number c.load_decimal.ensures.fits) in
    record {
      shows = load_step c.args.bytes.now c.loop-row.rest.now c.split_at.result.0.now c.split_at.result.1.now front more number h.shows c.split_at.ensures.front c.split_at.ensures.back c.load_decimal.ensures.shows pushed;
      left = omega (arith, h.left, c.split_at.ensures.back_len);
      len = omega (arith, c.push_reserved.ensures.len, h.len);
      room = c.push_reserved.ensures.capacity ∙ h.room;
      fits = All-same (λ n. FitsSigned w128 n) _ _ pushed (All-push (λ n. FitsSigned w128 n) front number h.fits c.load_decimal.ensures.fits);
    }

pub returns-clause-shows : goal.returns-clause-shows
returns-clause-shows g c =
    let h = c.loop-row.invariant in
    let none : c.loop-row.rest.now ≡ [] = nil_from_length _ (omega (arith, h.left)) in
    sym (append-nil _) ∙ ap (λ (b : List ℕ). decimals_bytes c.loop-row.numbers.items ++ b) (sym none) ∙ h.shows
