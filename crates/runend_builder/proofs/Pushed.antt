-- One end more.
use Rattle.std.proofs.Common.{◌≡◌, ◌∙◌, ◌+◌, ◌<◌, ℕ, zero, suc, List, [], ◌∷◌, ◌++◌, length, map, take, refl, sym, ap, append_assoc, arith, get_or}
use Rattle.std.proofs.lemmas.List.{map-append, take_more}
use Rattle.runend_builder.specs.Encodings.{behind}

-- the end that is stored at a place
pub mapped_at : {X : Type 0} (f : X → ℕ) (xs : List X) (k : ℕ) (x : X) → k < length xs → x ≡ get_or xs k x → get_or (map f xs) k 0 ≡ f x
mapped_at f [] k x within here = absurd (omega arith)
mapped_at f (y ∷ ys) zero x within here = ap f (sym here)
mapped_at f (y ∷ ys) (suc k) x within here = mapped_at f ys k x (omega arith) here

pub pushed_next : {X : Type 0} (f : X → ℕ) (old now next : List ℕ) (count k end : ℕ) (part : List X) (x : X) → k < length part → x ≡ get_or part k x → end ≡ f x
    → now ≡ old ++ behind count (map f (take k part)) → next ≡ now ++ (count + end) ∷ [] → next ≡ old ++ behind count (map f (take (k + 1) part))
pushed_next {X} f old now next count k end part x within here same before pushed =
    let more : take (k + 1) part ≡ take k part ++ x ∷ [] = take_more part k x within ∙ ap (λ (y : X). take k part ++ y ∷ []) (sym here) in
    let mapped : behind count (map f (take (k + 1) part)) ≡ behind count (map f (take k part)) ++ (count + f x) ∷ [] =
    ap (λ (ys : List X). behind count (map f ys)) more ∙ ap (behind count) (map-append f (take k part) (x ∷ [])) ∙ map-append (λ (n : ℕ). count + n) (map f (take k part)) (f x ∷ []) in
    pushed ∙ ap (λ (ends : List ℕ). ends ++ (count + end) ∷ []) before ∙ append_assoc old (behind count (map f (take k part))) ((count + end) ∷ [])
    ∙ ap (λ (n : ℕ). old ++ (behind count (map f (take k part)) ++ (count + n) ∷ [])) same
    ∙ ap (λ (ends : List ℕ). old ++ ends) (sym mapped)
