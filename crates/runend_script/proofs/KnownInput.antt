-- Known bytes that are read in two goes.
use Rattle.std.proofs.Common.{◌++◌, [], ℕ, List, take, refl, ap, ◌∙◌, append_assoc}
use Rattle.std.specs.Prelude.{Option, Some, None}
use Rattle.std.specs.Io.KnownBytes.{Consumes}

-- before the first read nothing is consumed
pub consumes_none : (before : Option (List ℕ)) → Consumes before before []
consumes_none None = tt
consumes_none (Some bytes) = refl

-- one read after another
pub consumes_more : (before between after : Option (List ℕ)) (xs ys : List ℕ) → Consumes before between xs → Consumes between after ys → Consumes before after (xs ++ ys)
consumes_more None between after xs ys first second = tt
consumes_more (Some us) None after xs ys first second = absurd first
consumes_more (Some us) (Some vs) None xs ys first second = absurd second
consumes_more (Some us) (Some vs) (Some ws) xs ys first second = rw append_assoc (first ∙ ap (λ rest. xs ++ rest) second)

-- a last read that gives no byte
pub consumes_end : (before between after : Option (List ℕ)) (xs ys : List ℕ) → Consumes before between xs → Consumes between after (take 0 ys) → Consumes before after xs
consumes_end None between after xs ys first second = tt
consumes_end (Some us) None after xs ys first second = absurd first
consumes_end (Some us) (Some vs) None xs ys first second = absurd second
consumes_end (Some us) (Some vs) (Some ws) xs ys first second = first ∙ ap (λ rest. xs ++ rest) second
