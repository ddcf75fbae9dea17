-- What a hasher is given for runs, one after the other.
use Rattle.std.proofs.Common.{◌≡◌, ℕ, zero, suc, ◌+◌, ◌<◌, List, [], ◌∷◌, ◌++◌, Option, Some, length, take, sym, ◌∙◌, ap, arith, append-nil, append_assoc}
use Rattle.std.specs.Prelude.{fold, slice_get, slice_index}
use Rattle.std.specs.Hash as fed
use Rattle.std.specs.Hash.{HashWrites}
use Rattle.std.specs.Hash.DefaultHasher as sip
use Rattle.std.proofs.lemmas.List.Sums.{fold-append}
use Rattle.column_core.specs.Value.{Value}
use Rattle.runend_windows.proofs.Tiles.{unique_tight_cover}
use Rattle.runend_pairs.specs.Hashes.{row_writes, run_writes, EqualRowsEqualHashes}

-- one more run is given
pub run_writes-next : (ends : List ℕ) (values : List (Option Value)) (k : ℕ) (value : Option Value) → k < length ends → slice_get values k ≡ Some value
    → run_writes (take (suc k) ends) (take (suc k) values) ≡ run_writes (take k ends) (take k values) ++ (fed.u64 (slice_index ends k) ++ row_writes value)
run_writes-next [] values k value within at = absurd (omega arith)
run_writes-next (e ∷ ends) [] k value within at = cc
run_writes-next (e ∷ ends) (v ∷ values) zero value within at =
    let same : v ≡ value = cc in
    rw same (ap (λ (rest : HashWrites). fed.u64 e ++ rest) (append-nil (row_writes value)))
run_writes-next (e ∷ ends) (v ∷ values) (suc k) value within at =
    let rest = run_writes-next ends values k value (omega arith) at in
    let before = run_writes (take k ends) (take k values) in
    let one = fed.u64 (slice_index ends k) ++ row_writes value in
    ap (λ (more : HashWrites). fed.u64 e ++ (row_writes v ++ more)) rest
    ∙ ap (λ (more : HashWrites). fed.u64 e ++ more) (sym (append_assoc (row_writes v) before one))

-- the state of a hasher after it
pub state_next : {S : Type 0} (write : S → List ℕ → S) (initial before ended after : S) (ends : List ℕ) (values : List (Option Value)) (k end : ℕ) (value : Option Value) → k < length ends → slice_get values k ≡ Some value
    → end ≡ slice_index ends k → before ≡ fold write initial (run_writes (take k ends) (take k values)) → ended ≡ fold write before (fed.u64 end) → after ≡ fold write ended (row_writes value)
    → after ≡ fold write initial (run_writes (take (k + 1) ends) (take (k + 1) values))
state_next write initial before ended after ends values k end value within at is was first second =
    let next : k + 1 ≡ suc k = omega arith in
    second
    ∙ ap (λ s. fold write s (row_writes value)) (first ∙ ap (λ (e : ℕ). fold write before (fed.u64 e)) is)
    ∙ sym (fold-append write before (fed.u64 (slice_index ends k)) (row_writes value))
    ∙ ap (λ s. fold write s (fed.u64 (slice_index ends k) ++ row_writes value)) was
    ∙ sym (fold-append write initial (run_writes (take k ends) (take k values)) (fed.u64 (slice_index ends k) ++ row_writes value))
    ∙ ap (fold write initial) (sym (run_writes-next ends values k value within at))
    ∙ ap (λ (n : ℕ). fold write initial (run_writes (take n ends) (take n values))) (sym next)

-- rows have one hash
pub one_hash : EqualRowsEqualHashes
one_hash rows hash other one two =
    let same = unique_tight_cover rows one.ends two.ends one.values two.values one.cover two.cover in
    one.same ∙ ap (λ (ends : List ℕ). sip.finish (fold sip.write sip.initial (run_writes ends one.values))) same.0
    ∙ ap (λ (values : List (Option Value)). sip.finish (fold sip.write sip.initial (run_writes two.ends values))) same.1 ∙ sym two.same
