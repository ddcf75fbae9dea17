-- The flags of rows that a decoder has so far, in bits that start all true: those of runs of null are cleared.
use Rattle.std.proofs.Common.{◌≡◌, ℕ, zero, suc, ◌+◌, ◌-◌, ◌<◌, ◌≤◌, List, [], ◌++◌, Bool, true, false, Some, length, min, replicate, slice_index, take, drop, refl, sym, subst, ◌∙◌, ap, arith, length-append}
use Rattle.std.proofs.lemmas.List.{length-replicate, append_assoc, append-nil, drop-replicate, replicate-append-replicate}
use Rattle.std.proofs.Math.Seq.{take-append_seam, drop-append-add}
use Rattle.std.specs.List.{slice_get}
use Rattle.runend_windows.specs.Cover.{Covers}
use Rattle.runend_windows.specs.Window.{IsWindow}
use Rattle.runend_windows.proofs.Decoded.{Decoded, Decoded-none, Decoded-next, Decoded-all, reached, reached-le}

-- the flags of the rows of the first runs, and true for each later row
pub record Marked (ends : List ℕ) (marks : List Bool) (offset count runs : ℕ) (bits : List Bool) : Type 0 where
  pub rows : List Bool
  pub decoded : Decoded ends marks offset count runs rows
  pub rest : bits ≡ rows ++ replicate (count - length rows) true

-- the runs reach no further than the last row
reached-within : (ends : List ℕ) (offset count runs : ℕ) → reached ends offset count runs ≤ count
reached-within ends offset count zero = omega arith
reached-within ends offset count (suc run) = omega arith

-- there is a bit for each row
pub Marked-length : (ends : List ℕ) (marks : List Bool) (offset count runs : ℕ) (bits : List Bool) → Marked ends marks offset count runs bits → length bits ≡ count
Marked-length ends marks offset count runs bits m =
    let within = reached-within ends offset count runs in
    let counted = m.decoded.counted in
    let long = length-append m.rows (replicate (count - length m.rows) true) in
    let added = length-replicate (count - length m.rows) true in
    ap length m.rest ∙ omega arith

-- before the first run each bit is true
pub Marked-none : (ends : List ℕ) (marks : List Bool) (offset count : ℕ) → Marked ends marks offset count 0 (replicate count true)
Marked-none ends marks offset count =
    let all : count ≡ count - 0 = omega arith in
    record { rows = []; decoded = Decoded-none ends marks offset count; rest = ap (λ (n : ℕ). replicate n true) all }

-- rows of one run more, of the bits that follow
rest-next : (rows : List Bool) (k count : ℕ) (b : Bool) → length rows + k ≤ count
    → rows ++ (replicate k b ++ replicate (count - length rows - k) true) ≡ (rows ++ replicate k b) ++ replicate (count - length (rows ++ replicate k b)) true
rest-next rows k count b within =
    let long = length-append rows (replicate k b) in
    let added = length-replicate k b in
    let left : count - length rows - k ≡ count - length (rows ++ replicate k b) = omega arith in
    sym (append_assoc rows (replicate k b) (replicate (count - length rows - k) true)) ∙ ap (λ (n : ℕ). (rows ++ replicate k b) ++ replicate n true) left

-- a valid run leaves the bits
pub Marked-valid : (ends : List ℕ) (marks : List Bool) (offset count run : ℕ) (bits : List Bool) → IsWindow ends offset count → run < length ends → slice_get marks run ≡ Some true
    → Marked ends marks offset count run bits → Marked ends marks offset count (run + 1) bits
Marked-valid ends marks offset count run bits window within here m =
    let rows = m.rows in
    let k = min (slice_index ends run - offset) count - length rows in
    let order = reached-le ends offset count run window.increasing within in
    let counted = m.decoded.counted in
    let fits : length rows + k ≤ count = omega arith in
    let whole : count - length rows ≡ k + (count - length rows - k) = omega arith in
    record {
      rows = rows ++ replicate k true;
      decoded = Decoded-next ends marks offset count run rows true k window within here refl m.decoded;
      rest = m.rest ∙ ap (λ (n : ℕ). rows ++ replicate n true) whole
          ∙ ap (λ (l : List Bool). rows ++ l) (sym (replicate-append-replicate k (count - length rows - k) true)) ∙ rest-next rows k count true fits;
    }

-- those of a run of null are cleared
pub Marked-null : (ends : List ℕ) (marks : List Bool) (offset count run : ℕ) (bits : List Bool) (start stop : ℕ) → IsWindow ends offset count → run < length ends → slice_get marks run ≡ Some false
    → start ≡ reached ends offset count run → stop ≡ min (slice_index ends run - offset) count
    → Marked ends marks offset count run bits → Marked ends marks offset count (run + 1) (take start bits ++ (replicate (stop - start) false ++ drop stop bits))
Marked-null ends marks offset count run bits start stop window within here from to m =
    let rows = m.rows in
    let k = min (slice_index ends run - offset) count - length rows in
    let order = reached-le ends offset count run window.increasing within in
    let counted = m.decoded.counted in
    let fits : length rows + k ≤ count = omega arith in
    let at : start ≡ length rows = omega arith in
    let past : stop ≡ length rows + k = omega arith in
    let amount : stop - start ≡ k = omega arith in
    let behind = replicate (count - length rows) true in
    let front : take start bits ≡ rows = ap (λ (n : ℕ). take n bits) at ∙ ap (take (length rows)) m.rest ∙ take-append_seam rows behind in
    let back : drop stop bits ≡ replicate (count - length rows - k) true =
    ap (λ (n : ℕ). drop n bits) past ∙ ap (drop (length rows + k)) m.rest ∙ drop-append-add rows behind k ∙ drop-replicate k (count - length rows) true in
    record {
      rows = rows ++ replicate k false;
      decoded = Decoded-next ends marks offset count run rows false k window within here refl m.decoded;
      rest = ap (λ (l : List Bool). l ++ (replicate (stop - start) false ++ drop stop bits)) front
          ∙ ap (λ (n : ℕ). rows ++ (replicate n false ++ drop stop bits)) amount
          ∙ ap (λ (l : List Bool). rows ++ (replicate k false ++ l)) back ∙ rest-next rows k count false fits;
    }

-- past the last run the flags are covered
pub Marked-all : (ends : List ℕ) (marks : List Bool) (offset count runs : ℕ) (bits : List Bool) → IsWindow ends offset count → length marks ≡ length ends → runs ≡ length ends
    → Marked ends marks offset count runs bits → Covers bits ends marks offset count
Marked-all ends marks offset count runs bits window paired all m =
    let cover = Decoded-all ends marks offset count runs m.rows window paired all m.decoded in
    let counted = cover.counted in
    let none : count - length m.rows ≡ 0 = omega arith in
    let same : bits ≡ m.rows = m.rest ∙ ap (λ (n : ℕ). m.rows ++ replicate n true) none ∙ append-nil m.rows in
    subst (λ (b : List Bool). Covers b ends marks offset count) (sym same) cover
