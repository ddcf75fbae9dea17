-- Buffers of bits that are written run by run: what is written, and the background after it.
use Rattle.std.proofs.Common.{◌≡◌, ◌+◌, ◌-◌, ◌<◌, ◌≤◌, ◌∙◌, ℕ, zero, suc, List, [], ◌∷◌, ◌++◌, Bool, true, false, Some, cond, length, take, drop, refl, sym, ap, arith, rules, add-one, length-append}
use Rattle.std.specs.Prelude.{◌*◌, ◌↔◌, IsTrue, count_by, replicate, unwrap_or}
use Rattle.std.specs.List.{slice_get}
use Rattle.std.proofs.Math.Bool.{beq, not}
use Rattle.std.proofs.Math.Seq.{take-append_seam, drop-append_seam, take-append-add, drop-append-add, take-length, drop-length}
use Rattle.std.proofs.lemmas.List.{length-map, length-take-le, length-replicate, take-append-drop, drop-replicate, take-replicate, drop-drop, drop_all}
use Rattle.std.proofs.lemmas.List.Sums.{sum_by-cons}
use Rattle.column_core.specs.Optionals.{optionals}
use Rattle.column_core.proofs.OptionalRows.{length-optionals}
use Rattle.runend_windows.specs.BitRunsForm.{IsOverBackground, background_of}
use Rattle.runend_windows.specs.Encoding.{blanked}

-- the buffer with copies of a bit written up to `end`
pub record Extended (old bits : List Bool) (written end : ℕ) (bit background : Bool) : Type 0 where
  pub over : IsOverBackground bits end background
  pub rows : take end bits ≡ take written old ++ replicate (end - length (take written old)) bit
  pub left : drop end bits ≡ drop (end - length (take written old)) (drop written old)

-- nothing is after the last bit
over-all : (bits : List Bool) (end : ℕ) (background : Bool) → length bits ≡ end → IsOverBackground bits end background
over-all bits end background long =
    let none : length bits - end ≡ 0 = omega arith in
    record {
      within = omega arith;
      behind = ap (λ n. drop n bits) (sym long) ∙ drop-length bits ∙ ap (λ n. replicate n background) (sym none);
    }

take-all : (bits : List Bool) (end : ℕ) → length bits ≡ end → take end bits ≡ bits
take-all bits end long = ap (λ n. take n bits) (sym long) ∙ take-length bits

-- copies that reach up to `end`
length-copies : (old : List Bool) (written end : ℕ) (bit : Bool) → written ≤ length old → written < end
    → (length (take written old) ≡ written) × (length (take written old ++ replicate (end - length (take written old)) bit) ≡ end)
length-copies old written end bit within more =
    let rows = take written old in
    let long = length-take-le written old within in
    let added = length-replicate (end - length rows) bit in
    (long, omega (arith, length-append rows (replicate (end - length rows) bit)))

-- what is left after a later place
left-later : (old : List Bool) (written end : ℕ) → written ≤ length old → written < end → drop end old ≡ drop (end - length (take written old)) (drop written old)
left-later old written end within more =
    let long = length-take-le written old within in
    let place : written + (end - length (take written old)) ≡ end = omega arith in
    ap (λ n. drop n old) (sym place) ∙ sym (drop-drop (end - length (take written old)) written old)

-- only the written bits, and the copies appended
pub Extended-append : (old bits : List Bool) (written end : ℕ) (bit background : Bool) → IsOverBackground old written background → written < end → length old < end
    → bits ≡ take written old ++ replicate (end - written) bit → Extended old bits written end bit background
Extended-append old bits written end bit background over more past is =
    let rows = take written old in
    let longs = length-copies old written end bit over.within more in
    let same : bits ≡ rows ++ replicate (end - length rows) bit = is ∙ ap (λ n. rows ++ replicate (end - n) bit) (sym longs.0) in
    let long : length bits ≡ end = ap length same ∙ longs.1 in
    let none : drop end bits ≡ drop end old = drop_all end bits (omega arith) ∙ sym (drop_all end old (omega arith)) in
    record {
      over = over-all bits end background long;
      rows = take-all bits end long ∙ same;
      left = none ∙ left-later old written end over.within more;
    }

-- the buffer is what is written and the background
split : (bits : List Bool) (written : ℕ) (background : Bool) → IsOverBackground bits written background → bits ≡ take written bits ++ replicate (length bits - written) background
split bits written background over = sym (take-append-drop written bits) ∙ ap (λ rest. take written bits ++ rest) over.behind

-- a later place has the background after it too
behind-later : (bits : List Bool) (written end : ℕ) (background : Bool) → IsOverBackground bits written background → written < end → end ≤ length bits
    → drop end bits ≡ replicate (length bits - end) background
behind-later bits written end background over more within =
    let rows = take written bits in
    let n = length bits - written in
    let k = end - written in
    let long = length-take-le written bits over.within in
    let place : end ≡ length rows + k = omega arith in
    let left : n - k ≡ length bits - end = omega arith in
    ap (λ bs. drop end bs) (split bits written background over)
    ∙ ap (λ m. drop m (rows ++ replicate n background)) place
    ∙ drop-append-add rows (replicate n background) k
    ∙ drop-replicate k n background
    ∙ ap (λ m. replicate m background) left

-- a run of the background is there already
pub Extended-kept : (bits : List Bool) (written end : ℕ) (bit background : Bool) → IsOverBackground bits written background → written < end → end ≤ length bits → bit ≡ background
    → Extended bits bits written end bit background
Extended-kept bits written end bit background over more within same =
    let rows = take written bits in
    let n = length bits - written in
    let k = end - length rows in
    let long = length-take-le written bits over.within in
    let place : end ≡ length rows + k = omega arith in
    let shown : take end bits ≡ rows ++ replicate k background =
    ap (λ bs. take end bs) (split bits written background over)
    ∙ ap (λ m. take m (rows ++ replicate n background)) place
    ∙ take-append-add rows (replicate n background) k
    ∙ ap (λ rest. rows ++ rest) (take-replicate k n background (omega arith)) in
    record {
      over = record { within = within; behind = behind-later bits written end background over more within };
      rows = shown ∙ ap (λ b. rows ++ replicate k b) (sym same);
      left = left-later bits written end over.within more;
    }

-- a bit that does not differ from the other is the other
pub same-bit : (x y : Bool) → not (beq x y) ≡ false → x ≡ y
same-bit true true h = refl
same-bit true false h = cc
same-bit false true h = cc
same-bit false false h = refl

append_assoc : (xs ys zs : List Bool) → xs ++ (ys ++ zs) ≡ (xs ++ ys) ++ zs
append_assoc [] ys zs = refl
append_assoc (x ∷ xs) ys zs = ap (λ rest. x ∷ rest) (append_assoc xs ys zs)

-- a run of the other bit is filled in
pub Extended-filled : (old bits : List Bool) (written end : ℕ) (bit background : Bool) → IsOverBackground old written background → written < end → end ≤ length old
    → bits ≡ take written old ++ (replicate (end - written) bit ++ drop end old) → Extended old bits written end bit background
Extended-filled old bits written end bit background over more within is =
    let rows = take written old in
    let longs = length-copies old written end bit over.within more in
    let front = rows ++ replicate (end - length rows) bit in
    let rest = drop end old in
    let same : bits ≡ front ++ rest = is ∙ append_assoc rows (replicate (end - written) bit) rest ∙ ap (λ n. (rows ++ replicate (end - n) bit) ++ rest) (sym longs.0) in
    let behind = behind-later old written end background over more within in
    let left : length rest ≡ length old - end = ap length behind ∙ length-replicate (length old - end) background in
    let all : length bits ≡ end + (length old - end) = ap length same ∙ omega (arith, length-append front rest, longs.1) in
    let seam : take end bits ≡ front = ap (λ bs. take end bs) same ∙ ap (λ n. take n (front ++ rest)) (sym longs.1) ∙ take-append_seam front rest in
    let past : drop end bits ≡ rest = ap (λ bs. drop end bs) same ∙ ap (λ n. drop n (front ++ rest)) (sym longs.1) ∙ drop-append_seam front rest in
    let size : length old - end ≡ length bits - end = omega arith in
    record {
      over = record { within = omega arith; behind = past ∙ behind ∙ ap (λ n. replicate n background) size };
      rows = seam;
      left = past ∙ left-later old written end over.within more;
    }

-- one bit more is counted if it is true
count-cons : (x : Bool) (bits : List Bool) → count_by (λ b. b) (x ∷ bits) ≡ cond x 1 0 + count_by (λ b. b) bits
count-cons x bits = sum_by-cons (λ (b : Bool). cond b 1 0) x bits

count-suc : (bits : List Bool) (k : ℕ) (b : Bool) → slice_get bits k ≡ Some b → count_by (λ b. b) (take (suc k) bits) ≡ count_by (λ b. b) (take k bits) + cond b 1 0
count-suc [] k b here = cc
count-suc (x ∷ bits) zero b here =
    let same : b ≡ x = cc in
    let first : count_by (λ b. b) (take (suc zero) (x ∷ bits)) ≡ cond x 1 0 + 0 = count-cons x [] in
    let none : count_by (λ b. b) (take zero (x ∷ bits)) ≡ 0 = refl in
    let shown : cond {A = ℕ} b 1 0 ≡ cond {A = ℕ} x 1 0 = ap (λ (y : Bool). cond {A = ℕ} y 1 0) same in
    omega arith
count-suc (x ∷ bits) (suc k) b here =
    let rest = count-suc bits k b here in
    let more : count_by (λ b. b) (take (suc (suc k)) (x ∷ bits)) ≡ cond x 1 0 + count_by (λ b. b) (take (suc k) bits) = count-cons x (take (suc k) bits) in
    let less : count_by (λ b. b) (take (suc k) (x ∷ bits)) ≡ cond x 1 0 + count_by (λ b. b) (take k bits) = count-cons x (take k bits) in
    omega arith

pub count-next : (bits : List Bool) (k : ℕ) (b : Bool) → slice_get bits k ≡ Some b → count_by (λ b. b) (take (k + 1) bits) ≡ count_by (λ b. b) (take k bits) + cond b 1 0
count-next bits k b here = rw add-one (count-suc bits k b here)

-- all bits are counted past the last
pub count-all : (bits marks : List Bool) (k : ℕ) → length marks ≡ length bits → k ≡ length bits
    → count_by (λ b. b) (take k (blanked false (optionals bits marks))) ≡ count_by (λ b. b) (blanked false (optionals bits marks))
count-all bits marks k paired all =
    let stored = blanked false (optionals bits marks) in
    let long : length stored ≡ length bits = length-map (optionals bits marks) (λ row. unwrap_or row false) ∙ length-optionals bits marks paired in
    ap (λ bs. count_by (λ b. b) bs) (take-all stored k (long ∙ sym all))

-- where each mark is true the bits are stored as they are, and where none is, all bits are false
blanked-all : (bits : List Bool) → blanked false (optionals bits (replicate (length bits) true)) ≡ bits
blanked-all [] = refl
blanked-all (x ∷ bits) = ap (λ rest. x ∷ rest) (blanked-all bits)

count-none : (bits : List Bool) → count_by (λ b. b) (blanked false (optionals bits (replicate (length bits) false))) ≡ 0
count-none [] = refl
count-none (x ∷ bits) =
    let stored = blanked false (optionals bits (replicate (length bits) false)) in
    let rest : 0 + count_by (λ b. b) stored ≡ 0 = omega (arith, count-none bits) in
    count-cons false stored ∙ rest

-- the marks alike, one for each bit
marks-alike : (bits marks : List Bool) (n : ℕ) (mark : Bool) → marks ≡ replicate n mark → length marks ≡ length bits → marks ≡ replicate (length bits) mark
marks-alike bits marks n mark alike paired =
    let same : n ≡ length bits = sym (length-replicate n mark) ∙ sym (ap length alike) ∙ paired in
    alike ∙ ap (λ k. replicate k mark) same

pub count-of_valid : (bits marks : List Bool) (n : ℕ) → marks ≡ replicate n true → length marks ≡ length bits
    → count_by (λ b. b) bits ≡ count_by (λ b. b) (blanked false (optionals bits marks))
count-of_valid bits marks n alike paired =
    let same = ap (λ ms. blanked false (optionals bits ms)) (marks-alike bits marks n true alike paired) ∙ blanked-all bits in
    ap (λ bs. count_by (λ b. b) bs) (sym same)

pub count-of_nulls : (bits marks : List Bool) (n : ℕ) → marks ≡ replicate n false → length marks ≡ length bits
    → 0 ≡ count_by (λ b. b) (blanked false (optionals bits marks))
count-of_nulls bits marks n alike paired =
    sym (ap (λ ms. count_by (λ b. b) (blanked false (optionals bits ms))) (marks-alike bits marks n false alike paired) ∙ count-none bits)

-- below the threshold nothing is prefilled
pub background_of-few : (runs : List Bool) (rows threshold : ℕ) → length runs < threshold → background_of runs rows threshold ≡ []
background_of-few runs rows threshold few = search rules

-- from the threshold on the bit of most runs is
pub background_of-most : (runs : List Bool) (rows threshold : ℕ) (bit : Bool) → threshold ≤ length runs → (IsTrue bit ↔ (length runs < 2 * count_by (λ b. b) runs))
    → background_of runs rows threshold ≡ replicate rows bit
background_of-most runs rows threshold bit most is = search rules
