-- Sizes are read as they are written, and in no other way.
use Rattle.std.proofs.Common.{◌≡◌, ℕ, ◌+◌, ◌^◌, ◌<◌, ◌≤◌, List, [], ◌∷◌, ◌++◌, length, sum, refl, sym, ap, ◌∙◌, arith, append_assoc}
use Rattle.std.proofs.lemmas.List.{append-nil, length-append, length-map, map-append, nil_from_length}
use Rattle.column_core.specs.declared.varbinview.View.{View}
use Rattle.column_fields.specs.Varint.{varint, BeginsWithNoShortest}
use Rattle.column_fields.proofs.VarintForms.{varint_same, varint_some}
use Rattle.column_bytes.specs.Texts.{sizes_bytes, sizes_in, views_from}
use Rattle.column_bytes.specs.TextReading.{AreViewsOf, AreNoViewsOf}
use Rattle.column_bytes.proofs.TextPieces.{sum-cons}

pub sizes_none : sizes_bytes [] ≡ []
unfolding sizes_bytes
sizes_none = refl

pub sizes_cons : (n : ℕ) (ns : List ℕ) → sizes_bytes (n ∷ ns) ≡ varint n ++ sizes_bytes ns
unfolding sizes_bytes
sizes_cons n ns = refl

sizes_push : (ns : List ℕ) (n : ℕ) → sizes_bytes (ns ++ n ∷ []) ≡ sizes_bytes ns ++ varint n
sizes_push [] n = sizes_cons n [] ∙ ap (λ (t : List ℕ). varint n ++ t) sizes_none ∙ append-nil (varint n) ∙ ap (λ (t : List ℕ). t ++ varint n) (sym sizes_none)
sizes_push (m ∷ ns) n =
    sizes_cons m (ns ++ n ∷ []) ∙ ap (λ (t : List ℕ). varint m ++ t) (sizes_push ns n) ∙ sym (append_assoc (varint m) (sizes_bytes ns) (varint n)) ∙ ap (λ (t : List ℕ). t ++ varint n) (sym (sizes_cons m ns))

-- no more sizes than bytes
sizes_long : (sizes : List ℕ) → sum sizes < 2 ^ 64 → length sizes ≤ length (sizes_bytes sizes)
sizes_long [] small = omega arith
sizes_long (n ∷ ns) small =
    let whole = sum-cons n ns in
    omega (arith, ap length (sizes_cons n ns), length-append (varint n) (sizes_bytes ns), varint_some n (omega arith), sizes_long ns (omega arith))

-- sizes whose bytes begin with those of these begin with these
pub record Rest (read sizes rest : List ℕ) : Type 0 where
  pub tail : List ℕ
  pub is : sizes ≡ read ++ tail
  pub rest_is : rest ≡ sizes_bytes tail

rest_of : (read sizes rest : List ℕ) → sum read < 2 ^ 64 → sum sizes < 2 ^ 64 → length read ≤ length sizes → sizes_bytes read ++ rest ≡ sizes_bytes sizes → Rest read sizes rest
rest_of [] sizes rest p q le e = record { tail = sizes; is = refl; rest_is = ap (λ (t : List ℕ). t ++ rest) (sym sizes_none) ∙ e }
rest_of (m ∷ read) [] rest p q le e = absurd (omega arith)
rest_of (m ∷ read) (n ∷ sizes) rest p q le e =
    let parts : varint m ++ (sizes_bytes read ++ rest) ≡ varint n ++ sizes_bytes sizes = sym (append_assoc (varint m) (sizes_bytes read) rest) ∙ ap (λ (t : List ℕ). t ++ rest) (sym (sizes_cons m read)) ∙ e ∙ sizes_cons n sizes in
    let a = sum-cons m read in
    let b = sum-cons n sizes in
    let same = varint_same m n (sizes_bytes read ++ rest) (sizes_bytes sizes) (omega arith) (omega arith) parts in
    let below = rest_of read sizes rest (omega arith) (omega arith) (omega arith) same.1 in
    record { tail = below.tail; is = ap (λ (k : ℕ). k ∷ sizes) (sym same.0) ∙ ap (λ (t : List ℕ). m ∷ t) below.is; rest_is = below.rest_is }

pub sizes_same : (a b : List ℕ) → sum a < 2 ^ 64 → sum b < 2 ^ 64 → length a ≡ length b → sizes_bytes a ≡ sizes_bytes b → a ≡ b
sizes_same a b p q len e =
    let r = rest_of a b [] p q (omega arith) (append-nil (sizes_bytes a) ∙ e) in
    let none : r.tail ≡ [] = nil_from_length r.tail (omega (arith, ap length r.is, length-append a r.tail)) in
    sym (r.is ∙ ap (λ (t : List ℕ). a ++ t) none ∙ append-nil a)

-- ---- the reader

sum-append : (a b : List ℕ) → sum (a ++ b) ≡ sum a + sum b
sum-append [] b = omega arith
sum-append (n ∷ a) b = sum-cons n (a ++ b) ∙ omega (arith, sum-append a b, sum-cons n a)

views_push : (start n : ℕ) (ns : List ℕ) → views_from start (ns ++ n ∷ []) ≡ views_from start ns ++ record { buffer = 0; start = start + sum ns; size = n } ∷ []
views_push start n [] = let at : start ≡ start + 0 = omega arith in ap (λ (k : ℕ). record { buffer = 0; start = k; size = n } ∷ []) at
views_push start n (m ∷ ns) =
    let at : start + m + sum ns ≡ start + sum (m ∷ ns) = omega (arith, sum-cons m ns) in
    ap (λ (t : List View). record { buffer = 0; start = start; size = m } ∷ t) (views_push (start + m) n ns ∙ ap (λ (k : ℕ). views_from (start + m) ns ++ record { buffer = 0; start = k; size = n } ∷ []) at)

-- the views that are read, and the bytes that are left
pub record AreSoFar (bytes rest : List ℕ) (start : ℕ) (views : List View) : Type 0 where
  pub are : views ≡ views_from 0 (sizes_in views)
  pub spelt : bytes ≡ sizes_bytes (sizes_in views) ++ rest
  pub start_is : start ≡ sum (sizes_in views)

pub started : (bytes : List ℕ) (views : List View) → views ≡ [] → AreSoFar bytes bytes 0 views
started bytes views none = rw none (record { are = refl; spelt = ap (λ (t : List ℕ). t ++ bytes) (sym sizes_none); start_is = refl })

pub one_more : (bytes rest after : List ℕ) (start number : ℕ) (views new : List View) → AreSoFar bytes rest start views → rest ≡ varint number ++ after → new ≡ views ++ record { buffer = 0; start = start; size = number } ∷ [] → AreSoFar bytes after (start + number) new
one_more bytes rest after start number views new h r n =
    let sizes : sizes_in new ≡ sizes_in views ++ number ∷ [] = ap sizes_in n ∙ map-append (λ (view : View). view.size) views (record { buffer = 0; start = start; size = number } ∷ []) in
    let at : start ≡ 0 + sum (sizes_in views) = omega (arith, h.start_is) in
    record {
      are = n ∙ ap (λ (t : List View). t ++ record { buffer = 0; start = start; size = number } ∷ []) h.are ∙ ap (λ (k : ℕ). views_from 0 (sizes_in views) ++ record { buffer = 0; start = k; size = number } ∷ []) at ∙ sym (views_push 0 number (sizes_in views)) ∙ ap (views_from 0) (sym sizes);
      spelt = h.spelt ∙ ap (λ (t : List ℕ). sizes_bytes (sizes_in views) ++ t) r ∙ sym (append_assoc (sizes_bytes (sizes_in views)) (varint number) after) ∙ ap (λ (t : List ℕ). t ++ after) (sym (sizes_push (sizes_in views) number) ∙ ap sizes_bytes (sym sizes));
      start_is = omega (arith, h.start_is, ap sum sizes, sum-append (sizes_in views) (number ∷ []), sum-cons number []);
    }

pub all_read : (rows total : ℕ) (bytes rest : List ℕ) (start : ℕ) (views : List View) → AreSoFar bytes rest start views → length views ≡ rows → length rest ≡ 0 → start ≡ total → AreViewsOf rows total bytes views
all_read rows total bytes rest start views h count none last = record {
  are = h.are;
  counted = count;
  summed = sym h.start_is ∙ last;
  spelt = h.spelt ∙ ap (λ (t : List ℕ). sizes_bytes (sizes_in views) ++ t) (nil_from_length rest none) ∙ append-nil (sizes_bytes (sizes_in views));
}

-- what is left of the sizes of each column with these bytes
pub left : (rows total : ℕ) (bytes rest : List ℕ) (start : ℕ) (views : List View) (sizes : List ℕ) → AreSoFar bytes rest start views → length views ≤ rows → start < 2 ^ 64 → total < 2 ^ 64 → length sizes ≡ rows → sum sizes ≡ total → bytes ≡ sizes_bytes sizes → Rest (sizes_in views) sizes rest
left rows total bytes rest start views sizes h le p q count summed e =
    rest_of (sizes_in views) sizes rest (omega (arith, h.start_is)) (omega arith) (omega (arith, length-map views (λ (view : View). view.size))) (sym h.spelt ∙ e)

-- the next of these sizes
record Next (start total : ℕ) (rest : List ℕ) : Type 0 where
  pub size : ℕ
  pub tail : List ℕ
  pub rest_is : rest ≡ varint size ++ sizes_bytes tail
  pub within : start + size ≤ total

next_at : (start total : ℕ) (read tail rest sizes : List ℕ) → sizes ≡ read ++ tail → start ≡ sum read → sum sizes ≡ total → length read < length sizes → rest ≡ sizes_bytes tail → Next start total rest
next_at start total read [] rest sizes is s summed lt r = absurd (omega (arith, ap length is, length-append read []))
next_at start total read (size ∷ tail) rest sizes is s summed lt r = record {
  size = size;
  tail = tail;
  rest_is = r ∙ sizes_cons size tail;
  within = omega (arith, s, summed, ap sum is, sum-append read (size ∷ tail), sum-cons size tail);
}

next : (rows total : ℕ) (bytes rest : List ℕ) (start : ℕ) (views : List View) (sizes : List ℕ) → AreSoFar bytes rest start views → length views < rows → start < 2 ^ 64 → total < 2 ^ 64 → length sizes ≡ rows → sum sizes ≡ total → bytes ≡ sizes_bytes sizes → Next start total rest
next rows total bytes rest start views sizes h lt p q count summed e =
    let l = left rows total bytes rest start views sizes h (omega arith) p q count summed e in
    next_at start total (sizes_in views) l.tail rest sizes l.is h.start_is summed (omega (arith, length-map views (λ (view : View). view.size))) l.rest_is

pub no_size : (rows total : ℕ) (bytes rest : List ℕ) (start : ℕ) (views : List View) → AreSoFar bytes rest start views → length views < rows → start < 2 ^ 64 → total < 2 ^ 64 → BeginsWithNoShortest rest → AreNoViewsOf rows total bytes
no_size rows total bytes rest start views h lt p q absent = record {
  none = λ sizes count summed e.
      let n = next rows total bytes rest start views sizes h lt p q count summed e in
      absent.none n.size (sizes_bytes n.tail) (omega (arith, n.within)) n.rest_is;
}

pub too_many : (rows total : ℕ) (bytes rest after : List ℕ) (start number : ℕ) (views : List View) → AreSoFar bytes rest start views → length views < rows → start < 2 ^ 64 → total < 2 ^ 64 → number < 2 ^ 64 → rest ≡ varint number ++ after → total < start + number → AreNoViewsOf rows total bytes
too_many rows total bytes rest after start number views h lt p q small r more = record {
  none = λ sizes count summed e.
      let n = next rows total bytes rest start views sizes h lt p q count summed e in
      let same = varint_same number n.size after (sizes_bytes n.tail) small (omega (arith, n.within)) (sym r ∙ n.rest_is) in
      omega (arith, n.within, same.0);
}

pub left_over : (rows total : ℕ) (bytes rest : List ℕ) (start : ℕ) (views : List View) → AreSoFar bytes rest start views → length views ≡ rows → start < 2 ^ 64 → total < 2 ^ 64 → (length rest ≡ 0 → start ≡ total → ⊥) → AreNoViewsOf rows total bytes
left_over rows total bytes rest start views h count p q ne = record {
  none = λ sizes counted summed e.
      let l = left rows total bytes rest start views sizes h (omega arith) p q counted summed e in
      let none : l.tail ≡ [] = nil_from_length l.tail (omega (arith, ap length l.is, length-append (sizes_in views) l.tail, length-map views (λ (view : View). view.size))) in
      ne (ap length (l.rest_is ∙ ap sizes_bytes none ∙ sizes_none)) (h.start_is ∙ ap sum (sym (append-nil (sizes_in views)) ∙ ap (λ (t : List ℕ). sizes_in views ++ t) (sym none) ∙ sym l.is) ∙ summed);
}

pub few_bytes : (rows total : ℕ) (bytes : List ℕ) → total < 2 ^ 64 → length bytes < rows → AreNoViewsOf rows total bytes
few_bytes rows total bytes q lt = record { none = λ sizes count summed e. omega (arith, ap length e, sizes_long sizes (omega arith)) }
