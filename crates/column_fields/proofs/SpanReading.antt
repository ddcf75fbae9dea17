-- The span of ends is that of the lengths that are read so far.
use Rattle.std.proofs.Common.{◌≡◌, ℕ, ◌+◌, ◌-◌, ◌^◌, ◌<◌, Bool, true, false, List, [], ◌∷◌, ◌++◌, length, get_or, pos, refl, sym, ap, ◌∙◌, arith}
use Rattle.std.specs.List.{All}
use Rattle.std.proofs.lemmas.List.{length-append, get_or-append_right}
use Rattle.std.proofs.lemmas.List.Elements.{All-nil, All-push}
use Rattle.column_fields.specs.Varint.{varint}
use Rattle.column_base.specs.declared.dtype.PType.{PType}
use Rattle.column_base.specs.Types.{HasNumber, IsUnsigned}
use Rattle.column_fields.specs.Spans.{AreSpanned}
use Rattle.column_fields.proofs.EndReading.{Progress, started, one_more, all_read}

pub record Spanned (t : PType) (bytes rest : List ℕ) (start : Bool) (count first last : ℕ) : Type 0 where
  pub read : List ℕ
  pub progress : Progress bytes rest start last read
  pub fit : All (λ end. HasNumber t (pos end)) read
  pub counted : length read ≡ count
  pub first_is : get_or read 0 0 ≡ first
  pub last_is : get_or read (count - 1) 0 ≡ last

pub spanned_none : (t : PType) (bytes : List ℕ) → Spanned t bytes bytes true 0 0 0
spanned_none t bytes = record { read = []; progress = started bytes [] refl; fit = All-nil (λ end. HasNumber t (pos end)); counted = refl; first_is = refl; last_is = refl }

first_more : (read : List ℕ) (count first end new : ℕ) → length read ≡ count → get_or read 0 0 ≡ first → (count ≡ 0 → new ≡ end) → (0 < count → new ≡ first) → get_or (read ++ end ∷ []) 0 0 ≡ new
first_more [] count first end new len f a b = sym (a (sym len))
first_more (x ∷ read) count first end new len f a b = f ∙ sym (b (omega (arith, len)))

last_more : (read : List ℕ) (count end : ℕ) → length read ≡ count → get_or (read ++ end ∷ []) ((count + 1) - 1) 0 ≡ end
last_more read count end len =
    let at : (count + 1) - 1 ≡ length read = omega (arith, len) in
    let none : length read - length read ≡ 0 = omega arith in
    ap (λ (n : ℕ). get_or (read ++ end ∷ []) n 0) at ∙ get_or-append_right read (end ∷ []) (length read) (length read) 0 refl (omega arith) ∙ ap (λ (n : ℕ). get_or (end ∷ []) n 0) none

pub spanned_more : (t : PType) (bytes rest after : List ℕ) (start : Bool) (count first last len end new : ℕ) → Spanned t bytes rest start count first last → len < 2 ^ 64 → rest ≡ varint len ++ after → (start ≡ false → 0 < len) → end ≡ last + len → end < 2 ^ 64 → HasNumber t (pos end) → (count ≡ 0 → new ≡ end) → (0 < count → new ≡ first) → Spanned t bytes after false (count + 1) new end
spanned_more t bytes rest after start count first last len end new h small r some sum fits typed a b = record {
  read = h.read ++ end ∷ [];
  progress = one_more bytes rest after start last len end h.read (h.read ++ end ∷ []) h.progress small r some sum fits refl;
  fit = All-push (λ x. HasNumber t (pos x)) h.read end h.fit typed;
  counted = omega (arith, length-append h.read (end ∷ []), h.counted);
  first_is = first_more h.read count first end new h.counted h.first_is a b;
  last_is = last_more h.read count end h.counted;
}

pub spanned_all : (t : PType) (bytes rest : List ℕ) (start : Bool) (count first last : ℕ) → IsUnsigned t → Spanned t bytes rest start count first last → rest ≡ [] → AreSpanned t bytes count first last
spanned_all t bytes rest start count first last unsigned h none =
    let all = all_read bytes rest start last h.read h.progress none in
    record { ends = h.read; fit = record { unsigned = unsigned; fit = h.fit }; rise = all.1; spelt = all.0; counted = h.counted; first_is = h.first_is; last_is = h.last_is }
