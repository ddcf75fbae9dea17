-- Run lengths are read as they are written, and in no other way.
use Rattle.std.proofs.Common.{◌≡◌, ℕ, ◌+◌, ◌-◌, ◌^◌, ◌<◌, ◌≤◌, Bool, true, false, List, [], ◌∷◌, ◌++◌, length, get_or, map, pos, refl, sym, ap, subst, ◌∙◌, arith, append_assoc}
use Rattle.std.proofs.lemmas.List.{append-nil, length-append, get_or-append_right}
use Rattle.std.proofs.lemmas.List.Elements.{All-get_or}
use Rattle.column_fields.specs.Varint.{varint, BeginsWithNoShortest}
use Rattle.column_base.specs.declared.dtype.PType.{PType}
use Rattle.column_base.specs.Types.{HasNumber}
use Rattle.column_fields.specs.Lengths.{lengths_bytes, Rises, HasNoEndsOf}
use Rattle.column_fields.proofs.VarintForms.{varint_same, varint_some}
use Rattle.column_fields.proofs.EightLaws.{eight_of}
use Rattle.column_fields.proofs.LengthLaws.{lengths_cons, lengths_none}

-- the ends that are read, and what they have to do with the rest
pub record Progress (bytes rest : List ℕ) (first : Bool) (start : ℕ) (read : List ℕ) : Type 0 where
  pub onward : (tail : List ℕ) → rest ≡ lengths_bytes start tail → bytes ≡ lengths_bytes 0 (read ++ tail)
  pub rises : (tail : List ℕ) → Rises first start tail → Rises true 0 (read ++ tail)
  pub only : (all : List ℕ) → Rises true 0 all → bytes ≡ lengths_bytes 0 all → (tail : List ℕ) × (all ≡ read ++ tail) × Rises first start tail × (rest ≡ lengths_bytes start tail)

pub started : (bytes read : List ℕ) → read ≡ [] → Progress bytes bytes true 0 read
started bytes read none = rw none (record { onward = λ tail e. e; rises = λ tail h. h; only = λ all h e. (all, refl, h, e) })

pub rises_none : (first : Bool) (start : ℕ) → Rises first start []
unfolding Rises
rises_none first start = tt

pub rises_cons : (first : Bool) (start end : ℕ) (tail : List ℕ) → start ≤ end → end < 2 ^ 64 → (first ≡ false → start < end) → Rises false end tail → Rises first start (end ∷ tail)
unfolding Rises
rises_cons first start end tail a b c d = (a, b, c, d)

record Parts (first : Bool) (start end : ℕ) (tail : List ℕ) : Type 0 where
  pub le : start ≤ end
  pub small : end < 2 ^ 64
  pub later : first ≡ false → start < end
  pub rest : Rises false end tail

rises_parts : (first : Bool) (start end : ℕ) (tail : List ℕ) → Rises first start (end ∷ tail) → Parts first start end tail
unfolding Rises
rises_parts first start end tail h = record { le = h.0; small = h.1; later = h.2; rest = h.3 }

-- the next end of runs whose lengths begin with this one
record Next (first : Bool) (start len : ℕ) (after tail : List ℕ) : Type 0 where
  pub others : List ℕ
  pub end : ℕ
  pub is : tail ≡ end ∷ others
  pub end-is : end ≡ start + len
  pub parts : Parts first start end others
  pub rest : after ≡ lengths_bytes end others

next_at : (first : Bool) (start len : ℕ) (rest after tail : List ℕ) → len < 2 ^ 64 → rest ≡ varint len ++ after → Rises first start tail → rest ≡ lengths_bytes start tail → Next first start len after tail
next_at first start len rest after [] small r h e = absurd (omega (arith, ap length r, length-append (varint len) after, varint_some len small, ap length e, ap length (lengths_none start)))
next_at first start len rest after (end ∷ others) small r h e =
    let p = rises_parts first start end others h in
    let same = varint_same len (end - start) after (lengths_bytes end others) small (omega (arith, p.small)) (sym r ∙ e ∙ lengths_cons start end others) in
    record { others = others; end = end; is = refl; end-is = omega (arith, same.0, p.le); parts = p; rest = same.1 }

pub one_more : (bytes rest after : List ℕ) (first : Bool) (start len end : ℕ) (read new : List ℕ) → Progress bytes rest first start read → len < 2 ^ 64 → rest ≡ varint len ++ after → (first ≡ false → 0 < len) → end ≡ start + len → end < 2 ^ 64 → new ≡ read ++ end ∷ [] → Progress bytes after false end new
one_more bytes rest after first start len end read new h small r some is fits n = rw n (record {
  onward = λ tail e.
      let here : rest ≡ lengths_bytes start (end ∷ tail) = r ∙ ap (λ (t : List ℕ). varint len ++ t) e ∙ ap (λ (k : ℕ). varint k ++ lengths_bytes end tail) (omega arith) ∙ sym (lengths_cons start end tail) in
      h.onward (end ∷ tail) here ∙ ap (lengths_bytes 0) (sym (append_assoc read (end ∷ []) tail));
  rises = λ tail k. subst (λ (t : List ℕ). Rises true 0 t) (sym (append_assoc read (end ∷ []) tail)) (h.rises (end ∷ tail) (rises_cons first start end tail (omega arith) fits (λ e. let lt : 0 < len = some e in omega arith) k));
  only = λ all k e.
      let o = h.only all k e in
      let x = next_at first start len rest after o.0 small r o.2 o.3 in
      let e-is : x.end ≡ end = x.end-is ∙ sym is in
      (x.others, o.1 ∙ ap (λ (t : List ℕ). read ++ t) (x.is ∙ ap (λ (k : ℕ). k ∷ x.others) e-is) ∙ sym (append_assoc read (end ∷ []) x.others), subst (λ (k : ℕ). Rises false k x.others) e-is x.parts.rest, subst (λ (k : ℕ). after ≡ lengths_bytes k x.others) e-is x.rest);
})

-- ends that rise, one after another
more_from : (bytes rest after : List ℕ) (first : Bool) (start end : ℕ) (ends read : List ℕ) → Progress bytes rest first start read → rest ≡ lengths_bytes start (end ∷ ends) ++ after → Rises false start (end ∷ ends) → Progress bytes after false (get_or (end ∷ ends) (length ends) 0) (read ++ end ∷ ends)
more_from bytes rest after first start end [] read h r k =
    let p = rises_parts false start end [] k in
    let lt : start < end = p.later refl in
    let here : rest ≡ varint (end - start) ++ after = r ∙ ap (λ (t : List ℕ). t ++ after) (lengths_cons start end [] ∙ ap (λ (t : List ℕ). varint (end - start) ++ t) (lengths_none end) ∙ append-nil (varint (end - start))) in
    one_more bytes rest after first start (end - start) end read (read ++ end ∷ []) h (omega (arith, p.small)) here (λ _. omega (arith, lt)) (omega (arith, lt)) p.small refl
more_from bytes rest after first start end (next ∷ ends) read h r k =
    let p = rises_parts false start end (next ∷ ends) k in
    let lt : start < end = p.later refl in
    let mid : List ℕ = lengths_bytes end (next ∷ ends) ++ after in
    let here : rest ≡ varint (end - start) ++ mid = r ∙ ap (λ (t : List ℕ). t ++ after) (lengths_cons start end (next ∷ ends)) ∙ append_assoc (varint (end - start)) (lengths_bytes end (next ∷ ends)) after in
    let step = one_more bytes rest mid first start (end - start) end read (read ++ end ∷ []) h (omega (arith, p.small)) here (λ _. omega (arith, lt)) (omega (arith, lt)) p.small refl in
    subst (λ (t : List ℕ). Progress bytes after false (get_or (next ∷ ends) (length ends) 0) t) (append_assoc read (end ∷ []) (next ∷ ends)) (more_from bytes mid after false end next ends (read ++ end ∷ []) step refl p.rest)

-- eight ends at once
pub eight_more : (bytes rest after : List ℕ) (first : Bool) (start end : ℕ) (ends read new : List ℕ) → Progress bytes rest first start read → rest ≡ lengths_bytes start ends ++ after → Rises false start ends → length ends ≡ 8 → end ≡ get_or ends 7 0 → new ≡ read ++ ends → Progress bytes after false end new
eight_more bytes rest after first start end ends read new h r k len last put =
    let e = eight_of 0 ends len in
    let all = more_from bytes rest after first start (get_or ends 0 0) (get_or ends 1 0 ∷ get_or ends 2 0 ∷ get_or ends 3 0 ∷ get_or ends 4 0 ∷ get_or ends 5 0 ∷ get_or ends 6 0 ∷ get_or ends 7 0 ∷ []) read h (r ∙ ap (λ (t : List ℕ). lengths_bytes start t ++ after) e) (subst (λ (t : List ℕ). Rises false start t) e k) in
    subst (λ (t : List ℕ). Progress bytes after false end t) (sym (put ∙ ap (λ (t : List ℕ). read ++ t) e)) (subst (λ (n : ℕ). Progress bytes after false n (read ++ (get_or ends 0 0 ∷ get_or ends 1 0 ∷ get_or ends 2 0 ∷ get_or ends 3 0 ∷ get_or ends 4 0 ∷ get_or ends 5 0 ∷ get_or ends 6 0 ∷ get_or ends 7 0 ∷ []))) (sym last) all)

-- four ends at once
pub four_more : (bytes rest after : List ℕ) (first : Bool) (start end : ℕ) (ends read new : List ℕ) → Progress bytes rest first start read → rest ≡ lengths_bytes start ends ++ after → Rises false start ends → length ends ≡ 4 → end ≡ get_or ends 3 0 → new ≡ read ++ ends → Progress bytes after false end new
four_more bytes rest after first start end [] read new h r k len last put = absurd (omega (arith, len))
four_more bytes rest after first start end (e ∷ ends) read new h r k len last put =
    let count : length ends ≡ 3 = omega (arith, len) in
    let all = more_from bytes rest after first start e ends read h r k in
    let is : get_or (e ∷ ends) (length ends) 0 ≡ end = ap (λ (n : ℕ). get_or (e ∷ ends) n 0) count ∙ sym last in
    subst (λ (t : List ℕ). Progress bytes after false end t) (sym put) (subst (λ (n : ℕ). Progress bytes after false n (read ++ e ∷ ends)) is all)

pub last_end : {X : Type 0} (f : X → ℕ) (d : X) (xs : List X) → length xs ≡ 8 → get_or (map f xs) 7 0 ≡ f (get_or xs 7 d)
last_end f d xs len = ap (λ ys. get_or (map f ys) 7 0) (eight_of d xs len)

pub all_read : (bytes rest : List ℕ) (first : Bool) (start : ℕ) (read : List ℕ) → Progress bytes rest first start read → rest ≡ [] → (bytes ≡ lengths_bytes 0 read) × Rises true 0 read
all_read bytes rest first start read h none =
    (h.onward [] (none ∙ sym (lengths_none start)) ∙ ap (lengths_bytes 0) (append-nil read), subst (λ (t : List ℕ). Rises true 0 t) (append-nil read) (h.rises [] (rises_none first start)))

no_length_at : (rest tail : List ℕ) (first : Bool) (start : ℕ) → 0 < length rest → BeginsWithNoShortest rest → Rises first start tail → rest ≡ lengths_bytes start tail → ⊥
no_length_at rest [] first start some h k e = omega (arith, ap length e, ap length (lengths_none start))
no_length_at rest (end ∷ others) first start some h k e = let p = rises_parts first start end others k in h.none (end - start) (lengths_bytes end others) (omega (arith, p.small)) (e ∙ lengths_cons start end others)

pub no_length : (t : PType) (bytes rest : List ℕ) (first : Bool) (start : ℕ) (read : List ℕ) → Progress bytes rest first start read → 0 < length rest → BeginsWithNoShortest rest → HasNoEndsOf t bytes
no_length t bytes rest first start read h some absent = record { none = λ ends fit k e. let o = h.only ends k e in no_length_at rest o.0 first start some absent o.2 o.3 }

pub no_row : (t : PType) (bytes rest after : List ℕ) (first : Bool) (start len : ℕ) (read : List ℕ) → Progress bytes rest first start read → len < 2 ^ 64 → rest ≡ varint len ++ after → first ≡ false → len ≡ 0 → HasNoEndsOf t bytes
no_row t bytes rest after first start len read h small r later none = record {
  none = λ ends fit k e.
      let o = h.only ends k e in
      let x = next_at first start len rest after o.0 small r o.2 o.3 in
      omega (arith, x.parts.later later, x.end-is);
}

-- the type has not the end of the next run
pub no_end : (t : PType) (bytes rest after : List ℕ) (first : Bool) (start len : ℕ) (read : List ℕ) → Progress bytes rest first start read → len < 2 ^ 64 → rest ≡ varint len ++ after → (HasNumber t (pos (start + len)) → ⊥) → HasNoEndsOf t bytes
no_end t bytes rest after first start len read h small r unfit = record {
  none = λ ends fit k e.
      let o = h.only ends k e in
      let x = next_at first start len rest after o.0 small r o.2 o.3 in
      let all : ends ≡ read ++ x.end ∷ x.others = o.1 ∙ ap (λ (l : List ℕ). read ++ l) x.is in
      let within : length read < length ends = omega (arith, ap length all, length-append read (x.end ∷ x.others)) in
      let none : length read - length read ≡ 0 = omega arith in
      let here : get_or ends (length read) 0 ≡ x.end = ap (λ (l : List ℕ). get_or l (length read) 0) all ∙ get_or-append_right read (x.end ∷ x.others) (length read) (length read) 0 refl (omega arith) ∙ ap (λ (n : ℕ). get_or (x.end ∷ x.others) n 0) none in
      unfit (subst (λ (n : ℕ). HasNumber t (pos n)) (here ∙ x.end-is) (All-get_or (λ end. HasNumber t (pos end)) ends (length read) 0 within fit.fit));
}

pub shorter : (len : ℕ) (rest after : List ℕ) → len < 2 ^ 64 → rest ≡ varint len ++ after → length after < length rest
shorter len rest after small r = omega (arith, ap length r, length-append (varint len) after, varint_some len small)

-- ends that rise have lengths of their own
pub lengths_same : (first : Bool) (start : ℕ) (a b : List ℕ) → Rises first start a → Rises first start b → lengths_bytes start a ≡ lengths_bytes start b → a ≡ b
lengths_same first start [] [] h k e = refl
lengths_same first start [] (d ∷ b) h k e =
    let p = rises_parts first start d b k in
    absurd (omega (arith, ap length e, ap length (lengths_none start), ap length (lengths_cons start d b), length-append (varint (d - start)) (lengths_bytes d b), varint_some (d - start) (omega (arith, p.small))))
lengths_same first start (c ∷ a) b h k e =
    let p = rises_parts first start c a h in
    let x = next_at first start (c - start) (lengths_bytes start (c ∷ a)) (lengths_bytes c a) b (omega (arith, p.small)) (lengths_cons start c a) k e in
    let e-is : x.end ≡ c = omega (arith, x.end-is, p.le) in
    let tails : a ≡ x.others = lengths_same false c a x.others p.rest (subst (λ (n : ℕ). Rises false n x.others) e-is x.parts.rest) (x.rest ∙ ap (λ (n : ℕ). lengths_bytes n x.others) e-is) in
    ap (λ (t : List ℕ). c ∷ t) tails ∙ ap (λ (n : ℕ). n ∷ x.others) (sym e-is) ∙ sym x.is
