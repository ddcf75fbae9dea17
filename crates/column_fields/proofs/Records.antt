-- Bytes spell at most one list of fields, and the reader finds its last values.
use Rattle.std.specs.List.{last_or}
use Rattle.std.proofs.Common.{Option, None, Some, ◌≡◌, ◌↔◌, ℕ, ◌<◌, ◌≤◌, Bool, true, false, cond, eqb, List, [], ◌∷◌, ◌++◌, length, map, filter, ℤ, pos, unwrap_or, Result, Ok, Err, refl, sym, ap, subst, ◌∙◌, arith, append_assoc}
use Rattle.std.proofs.lemmas.List.{length-append, append-nil, map-append}
use Rattle.std.proofs.lemmas.List.Elements.{filter-append}
use Rattle.column_fields.specs.Spelling.{Begins, BeginsWithNone}
use Rattle.column_fields.specs.RecordFields.{Field, Spells, SpellsField, number_in, value_of, last_value, meaning, BeginsWithField, Means, StatesUnknownEndsType, SpellsNumbers, IsNoRecord}
use Rattle.column_base.specs.declared.error.VortexError.{VortexError}
use Rattle.column_base.specs.declared.error.VortexError.TheVariants.{EndsTypeNumber}
use Rattle.column_fields.specs.declared.metadata.RunEndMetadata.{RunEndMetadata}
use Rattle.column_fields.proofs.Varints.{StandsFor-long, rest_same}
use Rattle.column_fields.proofs.Payloads.{SpellsField-same}

-- ---- one list of fields

SpellsField-long : (f : Field) (bytes : List ℕ) → SpellsField bytes f → 0 < length bytes
SpellsField-long f bytes h = omega (arith, ap length h.parts, length-append h.key h.payload, StandsFor-long h.key _ h.key_spelt.stands)

no_field_in_empty : (f : Field) (bytes front rest : List ℕ) → bytes ≡ [] → bytes ≡ front ++ rest → SpellsField front f → ⊥
no_field_in_empty f bytes front rest empty parts h =
    omega (arith, ap length empty, ap length parts, length-append front rest, SpellsField-long f front h)

pub Spells-same : (fs gs : List Field) (bytes : List ℕ) → Spells bytes fs → Spells bytes gs → fs ≡ gs
Spells-same [] [] bytes h k = refl
Spells-same [] (g ∷ gs) bytes h (front, rest, parts, spelt, k) = absurd (no_field_in_empty g bytes front rest h parts spelt)
Spells-same (f ∷ fs) [] bytes (front, rest, parts, spelt, h) k = absurd (no_field_in_empty f bytes front rest k parts spelt)
Spells-same (f ∷ fs) (g ∷ gs) bytes (front, rest, parts, spelt, h) (front', rest', parts', spelt', k) =
    let e : front ++ rest ≡ front' ++ rest' = sym parts ∙ parts' in
    let same = SpellsField-same f g front front' rest rest' spelt spelt' e in
    let tails : rest ≡ rest' = rest_same front front' rest rest' same.0 e in
    let others = Spells-same fs gs rest h (subst (λ (t : List ℕ). Spells t gs) (sym tails) k) in
    ap (λ (x : Field). x ∷ fs) same.1 ∙ ap (λ (xs : List Field). g ∷ xs) others

-- ---- last values

last_or_more : (o : Option ℕ) (xs : List ℕ) (y : ℕ) → last_or o (xs ++ y ∷ []) ≡ Some y
last_or_more o [] y = refl
last_or_more o (x ∷ xs) y = last_or_more (Some x) xs y

chosen : (b : Bool) (f : Field) (xs : List ℕ) → unwrap_or (last_or None (xs ++ map value_of (cond b (f ∷ []) []))) 0 ≡ cond b (value_of f) (unwrap_or (last_or None xs) 0)
chosen true f xs = rw (last_or_more None xs (value_of f)) refl
chosen false f xs = rw (append-nil xs) refl

last_value-more : (n : ℕ) (fs : List Field) (f : Field) → last_value n (fs ++ f ∷ []) ≡ cond (eqb f.number n) (value_of f) (last_value n fs)
last_value-more n fs f =
    let p : Field → Bool = λ (x : Field). eqb x.number n in
    rw (filter-append p fs (f ∷ []), map-append value_of (filter p fs) (filter p (f ∷ []))) (chosen (eqb f.number n) f (map value_of (filter p fs)))

updated : (n : ℕ) (fs : List Field) (f : Field) (number before : ℕ) (value : Option ℕ) → f.number ≡ number → number_in f.payload ≡ value → last_value n fs ≡ before → last_value n (fs ++ f ∷ []) ≡ cond (eqb number n) (unwrap_or value 0) before
updated n fs f number before value e v b =
    last_value-more n fs f ∙ ap (λ (k : ℕ). cond (eqb k n) (value_of f) (last_value n fs)) e ∙ ap (λ (o : Option ℕ). cond (eqb number n) (unwrap_or o 0) (last_value n fs)) v ∙ ap (λ (k : ℕ). cond (eqb number n) (unwrap_or value 0) k) b

-- ---- the loop

-- the fields that are read, and what they have to do with the rest
pub record Progress (bytes rest : List ℕ) (ends runs offset : ℕ) : Type 0 where
  pub fields : List Field
  pub ends_type_is : last_value 1 fields ≡ ends
  pub runs_is : last_value 2 fields ≡ runs
  pub offset_is : last_value 3 fields ≡ offset
  pub onward : (tail : List Field) → Spells rest tail → Spells bytes (fields ++ tail)
  pub only : (all : List Field) → Spells bytes all → (tail : List Field) × (all ≡ fields ++ tail) × Spells rest tail

pub started : (bytes : List ℕ) → Progress bytes bytes 0 0 0
started bytes = record {
  fields = [];
  ends_type_is = refl;
  runs_is = refl;
  offset_is = refl;
  onward = λ tail h. h;
  only = λ all h. (all, refl, h);
}

pub field_shorter : (bytes rest : List ℕ) (n : ℕ) (value : Option ℕ) → BeginsWithField bytes n value rest → length rest < length bytes
field_shorter bytes rest n value h =
    omega (arith, ap length h.begins.parts, length-append h.begins.front rest, SpellsField-long h.field h.begins.front h.begins.spelt)

only_after : (f : Field) (fields all tail : List Field) (rest after : List ℕ) → Begins SpellsField rest f after → all ≡ fields ++ tail → Spells rest tail → (others : List Field) × (all ≡ (fields ++ f ∷ []) ++ others) × Spells after others
only_after f fields all [] rest after b e h = absurd (no_field_in_empty f rest b.front after h b.parts b.spelt)
only_after f fields all (g ∷ tail) rest after b e (front, rest', parts, spelt, h) =
    let parts-same : b.front ++ after ≡ front ++ rest' = sym b.parts ∙ parts in
    let same = SpellsField-same f g b.front front after rest' b.spelt spelt parts-same in
    let tails : after ≡ rest' = rest_same b.front front after rest' same.0 parts-same in
    (tail, e ∙ ap (λ (x : Field). fields ++ x ∷ tail) (sym same.1) ∙ sym (append_assoc fields (f ∷ []) tail), subst (λ (t : List ℕ). Spells t tail) (sym tails) h)

pub one_more_field : (bytes rest after : List ℕ) (ends runs offset ends' runs' offset' n : ℕ) (value : Option ℕ) → Progress bytes rest ends runs offset → BeginsWithField rest n value after → ends' ≡ cond (eqb n 1) (unwrap_or value 0) ends → runs' ≡ cond (eqb n 2) (unwrap_or value 0) runs → offset' ≡ cond (eqb n 3) (unwrap_or value 0) offset → Progress bytes after ends' runs' offset'
one_more_field bytes rest after ends runs offset ends' runs' offset' n value p h e r o =
    let f = h.field in
    let b = h.begins in
    record {
      fields = p.fields ++ f ∷ [];
      ends_type_is = updated 1 p.fields f n ends value h.numbered h.valued p.ends_type_is ∙ sym e;
      runs_is = updated 2 p.fields f n runs value h.numbered h.valued p.runs_is ∙ sym r;
      offset_is = updated 3 p.fields f n offset value h.numbered h.valued p.offset_is ∙ sym o;
      onward = λ tail k. subst (λ (fs : List Field). Spells bytes fs) (sym (append_assoc p.fields (f ∷ []) tail)) (p.onward (f ∷ tail) (b.front, after, b.parts, b.spelt, k));
      only = λ all k. let t = p.only all k in only_after f p.fields all t.0 rest after b t.1 t.2;
    }

pub all_read : (bytes rest : List ℕ) (ends runs offset : ℕ) → Progress bytes rest ends runs offset → rest ≡ [] → SpellsNumbers bytes ends runs offset
all_read bytes rest ends runs offset p empty = record {
  fields = p.fields;
  spelt = subst (λ (fs : List Field). Spells bytes fs) (append-nil p.fields) (p.onward [] empty);
  ends_type_is = p.ends_type_is;
  runs_is = p.runs_is;
  offset_is = p.offset_is;
}

stuck_at : (rest : List ℕ) (tail : List Field) → 0 < length rest → BeginsWithNone SpellsField rest → Spells rest tail → ⊥
stuck_at rest [] some absent h = omega (arith, ap length h)
stuck_at rest (f ∷ tail) some absent (front, after, parts, spelt, h) = absent.none f after (record { front = front; spelt = spelt; parts = parts })

pub stuck : (bytes rest : List ℕ) (ends runs offset : ℕ) → Progress bytes rest ends runs offset → 0 < length rest → BeginsWithNone SpellsField rest → IsNoRecord bytes
stuck bytes rest ends runs offset p some absent = record {
  none = λ (all, h). let t = p.only all h in stuck_at rest t.0 some absent t.2;
}

-- ---- the answers of the reader

abbrev made : ℤ → ℕ → ℕ → RunEndMetadata
made z runs offset = record { ends_ptype = z; num_runs = runs; offset = offset }

abbrev done : RunEndMetadata → Result RunEndMetadata VortexError
done m = Ok m

abbrev failed : VortexError → Result RunEndMetadata VortexError
failed e = Err e

done_is : (x y : RunEndMetadata) → done x ≡ done y → x ≡ y
done_is x y e = cc

number_is : (x y : ℕ) → failed (EndsTypeNumber x) ≡ failed (EndsTypeNumber y) → x ≡ y
number_is x y e = cc

means_made : (bytes : List ℕ) (ends runs offset : ℕ) (z : ℤ) (h : SpellsNumbers bytes ends runs offset) → z ≡ pos ends → made z runs offset ≡ meaning h.fields
means_made bytes ends runs offset z h e =
    ap (λ (w : ℤ). made w runs offset) e ∙ ap (λ (n : ℕ). made (pos n) runs offset) (sym h.ends_type_is) ∙ ap (λ (n : ℕ). made (pos (last_value 1 h.fields)) n offset) (sym h.runs_is) ∙ ap (λ (n : ℕ). made (pos (last_value 1 h.fields)) (last_value 2 h.fields) n) (sym h.offset_is)

same_fields : (bytes : List ℕ) (ends runs offset : ℕ) (h : SpellsNumbers bytes ends runs offset) (fields : List Field) → Spells bytes fields → fields ≡ h.fields
same_fields bytes ends runs offset h fields k = Spells-same fields h.fields bytes k h.spelt

pub ok_at_numbers : (bytes : List ℕ) (ends runs offset : ℕ) (z : ℤ) → SpellsNumbers bytes ends runs offset → ends ≤ 3 → z ≡ pos ends → (m : RunEndMetadata) → (done (made z runs offset) ≡ done m) ↔ Means bytes m
ok_at_numbers bytes ends runs offset z h le e m = (
  λ same. (h.fields, h.spelt, rw h.ends_type_is le, sym (done_is _ m same) ∙ means_made bytes ends runs offset z h e),
  λ (fields, spelt, below, is). ap done (means_made bytes ends runs offset z h e ∙ ap meaning (sym (same_fields bytes ends runs offset h fields spelt)) ∙ sym is),
)

pub number_at_numbers : (bytes : List ℕ) (ends runs offset : ℕ) (z : ℤ) → SpellsNumbers bytes ends runs offset → ends ≤ 3 → (n : ℕ) → (done (made z runs offset) ≡ failed (EndsTypeNumber n)) ↔ StatesUnknownEndsType bytes n
number_at_numbers bytes ends runs offset z h le n = (
  λ same. absurd cc,
  λ (fields, spelt, above, is). absurd (omega (arith, ap (λ (fs : List Field). last_value 1 fs) (same_fields bytes ends runs offset h fields spelt), h.ends_type_is)),
)

pub ok_at_no_type : (bytes : List ℕ) (ends runs offset : ℕ) → SpellsNumbers bytes ends runs offset → 3 < ends → (m : RunEndMetadata) → (failed (EndsTypeNumber ends) ≡ done m) ↔ Means bytes m
ok_at_no_type bytes ends runs offset h gt m = (
  λ same. absurd cc,
  λ (fields, spelt, below, is). absurd (omega (arith, ap (λ (fs : List Field). last_value 1 fs) (same_fields bytes ends runs offset h fields spelt), h.ends_type_is)),
)

pub number_at_no_type : (bytes : List ℕ) (ends runs offset : ℕ) → SpellsNumbers bytes ends runs offset → 3 < ends → (n : ℕ) → (failed (EndsTypeNumber ends) ≡ failed (EndsTypeNumber n)) ↔ StatesUnknownEndsType bytes n
number_at_no_type bytes ends runs offset h gt n = (
  λ same. (h.fields, h.spelt, rw h.ends_type_is gt, sym (number_is ends n same) ∙ sym h.ends_type_is),
  λ (fields, spelt, above, is). ap (λ (k : ℕ). failed (EndsTypeNumber k)) (sym h.ends_type_is ∙ ap (λ (fs : List Field). last_value 1 fs) (sym (same_fields bytes ends runs offset h fields spelt)) ∙ sym is),
)

pub Means-same : (bytes : List ℕ) (m n : RunEndMetadata) → Means bytes m → Means bytes n → m ≡ n
Means-same bytes m n (f, h, le, is) (g, k, le', is') = is ∙ ap meaning (Spells-same f g bytes h k) ∙ sym is'
