-- Varints of at most two bytes, put one after the other.
use Rattle.std.proofs.Common.{◌≡◌, ℕ, ◌+◌, ◌/◌, ◌%◌, ◌<◌, ◌≤◌, List, [], ◌∷◌, ◌++◌, length, get_or, set, take, sym, ap, ◌∙◌, arith, append_assoc, append-nil}
use Rattle.std.specs.List.{flat_map}
use Rattle.std.proofs.lemmas.List.{length-set, take-set-le, take_more_set}
use Rattle.column_fields.specs.Varint.{varint}
use Rattle.column_fields.proofs.LengthBytes.{varint_one, varint_two}
use Rattle.column_fields.proofs.EightLaws.{eight_of}

-- one byte: the second is past it
pub put_one : (bytes : List ℕ) (count n first second : ℕ) → count + 2 ≤ length bytes → n < 128 → first ≡ n → take (count + 1) (set (set bytes count first) (count + 1) second) ≡ take count bytes ++ varint n
put_one bytes count n first second room lt is =
    take-set-le (count + 1) (set bytes count first) (count + 1) second (omega arith)
    ∙ take_more_set bytes count first (omega (arith, room))
    ∙ ap (λ (b : ℕ). take count bytes ++ b ∷ []) is
    ∙ ap (λ (t : List ℕ). take count bytes ++ t) (sym (varint_one n lt))

pub put_two : (bytes : List ℕ) (count n first : ℕ) → count + 2 ≤ length bytes → 128 ≤ n → n < 16384 → first ≡ n % 128 + 128 → take (count + 1 + 1) (set (set bytes count first) (count + 1) (n / 128)) ≡ take count bytes ++ varint n
put_two bytes count n first room ge lt is =
    take_more_set (set bytes count first) (count + 1) (n / 128) (omega (arith, room, length-set bytes count first))
    ∙ ap (λ (t : List ℕ). t ++ (n / 128) ∷ []) (take_more_set bytes count first (omega (arith, room)))
    ∙ append_assoc (take count bytes) (first ∷ []) ((n / 128) ∷ [])
    ∙ ap (λ (b : ℕ). take count bytes ++ b ∷ (n / 128) ∷ []) is
    ∙ ap (λ (t : List ℕ). take count bytes ++ t) (sym (varint_two n ge (omega arith)))

-- one varint more, before those of other numbers
one_more : (n : ℕ) (ns before new whole : List ℕ) → new ≡ before ++ varint n → whole ≡ new ++ flat_map varint ns → whole ≡ before ++ flat_map varint (n ∷ ns)
one_more n ns before new whole put is = is ∙ ap (λ (t : List ℕ). t ++ flat_map varint ns) put ∙ append_assoc before (varint n) (flat_map varint ns)

-- eight varints, each put after those before it
pub eight_put : (xs t1 t2 t3 t4 t5 t6 t7 whole : List ℕ) → length xs ≡ 8
    → t1 ≡ [] ++ varint (get_or xs 0 0) → t2 ≡ t1 ++ varint (get_or xs 1 0) → t3 ≡ t2 ++ varint (get_or xs 2 0) → t4 ≡ t3 ++ varint (get_or xs 3 0)
    → t5 ≡ t4 ++ varint (get_or xs 4 0) → t6 ≡ t5 ++ varint (get_or xs 5 0) → t7 ≡ t6 ++ varint (get_or xs 6 0) → whole ≡ t7 ++ varint (get_or xs 7 0)
    → whole ≡ flat_map varint xs
eight_put xs t1 t2 t3 t4 t5 t6 t7 whole len p1 p2 p3 p4 p5 p6 p7 p8 =
    let n7 : List ℕ = get_or xs 7 0 ∷ [] in
    let n6 : List ℕ = get_or xs 6 0 ∷ n7 in
    let n5 : List ℕ = get_or xs 5 0 ∷ n6 in
    let n4 : List ℕ = get_or xs 4 0 ∷ n5 in
    let n3 : List ℕ = get_or xs 3 0 ∷ n4 in
    let n2 : List ℕ = get_or xs 2 0 ∷ n3 in
    let n1 : List ℕ = get_or xs 1 0 ∷ n2 in
    let s7 : whole ≡ t7 ++ flat_map varint n7 = one_more (get_or xs 7 0) [] t7 whole whole p8 (sym (append-nil whole)) in
    let s6 : whole ≡ t6 ++ flat_map varint n6 = one_more (get_or xs 6 0) n7 t6 t7 whole p7 s7 in
    let s5 : whole ≡ t5 ++ flat_map varint n5 = one_more (get_or xs 5 0) n6 t5 t6 whole p6 s6 in
    let s4 : whole ≡ t4 ++ flat_map varint n4 = one_more (get_or xs 4 0) n5 t4 t5 whole p5 s5 in
    let s3 : whole ≡ t3 ++ flat_map varint n3 = one_more (get_or xs 3 0) n4 t3 t4 whole p4 s4 in
    let s2 : whole ≡ t2 ++ flat_map varint n2 = one_more (get_or xs 2 0) n3 t2 t3 whole p3 s3 in
    let s1 : whole ≡ t1 ++ flat_map varint n1 = one_more (get_or xs 1 0) n2 t1 t2 whole p2 s2 in
    one_more (get_or xs 0 0) n1 [] t1 whole p1 s1 ∙ ap (flat_map varint) (sym (eight_of 0 xs len))
