-- Rows one after the other, and what they show.
use Rattle.std.proofs.Common.{◌≡◌, ℕ, ◌+◌, ◌-◌, ◌≤◌, Bool, true, false, Option, Some, None, List, [], ◌∷◌, ◌++◌, length, map, take, drop, sum, refl, sym, ap, ◌∙◌, arith}
use Rattle.std.specs.Prelude.{option_map}
use Rattle.std.specs.List.{concat}
use Rattle.std.proofs.lemmas.List.{length-append, length-drop, length-take-le, take-append-drop, take_at, drop_at, drop-drop, nil_from_length}
use Rattle.std.proofs.lemmas.List.Sums.{sum_by-cons}
use Rattle.column_core.specs.declared.varbinview.VarBinKind.{VarBinKind}
use Rattle.column_core.specs.declared.varbinview.VarBinKind.TheVariants.{Utf8, Binary}
use Rattle.column_core.specs.Optionals.{optionals, AreBlankAtNulls}
use Rattle.column_core.specs.Value.{Single}
use Rattle.column_core.specs.VarBinForm.{VarBinForm, optional_bytes, varbin_value, view_bytes}
use Rattle.column_bytes.specs.Texts.{shown_row, shown_rows, sizes_in, views_from}

-- ---- sums and joins

pub sum-cons : (n : ℕ) (ns : List ℕ) → sum (n ∷ ns) ≡ n + sum ns
sum-cons n ns = sum_by-cons (λ (k : ℕ). k) n ns

pub length-concat : (xss : List (List ℕ)) → length (concat xss) ≡ sum (map length xss)
length-concat [] = refl
length-concat (xs ∷ xss) = length-append xs (concat xss) ∙ ap (λ (n : ℕ). length xs + n) (length-concat xss) ∙ sym (sum-cons (length xs) (map length xss))

-- ---- bytes cut into pieces of these sizes

abbrev pub pieces : List ℕ → List ℕ → List (List ℕ)
pieces [] content = []
pieces (size ∷ sizes) content = take size content ∷ pieces sizes (drop size content)

pub length-pieces : (sizes content : List ℕ) → length (pieces sizes content) ≡ length sizes
length-pieces [] content = refl
length-pieces (size ∷ sizes) content = let rest = length-pieces sizes (drop size content) in omega arith

pub sizes-pieces : (sizes content : List ℕ) → sum sizes ≤ length content → map length (pieces sizes content) ≡ sizes
sizes-pieces [] content le = refl
sizes-pieces (size ∷ sizes) content le =
    let whole = sum-cons size sizes in
    let one : length (take size content) ≡ size = length-take-le size content (omega arith) in
    let rest : map length (pieces sizes (drop size content)) ≡ sizes = sizes-pieces sizes (drop size content) (omega (arith, length-drop size content)) in
    ap (λ (n : ℕ). n ∷ map length (pieces sizes (drop size content))) one ∙ ap (λ (ns : List ℕ). size ∷ ns) rest

pub concat-pieces : (sizes content : List ℕ) → sum sizes ≡ length content → concat (pieces sizes content) ≡ content
concat-pieces [] content e = sym (nil_from_length content (omega (arith, e)))
concat-pieces (size ∷ sizes) content e =
    let whole = sum-cons size sizes in
    ap (λ (xs : List ℕ). take size content ++ xs) (concat-pieces sizes (drop size content) (omega (arith, length-drop size content))) ∙ take-append-drop size content

-- pieces of joined lists are these lists
pub pieces-concat : (xss : List (List ℕ)) → pieces (map length xss) (concat xss) ≡ xss
pieces-concat [] = refl
pieces-concat (xs ∷ xss) =
    ap (λ (ys : List ℕ). ys ∷ pieces (map length xss) (drop (length xs) (xs ++ concat xss))) (take_at xs (concat xss) (length xs) refl) ∙ ap (λ (ys : List ℕ). xs ∷ pieces (map length xss) ys) (drop_at xs (concat xss) (length xs) refl) ∙ ap (λ (yss : List (List ℕ)). xs ∷ yss) (pieces-concat xss)

-- ---- rows of which some are null

abbrev pub or_none : Option (List ℕ) → List ℕ
or_none None = []
or_none (Some bytes) = bytes

shown-texts : (os : List (Option (List ℕ))) → map shown_row (map (option_map Single) (map (option_map (varbin_value Utf8)) os)) ≡ map or_none os
shown-texts [] = refl
shown-texts (None ∷ os) = ap (λ (yss : List (List ℕ)). [] ∷ yss) (shown-texts os)
shown-texts (Some bytes ∷ os) = ap (λ (yss : List (List ℕ)). bytes ∷ yss) (shown-texts os)

shown-bytes : (os : List (Option (List ℕ))) → map shown_row (map (option_map Single) (map (option_map (varbin_value Binary)) os)) ≡ map or_none os
shown-bytes [] = refl
shown-bytes (None ∷ os) = ap (λ (yss : List (List ℕ)). [] ∷ yss) (shown-bytes os)
shown-bytes (Some bytes ∷ os) = ap (λ (yss : List (List ℕ)). bytes ∷ yss) (shown-bytes os)

shown-of : (kind : VarBinKind) (os : List (Option (List ℕ))) → map shown_row (map (option_map Single) (map (option_map (varbin_value kind)) os)) ≡ map or_none os
shown-of Utf8 os = shown-texts os
shown-of Binary os = shown-bytes os

pub shown-rows : (form : VarBinForm) → shown_rows form ≡ map or_none (optional_bytes form)
shown-rows form = shown-of form.kind (optional_bytes form)

-- the bytes that rows show are those of the rows, where null shows none
pub shown-optionals : (xss : List (List ℕ)) (bs : List Bool) → length bs ≡ length xss → AreBlankAtNulls [] xss bs → map or_none (optionals xss bs) ≡ xss
shown-optionals [] bs h blank = refl
shown-optionals (xs ∷ xss) [] h blank = absurd (omega arith)
shown-optionals (xs ∷ xss) (true ∷ bs) h blank = ap (λ (yss : List (List ℕ)). xs ∷ yss) (shown-optionals xss bs (omega arith) blank.1)
shown-optionals (xs ∷ xss) (false ∷ bs) h blank = ap (λ (ys : List ℕ). ys ∷ map or_none (optionals xss bs)) (sym (blank.0 refl)) ∙ ap (λ (yss : List (List ℕ)). xs ∷ yss) (shown-optionals xss bs (omega arith) blank.1)

-- what is shown and which rows are null determine the rows
pub optionals-shown : (xss : List (List ℕ)) (bs : List Bool) → length bs ≡ length xss → optionals (map or_none (optionals xss bs)) bs ≡ optionals xss bs
optionals-shown [] bs h = refl
optionals-shown (xs ∷ xss) [] h = absurd (omega arith)
optionals-shown (xs ∷ xss) (true ∷ bs) h = ap (λ (os : List (Option (List ℕ))). Some xs ∷ os) (optionals-shown xss bs (omega arith))
optionals-shown (xs ∷ xss) (false ∷ bs) h = ap (λ (os : List (Option (List ℕ))). None ∷ os) (optionals-shown xss bs (omega arith))

-- null shows no bytes
pub blank-shown : (xss : List (List ℕ)) (bs : List Bool) → length bs ≡ length xss → AreBlankAtNulls 0 (map length (map or_none (optionals xss bs))) bs
blank-shown [] bs h = tt
blank-shown (xs ∷ xss) [] h = absurd (omega arith)
blank-shown (xs ∷ xss) (true ∷ bs) h = (λ e. absurd cc, blank-shown xss bs (omega arith))
blank-shown (xs ∷ xss) (false ∷ bs) h = (λ e. refl, blank-shown xss bs (omega arith))

blank-piece : (size : ℕ) (content : List ℕ) → size ≡ 0 → take size content ≡ []
blank-piece size content e = ap (λ (n : ℕ). take n content) e

pub blank-pieces : (sizes content : List ℕ) (bs : List Bool) → AreBlankAtNulls 0 sizes bs → AreBlankAtNulls [] (pieces sizes content) bs
blank-pieces [] content bs blank = tt
blank-pieces (size ∷ sizes) content [] blank = tt
blank-pieces (size ∷ sizes) content (b ∷ bs) blank = (λ e. blank-piece size content (blank.0 e), blank-pieces sizes (drop size content) bs blank.1)

-- ---- views one after the other

pub length-views : (start : ℕ) (sizes : List ℕ) → length (views_from start sizes) ≡ length sizes
length-views start [] = refl
length-views start (size ∷ sizes) = let rest = length-views (start + size) sizes in omega arith

pub sizes-views : (start : ℕ) (sizes : List ℕ) → sizes_in (views_from start sizes) ≡ sizes
sizes-views start [] = refl
sizes-views start (size ∷ sizes) = ap (λ (ns : List ℕ). size ∷ ns) (sizes-views (start + size) sizes)

cut : (start size : ℕ) (content rest : List ℕ) → rest ≡ drop start content → take (start + size - start) (drop start content) ≡ take size rest
cut start size content rest e =
    let n : start + size - start ≡ size = omega arith in
    ap (λ (k : ℕ). take k (drop start content)) n ∙ ap (take size) (sym e)

-- they cut the pieces
pub cut-views : (sizes content rest : List ℕ) (start : ℕ) → rest ≡ drop start content → map (view_bytes (content ∷ [])) (views_from start sizes) ≡ pieces sizes rest
cut-views [] content rest start e = refl
cut-views (size ∷ sizes) content rest start e =
    let next : drop size rest ≡ drop (start + size) content = ap (drop size) e ∙ drop-drop size start content in
    ap (λ (xs : List ℕ). xs ∷ map (view_bytes (content ∷ [])) (views_from (start + size) sizes)) (cut start size content rest e) ∙ ap (λ (yss : List (List ℕ)). take size rest ∷ yss) (cut-views sizes content (drop size rest) (start + size) next)
