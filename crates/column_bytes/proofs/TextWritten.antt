-- What is written of the rows so far.
use Rattle.std.proofs.Common.{◌≡◌, ℕ, ◌+◌, ◌<◌, ◌≤◌, List, [], ◌∷◌, ◌++◌, length, map, get_or, drop, sum, zero, suc, refl, sym, ap, ◌∙◌, arith, append_assoc}
use Rattle.std.specs.List.{concat}
use Rattle.std.proofs.lemmas.List.{append-nil, drop_all, drop_more, length-append, length-map}
use Rattle.std.specs.Prelude.{option_map}
use Rattle.column_core.specs.Value.{Single}
use Rattle.column_core.specs.VarBinForm.{VarBinForm, varbin_rows}
use Rattle.column_fields.specs.Varint.{varint}
use Rattle.column_bytes.specs.Texts.{shown_row, shown_rows, sizes_bytes, text_sizes}
use Rattle.column_bytes.proofs.TextPieces.{sum-cons}
use Rattle.column_bytes.proofs.TextSizes.{sizes_none, sizes_cons}

get-length : (xss : List (List ℕ)) (k : ℕ) → k < length xss → get_or (map length xss) k 0 ≡ length (get_or xss k [])
get-length [] k lt = absurd (omega arith)
get-length (xs ∷ xss) zero lt = refl
get-length (xs ∷ xss) (suc k) lt = get-length xss k (omega arith)

-- the sizes from a row on are its own and those after it
size_here : (form : VarBinForm) (row size : ℕ) (bytes : List ℕ) → row < length (shown_rows form) → bytes ≡ get_or (shown_rows form) row [] → size ≡ length bytes → drop row (text_sizes form) ≡ size ∷ drop (row + 1) (text_sizes form)
size_here form row size bytes lt b s =
    let within : row < length (text_sizes form) = omega (arith, length-map (shown_rows form) length) in
    drop_more (text_sizes form) row 0 within ∙ ap (λ (n : ℕ). n ∷ drop (row + 1) (text_sizes form)) (get-length (shown_rows form) row lt ∙ ap length (sym b) ∙ sym s)

pub one_size : (form : VarBinForm) (row size : ℕ) (bytes out new whole : List ℕ) → row < length (shown_rows form) → bytes ≡ get_or (shown_rows form) row [] → size ≡ length bytes → out ++ sizes_bytes (drop row (text_sizes form)) ≡ whole → new ≡ out ++ varint size → new ++ sizes_bytes (drop (row + 1) (text_sizes form)) ≡ whole
one_size form row size bytes out new whole lt b s inv n =
    ap (λ (t : List ℕ). t ++ sizes_bytes (drop (row + 1) (text_sizes form))) n ∙ append_assoc out (varint size) (sizes_bytes (drop (row + 1) (text_sizes form))) ∙ ap (λ (t : List ℕ). out ++ t) (sym (sizes_cons size (drop (row + 1) (text_sizes form))) ∙ ap sizes_bytes (sym (size_here form row size bytes lt b s))) ∙ inv

-- how many bytes are left to count
pub left_size : (form : VarBinForm) (row size : ℕ) (bytes : List ℕ) → row < length (shown_rows form) → bytes ≡ get_or (shown_rows form) row [] → size ≡ length bytes → length (sizes_bytes (drop row (text_sizes form))) ≡ length (varint size) + length (sizes_bytes (drop (row + 1) (text_sizes form)))
left_size form row size bytes lt b s =
    ap (λ (ns : List ℕ). length (sizes_bytes ns)) (size_here form row size bytes lt b s) ∙ ap length (sizes_cons size (drop (row + 1) (text_sizes form))) ∙ length-append (varint size) (sizes_bytes (drop (row + 1) (text_sizes form)))

pub one_long : (form : VarBinForm) (row size total here : ℕ) (bytes : List ℕ) → row < length (shown_rows form) → bytes ≡ get_or (shown_rows form) row [] → size ≡ length bytes → total + length (sizes_bytes (drop row (text_sizes form))) ≡ length (sizes_bytes (text_sizes form)) → here ≡ length (varint size) → total + here + length (sizes_bytes (drop (row + 1) (text_sizes form))) ≡ length (sizes_bytes (text_sizes form))
one_long form row size total here bytes lt b s inv h = omega (arith, inv, h, left_size form row size bytes lt b s)

pub all_long : (form : VarBinForm) (row total : ℕ) → length (shown_rows form) ≤ row → total + length (sizes_bytes (drop row (text_sizes form))) ≡ length (sizes_bytes (text_sizes form)) → total ≡ length (sizes_bytes (text_sizes form))
all_long form row total le inv =
    let none : drop row (text_sizes form) ≡ [] = drop_all row (text_sizes form) (omega (arith, length-map (shown_rows form) length)) in
    omega (arith, inv, ap length (ap sizes_bytes none), ap length sizes_none)

pub one_summed : (form : VarBinForm) (row size total next : ℕ) (bytes : List ℕ) → row < length (shown_rows form) → bytes ≡ get_or (shown_rows form) row [] → size ≡ length bytes → total + sum (drop row (text_sizes form)) ≡ sum (text_sizes form) → next ≡ total + size → next + sum (drop (row + 1) (text_sizes form)) ≡ sum (text_sizes form)
one_summed form row size total next bytes lt b s inv n = omega (arith, n, inv, ap sum (size_here form row size bytes lt b s), sum-cons size (drop (row + 1) (text_sizes form)))

pub all_sizes : (form : VarBinForm) (row : ℕ) (out whole : List ℕ) → length (shown_rows form) ≤ row → out ++ sizes_bytes (drop row (text_sizes form)) ≡ whole → out ≡ whole
all_sizes form row out whole le inv =
    let none : drop row (text_sizes form) ≡ [] = drop_all row (text_sizes form) (omega (arith, length-map (shown_rows form) length)) in
    sym (append-nil out) ∙ ap (λ (t : List ℕ). out ++ t) (sym sizes_none ∙ ap sizes_bytes (sym none)) ∙ inv

pub all_summed : (form : VarBinForm) (row total : ℕ) → length (shown_rows form) ≤ row → total + sum (drop row (text_sizes form)) ≡ sum (text_sizes form) → total ≡ sum (text_sizes form)
all_summed form row total le inv =
    let none : drop row (text_sizes form) ≡ [] = drop_all row (text_sizes form) (omega (arith, length-map (shown_rows form) length)) in
    omega (arith, inv, ap sum none)

pub one_row : (form : VarBinForm) (row : ℕ) (bytes out new whole : List ℕ) → row < length (shown_rows form) → bytes ≡ get_or (shown_rows form) row [] → out ++ concat (drop row (shown_rows form)) ≡ whole → new ≡ out ++ bytes → new ++ concat (drop (row + 1) (shown_rows form)) ≡ whole
one_row form row bytes out new whole lt b inv n =
    ap (λ (t : List ℕ). t ++ concat (drop (row + 1) (shown_rows form))) n ∙ append_assoc out bytes (concat (drop (row + 1) (shown_rows form))) ∙ ap (λ (t : List ℕ). out ++ t) (ap (λ (t : List ℕ). t ++ concat (drop (row + 1) (shown_rows form))) b ∙ ap concat (sym (drop_more (shown_rows form) row [] lt))) ∙ inv

pub all_shown : (form : VarBinForm) (row : ℕ) (out whole : List ℕ) → length (shown_rows form) ≤ row → out ++ concat (drop row (shown_rows form)) ≡ whole → out ≡ whole
all_shown form row out whole le inv =
    let none : drop row (shown_rows form) ≡ [] = drop_all row (shown_rows form) le in
    sym (append-nil out) ∙ ap (λ (xss : List (List ℕ)). out ++ concat xss) (sym none) ∙ inv

pub shown-count : (form : VarBinForm) → length (shown_rows form) ≡ length (varbin_rows form)
shown-count form = length-map (map (option_map Single) (varbin_rows form)) shown_row ∙ length-map (varbin_rows form) (option_map Single)

-- how many bytes are left to show
pub shown_left : (form : VarBinForm) (row : ℕ) (bytes : List ℕ) → row < length (shown_rows form) → bytes ≡ get_or (shown_rows form) row [] → length (concat (drop row (shown_rows form))) ≡ length bytes + length (concat (drop (row + 1) (shown_rows form)))
shown_left form row bytes lt b =
    ap (λ (xss : List (List ℕ)). length (concat xss)) (drop_more (shown_rows form) row [] lt) ∙ length-append (get_or (shown_rows form) row []) (concat (drop (row + 1) (shown_rows form))) ∙ ap (λ (x : List ℕ). length x + length (concat (drop (row + 1) (shown_rows form)))) (sym b)
