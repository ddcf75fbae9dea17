-- The order of values is a total order, and flat values that are equal in it are one.
use Rattle.std.proofs.Common.{◌≡◌, ◌∙◌, ℕ, ℤ, pos, List, [], true, false, cond, Option, Some, None, refl, sym, ap}
use Rattle.std.specs.Cmp.{IsTotalOrder}
use Rattle.std.specs.Cmp.Lexicographic.{slice_cmp, options_total}
use Rattle.std.specs.Option.{option_map}
use Rattle.std.specs.Ordering.{int_cmp, nat_cmp, is_eq, on, ordering_reverse, ordering_then, then_cmp}
use Rattle.std.specs.declared.cmp.Ordering.{Ordering}
use Rattle.std.specs.declared.cmp.Ordering.TheVariants.{Less, Equal, Greater}
use Rattle.std.proofs.lemmas.Bool.Decides.{Decides-int_eq}
use Rattle.std.proofs.lemmas.Cmp.{int_cmp_total, nat_cmp_total, nat_list_cmp_total, on_total, then_total}
use Rattle.std.proofs.lemmas.Map.Text.{is_eq-slice_cmp}
use Rattle.std.proofs.lemmas.Slice.Eq.{bytes_eq-Decides}
use Rattle.column_core.specs.Value.{FlatValue, Truth, Number, DecimalNumber, Text, Bytes, Value, Single, Items}
use Rattle.column_ops.specs.Order.{flat_cmp, kind_index, row_cmp, value_cmp}

-- the number of a flat value, with 1 for true, and 0 where it has none
abbrev number_of : FlatValue → ℤ
number_of (Truth b) = cond b (pos 1) (pos 0)
number_of (Number z) = z
number_of (DecimalNumber z) = z
number_of (Text bytes) = pos 0
number_of (Bytes bytes) = pos 0

-- the bytes of a flat value, none where it has none
abbrev bytes_of : FlatValue → List ℕ
bytes_of (Truth b) = []
bytes_of (Number z) = []
bytes_of (DecimalNumber z) = []
bytes_of (Text bytes) = bytes
bytes_of (Bytes bytes) = bytes

-- by kind, then by number, then by bytes
abbrev key_cmp : FlatValue → FlatValue → Ordering
key_cmp = then_cmp (on kind_index nat_cmp) (then_cmp (on number_of int_cmp) (on bytes_of (slice_cmp nat_cmp)))

-- nothing that comes after changes an answer
ordering_then-Equal : (o : Ordering) → ordering_then o Equal ≡ o
ordering_then-Equal Less = refl
ordering_then-Equal Equal = refl
ordering_then-Equal Greater = refl

-- the order of flat values is that by kind, number and bytes
flat_cmp-key : (a b : FlatValue) → flat_cmp a b ≡ key_cmp a b
flat_cmp-key (Truth false) (Truth false) = refl
flat_cmp-key (Truth false) (Truth true) = refl
flat_cmp-key (Truth true) (Truth false) = refl
flat_cmp-key (Truth true) (Truth true) = refl
flat_cmp-key (Number a) (Number b) = sym (ordering_then-Equal (int_cmp a b))
flat_cmp-key (DecimalNumber a) (DecimalNumber b) = sym (ordering_then-Equal (int_cmp a b))
flat_cmp-key (Text a) (Text b) = refl
flat_cmp-key (Bytes a) (Bytes b) = refl
flat_cmp-key a b = refl

-- an order that answers as a total one does is total
total_like : {X : Type 0} (R S : X → X → Ordering) → ((a b : X) → R a b ≡ S a b) → IsTotalOrder S → IsTotalOrder R
total_like R S same total = record {
  antisymm = λ a b. same a b ∙ total.antisymm a b ∙ ap ordering_reverse (sym (same b a));
  trans = λ a b c h g. same a c ∙ total.trans a b c (sym (same a b) ∙ h) (sym (same b c) ∙ g);
  congr = λ a b c h. same a c ∙ total.congr a b c (sym (same a b) ∙ h) ∙ sym (same b c);
}

-- the order of flat values is total
pub flat_total : IsTotalOrder flat_cmp
flat_total =
    total_like flat_cmp key_cmp flat_cmp-key
    (then_total (on_total kind_index nat_cmp_total) (then_total (on_total number_of int_cmp_total) (on_total bytes_of nat_list_cmp_total)))

value_back : (a b : Value) → value_cmp a b ≡ ordering_reverse (value_cmp b a)
value_back (Single a) (Single b) = flat_total.antisymm a b
value_back (Single a) (Items ys) = refl
value_back (Items xs) (Single b) = refl
value_back (Items xs) (Items ys) = refl

value_chain : (a b c : Value) → value_cmp a b ≡ Less → value_cmp b c ≡ Less → value_cmp a c ≡ Less
value_chain (Single a) (Single b) (Single c) h g = flat_total.trans a b c h g
value_chain (Single a) b (Items zs) h g = refl
value_chain (Single a) (Items ys) (Single c) h g = cc
value_chain (Items xs) (Single b) c h g = cc
value_chain (Items xs) (Items ys) c h g = cc

value_level : (a b c : Value) → value_cmp a b ≡ Equal → value_cmp a c ≡ value_cmp b c
value_level (Single a) (Single b) (Single c) h = flat_total.congr a b c h
value_level (Single a) (Single b) (Items zs) h = refl
value_level (Single a) (Items ys) c h = cc
value_level (Items xs) (Single b) c h = cc
value_level (Items xs) (Items ys) (Single c) h = refl
value_level (Items xs) (Items ys) (Items zs) h = refl

-- the order of values is total
pub value_total : IsTotalOrder value_cmp
value_total = record { antisymm = value_back; trans = value_chain; congr = value_level }

-- the order of rows is total
pub row_total : IsTotalOrder row_cmp
row_total = options_total value_total

-- integers that are equal in the order are one
int_equal : (a b : ℤ) → int_cmp a b ≡ Equal → a ≡ b
int_equal a b h = (Decides-int_eq a b).0 (ap is_eq h)

-- and so are bytes
bytes_equal : (a b : List ℕ) → slice_cmp nat_cmp a b ≡ Equal → a ≡ b
bytes_equal a b h = (bytes_eq-Decides a b).0 (sym (is_eq-slice_cmp a b) ∙ ap is_eq h)

-- flat values that are equal in the order are one
pub flat_equal : (a b : FlatValue) → flat_cmp a b ≡ Equal → a ≡ b
flat_equal (Truth false) (Truth false) h = refl
flat_equal (Truth false) (Truth true) h = cc
flat_equal (Truth true) (Truth false) h = cc
flat_equal (Truth true) (Truth true) h = refl
flat_equal (Number a) (Number b) h = ap Number (int_equal a b h)
flat_equal (DecimalNumber a) (DecimalNumber b) h = ap DecimalNumber (int_equal a b h)
flat_equal (Text a) (Text b) h = ap Text (bytes_equal a b h)
flat_equal (Bytes a) (Bytes b) h = ap Bytes (bytes_equal a b h)
flat_equal a b h = cc

-- and so are rows of flat values
pub row_equal : (a b : Option FlatValue) → row_cmp (option_map Single a) (option_map Single b) ≡ Equal → a ≡ b
row_equal None None h = refl
row_equal None (Some b) h = cc
row_equal (Some a) None h = cc
row_equal (Some a) (Some b) h = ap Some (flat_equal a b h)

-- in any total order, what is on one side of a row which is on that side of another is on that side
-- of the other too
pub side_chain : {X : Type 0} {R : X → X → Ordering} → IsTotalOrder R → (side : Ordering) (a b c : X) → R a b ≡ side → R b c ≡ side → R a c ≡ side
side_chain total Less a b c h g = total.trans a b c h g
side_chain total Equal a b c h g = total.congr a b c h ∙ g
side_chain {R = R} total Greater a b c h g =
    total.antisymm a c ∙ ap ordering_reverse (total.trans c b a (total.antisymm c b ∙ ap ordering_reverse g) (total.antisymm b a ∙ ap ordering_reverse h))
