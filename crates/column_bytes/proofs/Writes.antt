-- What is written is the message of the column.
use Rattle.std.proofs.Common.{◌≡◌, ℕ, ◌+◌, ◌*◌, ◌/◌, ◌^◌, ◌<◌, Bool, List, ◌++◌, length, ℤ, All, sym, ap, subst, ◌∙◌, arith, append_assoc}
use Rattle.std.specs.Int.{w128}
use Rattle.std.specs.Int.RustNames.{FitsSigned}
use Rattle.column_base.specs.declared.dtype.DecimalDType.{DecimalDType}
use Rattle.column_base.specs.declared.dtype.PType.{PType}
use Rattle.column_base.specs.Types.{HasNumber}
use Rattle.column_base.specs.ValidityForm.{ValidityForm, HasLength}
use Rattle.column_core.specs.PrimitiveForm.{PrimitiveForm}
use Rattle.column_core.specs.BoolForm.{BoolForm}
use Rattle.column_core.specs.DecimalForm.{DecimalForm}
use Rattle.column_core.specs.Leaf.{OfNumbers, OfTruths, OfDecimals, OfVarBins}
use Rattle.column_core.specs.VarBinForm.{VarBinForm, varbin_dtype}
use Rattle.column_bytes.specs.Texts.{text_bytes, text_fields, text_sizes}
use Rattle.column_fields.specs.Varint.{varint}
use Rattle.column_fields.specs.BitBytes.{bit_bytes}
use Rattle.column_fields.specs.DecimalBytes.{decimals_bytes}
use Rattle.column_fields.specs.DecimalFields.{IsDecimalType, decimal_type, decimal_fields}
use Rattle.column_fields.specs.FlatFields.{flat_fields}
use Rattle.column_fields.specs.Header.{header_bytes}
use Rattle.column_fields.specs.Lengths.{lengths_bytes}
use Rattle.column_fields.specs.NumberBytes.{numbers_bytes, size_of}
use Rattle.column_fields.specs.RunFields.{run_fields}
use Rattle.column_fields.specs.Types.{type_number}
use Rattle.column_fields.specs.Validity.{validity_field}
use Rattle.column_fields.proofs.BitReading.{length-bit_bytes}
use Rattle.column_fields.proofs.DecimalFieldLaws.{puts_decimals as puts_decimal_fields}
use Rattle.column_fields.proofs.DecimalLaws.{length-decimals_bytes}
use Rattle.column_fields.proofs.FlatFieldLaws.{puts_flat}
use Rattle.column_fields.proofs.NumberSame.{length-numbers_bytes}
use Rattle.runend_array.specs.Column.{OfLeaf, Runs, column_of_runs, column_dtype}
use Rattle.column_bytes.specs.Bytes.{kind_number, column_bytes}
use Rattle.column_bytes.specs.Stored.{AreNumbers, AreDecimals}
use Rattle.column_bytes.proofs.Leaves.{leaf_body}
use Rattle.column_bytes.proofs.Messages.{run_body}

pub puts_numbers : (f : PrimitiveForm) (t u : PType) (v : ValidityForm) (ns : List ℤ) (kind rows count : ℕ) (old a b c new : List ℕ) → t ≡ f.ptype → u ≡ f.ptype → v ≡ f.validity → ns ≡ f.numbers → rows ≡ length f.numbers → kind ≡ type_number t → count ≡ rows * size_of t → a ≡ old ++ header_bytes kind 1 rows → b ≡ a ++ validity_field v → c ≡ b ++ (varint (7 * 8 + 2) ++ varint count) → new ≡ c ++ numbers_bytes u ns → new ≡ old ++ column_bytes (OfLeaf (OfNumbers f))
puts_numbers f t u v ns kind rows count old a b c new t-is u-is v-is ns-is rows-is k n p q r s =
    let items : List ℕ = numbers_bytes f.ptype f.numbers in
    let n' : count ≡ length f.numbers * size_of f.ptype = cc in
    let k' : kind ≡ type_number f.ptype = cc in
    let q' : b ≡ a ++ validity_field f.validity = cc in
    let s' : new ≡ c ++ items = cc in
    let p' : a ≡ old ++ header_bytes (type_number f.ptype) 1 (length f.numbers) = cc in
    let fields : new ≡ a ++ flat_fields f.validity items = puts_flat f.validity items count a b c new (n' ∙ sym (length-numbers_bytes f.ptype f.numbers)) q' r s' in
    fields ∙ ap (λ (x : List ℕ). x ++ flat_fields f.validity items) p' ∙ append_assoc old (header_bytes (type_number f.ptype) 1 (length f.numbers)) (flat_fields f.validity items) ∙ ap (λ (x : List ℕ). old ++ (header_bytes (type_number f.ptype) 1 (length f.numbers) ++ x)) (sym (leaf_body (OfNumbers f)))

pub stored_numbers : (f : PrimitiveForm) (u : PType) (ns : List ℤ) (rows : ℕ) → u ≡ f.ptype → ns ≡ f.numbers → rows ≡ length f.numbers → rows < 2 ^ 64 → All (λ n. HasNumber u n) ns → HasLength f.validity (length f.numbers) → AreNumbers f
stored_numbers f u ns rows u-is n-is r-is small fits counted = record {
  fit = subst (λ (xs : List ℤ). All (λ n. HasNumber f.ptype n) xs) n-is (subst (λ (x : PType). All (λ n. HasNumber x n) ns) u-is fits);
  counted = counted;
  small = omega (arith, r-is);
}

pub puts_truths : (f : BoolForm) (v : ValidityForm) (bits : List Bool) (kind rows count : ℕ) (old a b c new : List ℕ) → v ≡ f.validity → bits ≡ f.bits → rows ≡ length f.bits → kind ≡ 9 → count ≡ (rows + 7) / 8 → a ≡ old ++ header_bytes kind 1 rows → b ≡ a ++ validity_field v → c ≡ b ++ (varint (7 * 8 + 2) ++ varint count) → new ≡ c ++ bit_bytes bits → new ≡ old ++ column_bytes (OfLeaf (OfTruths f))
puts_truths f v bits kind rows count old a b c new v-is bits-is rows-is k n p q r s =
    let items : List ℕ = bit_bytes f.bits in
    let n' : count ≡ (length f.bits + 7) / 8 = n ∙ ap (λ (x : ℕ). (x + 7) / 8) rows-is in
    let q' : b ≡ a ++ validity_field f.validity = cc in
    let s' : new ≡ c ++ items = cc in
    let p' : a ≡ old ++ header_bytes 9 1 (length f.bits) = cc in
    let fields : new ≡ a ++ flat_fields f.validity items = puts_flat f.validity items count a b c new (n' ∙ sym (length-bit_bytes f.bits)) q' r s' in
    fields ∙ ap (λ (x : List ℕ). x ++ flat_fields f.validity items) p' ∙ append_assoc old (header_bytes 9 1 (length f.bits)) (flat_fields f.validity items) ∙ ap (λ (x : List ℕ). old ++ (header_bytes 9 1 (length f.bits) ++ x)) (sym (leaf_body (OfTruths f)))

pub puts_decimals : (f : DecimalForm) (v : ValidityForm) (d : DecimalDType) (ns : List ℤ) (kind rows count : ℕ) (old a b c e new : List ℕ) → v ≡ f.validity → d ≡ f.decimal → ns ≡ f.numbers → rows ≡ length f.numbers → kind ≡ 10 → count ≡ rows * 16 → a ≡ old ++ header_bytes kind 1 rows → b ≡ a ++ validity_field v → c ≡ b ++ (varint (7 * 8 + 2) ++ varint count) → e ≡ c ++ decimals_bytes ns → new ≡ e ++ decimal_type d → new ≡ old ++ column_bytes (OfLeaf (OfDecimals f))
puts_decimals f v d ns kind rows count old a b c e new v-is d-is n-is r-is k m p q r s t =
    let items : List ℕ = decimals_bytes f.numbers in
    let m' : count ≡ length f.numbers * 16 = m ∙ ap (λ (x : ℕ). x * 16) r-is in
    let q' : b ≡ a ++ validity_field f.validity = cc in
    let s' : e ≡ c ++ items = cc in
    let t' : new ≡ e ++ decimal_type f.decimal = cc in
    let p' : a ≡ old ++ header_bytes 10 1 (length f.numbers) = cc in
    let fields : new ≡ a ++ decimal_fields f.validity f.decimal items = puts_decimal_fields f.validity f.decimal items count a b c e new (m' ∙ sym (length-decimals_bytes f.numbers)) q' r s' t' in
    fields ∙ ap (λ (x : List ℕ). x ++ decimal_fields f.validity f.decimal items) p' ∙ append_assoc old (header_bytes 10 1 (length f.numbers)) (decimal_fields f.validity f.decimal items) ∙ ap (λ (x : List ℕ). old ++ (header_bytes 10 1 (length f.numbers) ++ x)) (sym (leaf_body (OfDecimals f)))

pub stored_decimals : (f : DecimalForm) (d : DecimalDType) (ns : List ℤ) (rows : ℕ) → d ≡ f.decimal → ns ≡ f.numbers → rows ≡ length f.numbers → rows < 2 ^ 64 → All (λ n. FitsSigned w128 n) ns → IsDecimalType d → HasLength f.validity (length f.numbers) → AreDecimals f
stored_decimals f d ns rows d-is n-is r-is small fits typed counted = record {
  typed = subst (λ (x : DecimalDType). IsDecimalType x) d-is typed;
  fit = subst (λ (xs : List ℤ). All (λ n. FitsSigned w128 n) xs) n-is fits;
  counted = counted;
  small = omega (arith, r-is);
}

pub puts_text_rows : (f : VarBinForm) (kind rows : ℕ) (old a new : List ℕ) → kind ≡ kind_number (varbin_dtype f) → rows ≡ length f.views → a ≡ old ++ header_bytes kind 1 rows → new ≡ a ++ text_fields f.validity (text_sizes f) (text_bytes f) → new ≡ old ++ column_bytes (OfLeaf (OfVarBins f))
puts_text_rows f kind rows old a new k r p q =
    let fields : List ℕ = text_fields f.validity (text_sizes f) (text_bytes f) in
    let header : List ℕ = header_bytes (kind_number (varbin_dtype f)) 1 (length f.views) in
    let p' : a ≡ old ++ header = p ∙ ap (λ (n : ℕ). old ++ header_bytes n 1 rows) k ∙ ap (λ (n : ℕ). old ++ header_bytes (kind_number (varbin_dtype f)) 1 n) r in
    q ∙ ap (λ (x : List ℕ). x ++ fields) p' ∙ append_assoc old header fields ∙ ap (λ (x : List ℕ). old ++ (header ++ x)) (sym (leaf_body (OfVarBins f)))

pub puts_runs : (r : Runs) (t : PType) (kind rows offset : ℕ) (lengths values old a new : List ℕ) → t ≡ r.ends_type → kind ≡ kind_number (column_dtype r.values) → rows ≡ r.count → offset ≡ r.offset → lengths ≡ lengths_bytes 0 r.ends → values ≡ column_bytes r.values → a ≡ old ++ header_bytes kind 2 rows → new ≡ a ++ run_fields offset t lengths values → new ≡ old ++ column_bytes (column_of_runs r)
puts_runs r t kind rows offset lengths values old a new t-is k rows-is o l v p q =
    let header : List ℕ = header_bytes (kind_number (column_dtype r.values)) 2 r.count in
    let fields : List ℕ = run_fields r.offset r.ends_type (lengths_bytes 0 r.ends) (column_bytes r.values) in
    let p' : a ≡ old ++ header = cc in
    let q' : new ≡ a ++ fields = cc in
    q' ∙ ap (λ (x : List ℕ). x ++ fields) p' ∙ append_assoc old header fields ∙ ap (λ (x : List ℕ). old ++ (header ++ x)) (sym (run_body r.ends_type r.ends r.values r.offset r.count))
