-- Ends that are read, and run columns over values that are read.
use Rattle.std.proofs.Common.{◌≡◌, ℕ, ◌^◌, ◌<◌, true, List, [], ◌++◌, length, map, ℤ, refl, sym, ap, subst, ◌∙◌, arith}
use Rattle.std.specs.Prelude.{unsigned_abs}
use Rattle.std.proofs.lemmas.List.{length-append}
use Rattle.column_base.specs.declared.dtype.PType.{PType}
use Rattle.column_base.specs.ValidityForm.{NeverNull}
use Rattle.column_core.specs.PrimitiveForm.{PrimitiveForm, primitive_with}
use Rattle.column_fields.specs.Lengths.{lengths_bytes, Rises, AreEndsOf}
use Rattle.column_fields.proofs.EndReading.{lengths_same}
use Rattle.runend_windows.specs.Ends.{ends_of}
use Rattle.runend_array.specs.Column.{Column, OfRuns, AreRuns, runs_with, column_dtype}
use Rattle.column_bytes.specs.Bytes.{kind_number}
use Rattle.column_fields.specs.Header.{header_bytes}
use Rattle.column_bytes.specs.Read.{IsBody, IsNoBody, IsMessage, IsNoMessage, IsEndsColumn, AreRunsOf, AreNoRunsOf}
use Rattle.column_bytes.proofs.Messages.{no_body, is_message}
use Rattle.column_bytes.proofs.Ends.{ends_rise}

pub are_ends : (form : PrimitiveForm) (t u : PType) (lengths : List ℕ) (ns : List ℤ) → form ≡ primitive_with u ns NeverNull → u ≡ t → lengths ≡ lengths_bytes 0 (map unsigned_abs ns) → Rises true 0 (map unsigned_abs ns) → AreEndsOf t (map unsigned_abs ns) → IsEndsColumn t lengths form
are_ends form t u lengths ns is typed b rises fit =
    subst (λ (f : PrimitiveForm). IsEndsColumn t lengths f) (sym (is ∙ ap (λ (x : PType). primitive_with x ns NeverNull) typed)) (record {
      typed = refl;
      plain = fit.unsigned;
      fit = fit;
      rise = rises;
      spelt = b;
    })

pub are_runs : (kind rows offset : ℕ) (t : PType) (lengths : List ℕ) (form : PrimitiveForm) (values c : Column) → IsEndsColumn t lengths form → c ≡ OfRuns form.ptype (ends_of form) values offset rows → AreRuns (runs_with form.ptype (ends_of form) values offset rows) → kind_number (column_dtype values) ≡ kind → AreRunsOf kind rows offset t lengths values c
are_runs kind rows offset t lengths form values c e is runs k = record {
  ends = ends_of form;
  is = is ∙ ap (λ (x : PType). OfRuns x (ends_of form) values offset rows) e.typed;
  fit = e.fit;
  runs = subst (λ (x : PType). AreRuns (runs_with x (ends_of form) values offset rows)) e.typed runs;
  kind_is = k;
  spelt = e.spelt;
}

pub same_runs : (kind rows offset : ℕ) (t : PType) (lengths : List ℕ) (values c d : Column) → d ≡ c → AreRunsOf kind rows offset t lengths values c → AreRunsOf kind rows offset t lengths values d
same_runs kind rows offset t lengths values c d is h = subst (λ (x : Column). AreRunsOf kind rows offset t lengths values x) (sym is) h

pub no_runs_of : (kind rows offset : ℕ) (t : PType) (lengths : List ℕ) (form : PrimitiveForm) (values : Column) → IsEndsColumn t lengths form → (kind_number (column_dtype values) ≡ kind → ¬ AreRuns (runs_with form.ptype (ends_of form) values offset rows)) → AreNoRunsOf kind rows offset t lengths values
no_runs_of kind rows offset t lengths form values e absent = record {
  none = λ c r.
      let same : r.ends ≡ ends_of form = lengths_same true 0 r.ends (ends_of form) (ends_rise t r.ends values offset rows r.fit r.runs) e.rise (sym r.spelt ∙ e.spelt) in
      let runs : AreRuns (runs_with t (ends_of form) values offset rows) = subst (λ (x : List ℕ). AreRuns (runs_with t x values offset rows)) same r.runs in
      absent r.kind_is (subst (λ (x : PType). AreRuns (runs_with x (ends_of form) values offset rows)) (sym e.typed) runs);
}

pub stored_lengths : (xs ns : List ℤ) (ends first lengths seen : List ℕ) → first ≡ [] → lengths ≡ first ++ lengths_bytes 0 (map unsigned_abs xs) → xs ≡ ns → map unsigned_abs ns ≡ ends → seen ≡ lengths → seen ≡ lengths_bytes 0 ends
stored_lengths xs ns ends first lengths seen f l x e s =
    s ∙ l ∙ ap (λ (p : List ℕ). p ++ lengths_bytes 0 (map unsigned_abs xs)) f ∙ ap (λ (y : List ℤ). lengths_bytes 0 (map unsigned_abs y)) x ∙ ap (λ (y : List ℕ). lengths_bytes 0 y) e

pub stored_fit : (t u v : PType) (xs ns : List ℤ) (ends : List ℕ) → t ≡ u → u ≡ v → xs ≡ ns → map unsigned_abs ns ≡ ends → AreEndsOf t (map unsigned_abs xs) → AreEndsOf v ends
stored_fit t u v xs ns ends a b x e h =
    subst (λ (y : List ℕ). AreEndsOf v y) (ap (λ (zs : List ℤ). map unsigned_abs zs) x ∙ e) (subst (λ (w : PType). AreEndsOf w (map unsigned_abs xs)) (a ∙ b) h)

-- a message of a form that is known
pub no_body_of : (levels kind form known rows : ℕ) (bytes rest : List ℕ) → kind < 2 ^ 64 → form < 2 ^ 64 → rows < 2 ^ 64 → form ≡ known → bytes ≡ header_bytes kind form rows ++ rest → IsNoBody levels kind known rows rest → IsNoMessage levels bytes
no_body_of levels kind form known rows bytes rest p q r is b absent = no_body levels kind form rows bytes rest p q r b (subst (λ (n : ℕ). IsNoBody levels kind n rows rest) (sym is) absent)

pub body_message : (levels kind form known rows : ℕ) (bytes rest : List ℕ) (c : Column) → form ≡ known → bytes ≡ header_bytes kind form rows ++ rest → IsBody levels kind known rows rest c → IsMessage levels bytes c
body_message levels kind form known rows bytes rest c is b h = is_message levels levels kind known rows bytes rest c (omega arith) (b ∙ ap (λ (n : ℕ). header_bytes kind n rows ++ rest) is) h

pub rest_small : (kind form rows : ℕ) (bytes rest : List ℕ) → length bytes < 2 ^ 64 → bytes ≡ header_bytes kind form rows ++ rest → length rest < 2 ^ 64
rest_small kind form rows bytes rest lt b = omega (arith, ap length b, length-append (header_bytes kind form rows) rest)
