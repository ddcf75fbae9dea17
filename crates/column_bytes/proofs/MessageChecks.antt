-- Bytes that are found to be a message.
use Rattle.std.proofs.Common.{◌≡◌, ◌∙◌, ℕ, ◌+◌, ◌^◌, ◌<◌, ◌≤◌, List, ◌++◌, length, ap, arith}
use Rattle.column_base.specs.declared.dtype.PType.{PType}
use Rattle.column_fields.specs.Header.{header_bytes}
use Rattle.column_fields.specs.RunFields.{run_fields}
use Rattle.runend_array.specs.Column.{Column}
use Rattle.column_bytes.specs.Read.{IsMessage, IsBody, IsNoBody, JoinsRuns, JoinsNoRuns}
use Rattle.column_bytes.proofs.Messages.{fields_are, is_message, no_runs, runs_at, runs_body}
use Rattle.column_bytes.proofs.RunLaws.{body_message}

-- a flat column, a constant, or lists
pub body_found : (least levels kind form known rows : ℕ) (bytes rest : List ℕ) → least ≤ levels → form ≡ known → bytes ≡ header_bytes kind form rows ++ rest → (c : Column) × IsBody least kind known rows rest c → (c : Column) × IsMessage levels bytes c
body_found least levels kind form known rows bytes rest le is b h =
    (h.0, is_message least levels kind known rows bytes rest h.0 le (b ∙ ap (λ (n : ℕ). header_bytes kind n rows ++ rest) is) h.1)

-- runs over values that are a message
pub runs_found : (levels below kind form rows offset : ℕ) (t : PType) (lengths values bytes rest : List ℕ) → below + 1 ≡ levels → form ≡ 2 → bytes ≡ header_bytes kind form rows ++ rest → rest ≡ run_fields offset t lengths values → JoinsRuns kind rows offset t lengths values → (v : Column) × IsMessage below values v → (c : Column) × IsMessage levels bytes c
runs_found levels below kind form rows offset t lengths values bytes rest next is b f joins found =
    let made = joins.some below found.0 found.1 in
    (made.0, body_message levels kind form 2 rows bytes rest made.0 is b (runs_body levels below kind rows offset t lengths values rest found.0 made.0 next f found.1 made.1))

-- runs that these fields do not make
pub no_joined : (levels below kind rows offset : ℕ) (t : PType) (lengths values rest : List ℕ) → below + 1 ≡ levels → length rest < 2 ^ 64 → offset < 2 ^ 64 → length lengths < 2 ^ 64 → length values < 2 ^ 64 → rest ≡ run_fields offset t lengths values → JoinsNoRuns kind rows offset t lengths values → IsNoBody levels kind 2 rows rest
no_joined levels below kind rows offset t lengths values rest next lt p q r f absent = record {
  none = λ c h.
      let at = runs_at c levels kind rows rest h in
      let s = fields_are levels kind rows offset t lengths values rest c lt p q r f at in
      let m : IsMessage below values at.values = record { writable = record { stored = at.stored; shallow = omega (arith, at.shallow, next) }; packed = at.packed; spelt = s.3 } in
      (no_runs levels below kind rows offset t lengths values rest at.values next lt p q r f m (absent.none below at.values m)).none c h;
}
