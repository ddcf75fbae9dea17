use Rattle.std.proofs.Common.{◌+◌, ◌*◌, ◌%◌, ◌/◌, ◌∙◌, ℕ, ap, arith, take, set, inl, inr}
use Rattle.std.proofs.lemmas.Bool.{cases_lt, le-leb, lt-leb}
use Rattle.std.specs.Int.{from_bool}
use Rattle.column_fields.proofs.ShortVarintLaws.{put_one, put_two}
use Rattle.column_fields.proofs.short_varints.put_short.Goals as goal

pub returns-clause-bytes : goal.returns-clause-bytes
returns-clause-bytes c =
    let n = c.args.number in
    let bytes = c.args.bytes.now in
    let count = c.args.count in
    let first = n % 128 + c.from.result * 128 in
    let taken = λ (k : ℕ). take k (set (set bytes count first) (count + 1) (n / 128)) in
    elim (cases_lt n 128) [
      | inl below ↦ ap taken (omega (arith, c.from-2.ensures ∙ ap from_bool (lt-leb 128 n below)))
          ∙ put_one bytes count n first (n / 128) (omega (arith, c.told-bytes)) below (omega (arith, c.from.ensures ∙ ap from_bool (lt-leb 128 n below)))
      | inr above ↦ ap taken (omega (arith, c.from-2.ensures ∙ ap from_bool (le-leb 128 n above)))
          ∙ put_two bytes count n first (omega (arith, c.told-bytes)) above c.requires.short (omega (arith, c.from.ensures ∙ ap from_bool (le-leb 128 n above)))
    ]
