use Rattle.std.proofs.Common.{◌≡◌, IfOk, IfSome, rules}
use Rattle.std.specs.String.{string_bytes}
use Rattle.std.specs.Fmt.{styled_digits_output}
use Rattle.column_words.proofs.HexPairs.{two_digits}
use Rattle.column_words.proofs.bytes.digits_of_byte.Goals as goal

pub returns : goal.returns
returns g c =
    let pair = two_digits c.args.byte (search rules) in
    let known : IfOk c.format.result (λ digits. IfSome (styled_digits_output c.in_radix.result c.laid_out.result) (λ bytes. string_bytes digits ≡ bytes)) = c.format.ensures.ok in
    rw (c.in_radix.ensures, c.laid_out.ensures, pair) at known
