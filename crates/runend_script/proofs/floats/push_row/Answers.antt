use Rattle.std.proofs.Common.{◌≡◌, ◌≢◌, ◌++◌, OnOk, codes, rules}
use Rattle.std.specs.String.{string_bytes}
use Rattle.float_bits.specs.Format.{quiet_nan}
use Rattle.runend_script.proofs.FloatLines.{nan_pushed, null_pushed, written_pushed}
use Rattle.runend_script.proofs.floats.push_row.Goals as goal

pub returns-in-None : goal.returns-in-None
returns-in-None g c =
    let put : OnOk c.push_str.result (string_bytes c.push_str.new.self ≡ string_bytes c.args.line.now ++ codes " null") = search rules in
    rw c.in-None.is (null_pushed c.push_str.result c.args.format (string_bytes c.args.line.now) (string_bytes c.push_str.new.self) put)

pub returns-in-Some : goal.returns-in-Some
returns-in-Some g c =
    let same : c.in-Some.bits ≡ quiet_nan c.args.format = search rules in
    let put : OnOk c.push_str-in-Some.result (string_bytes c.push_str-in-Some.new.self ≡ string_bytes c.args.line.now ++ codes " nan") = search rules in
    rw c.in-Some.is (nan_pushed c.push_str-in-Some.result c.args.format c.in-Some.bits (string_bytes c.args.line.now) (string_bytes c.push_str-in-Some.new.self) same put)

pub returns-in_ok-push_str-in-Some-2 : goal.returns-in_ok-push_str-in-Some-2
returns-in_ok-push_str-in-Some-2 g c =
    let other : c.in-Some-2.bits ≢ quiet_nan c.args.format = search rules in
    rw c.in-Some-2.is (written_pushed c.push_float.result c.args.format c.in-Some-2.bits (string_bytes c.args.line.now) (string_bytes c.push_str-in-Some-2.new.self) (string_bytes c.push_float.new.text)
    other c.in_ok-push_str-in-Some-2.ensures.bytes c.push_float.ensures.written)
