use Rattle.std.proofs.Common.{◌∙◌, ◌%◌, ◌/◌, arith, w64}
use Rattle.std.proofs.lemmas.Int.{to_z-of_z}
use Rattle.c_kernels.proofs.PartEndings.{number_again}
use Rattle.c_kernels.proofs.part_calls.words_of.Goals as goal

pub returns : goal.returns
returns c =
    let back = to_z-of_z w64 c.cast_signed.result (record { sfits = c.cast_signed.type_inv }) in
    number_again c.args.number (c.args.number % 18446744073709551616) (c.args.number / 18446744073709551616) _ (omega arith) (omega arith) (omega arith) (back ∙ c.cast_signed.ensures)
