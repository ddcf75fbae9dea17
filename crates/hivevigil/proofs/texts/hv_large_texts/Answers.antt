use Rattle.std.proofs.Common.{sym, subst, w32, ℤ}
use Rattle.std.proofs.lemmas.Int.{to_z-of_z}
use Rattle.c_columns.specs.Ending.{EndsUnless}
use Rattle.c_columns.specs.Kinds.{varbin_kind_by}
use Rattle.c_columns.specs.Makers.{TextsFault}
use Rattle.hivevigil.proofs.PartEndings.{texts_end}
use Rattle.hivevigil.proofs.texts.hv_large_texts.Goals as goal

pub returns-clause-ended : goal.returns-clause-ended
returns-clause-ended c =
    let back = to_z-of_z w32 c.answer.result (record { sfits = c.answer.type_inv }) in
    subst (λ (code : ℤ). EndsUnless (TextsFault (varbin_kind_by c.args.binary) c.args.offsets.now c.args.bytes.now c.args.nulls c.args.bits.now c.args.first) code c.answer.new.error) (sym back)
    (texts_end c.varbin_kind.result (varbin_kind_by c.args.binary) c.args.offsets.now c.args.bytes.now c.args.nulls c.args.bits.now c.args.first c.varbin_kind.ensures c.texts.result (λ made. made.value) c.answer.new.out.column _
    c.answer.result c.answer.new.error c.texts.ensures.served c.texts.ensures.refused c.answer.ensures.ok c.answer.ensures.err)
