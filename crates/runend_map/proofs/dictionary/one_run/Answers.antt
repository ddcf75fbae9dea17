use Rattle.std.proofs.Common.{◌<◌, ◌^◌, arith}
use Rattle.column_base.specs.Numbers.{numbers, ptype_of}
use Rattle.runend_map.proofs.OneRun.{one_parts, one_plain}
use Rattle.runend_map.proofs.dictionary.one_run.Goals as goal

pub new_unchecked-requires : goal.new_unchecked-requires
new_unchecked-requires g c =
    let small : c.len-count.result < 2 ^ 64 = omega arith in
    one_parts c.args.constant.now c.in_ok-value.value c.len-count.result (ptype_of c.wrap.result) (numbers c.wrap.result) c.in_ok-ends.ends.items c.new_unchecked-ends.result c.requires.some c.len-count.ensures small
    c.wrap.ensures.typed c.wrap.ensures.shows (c.in_ok-ends.ensures.items_if_clones_equal (λ y e. e)) c.new_unchecked-ends.ensures c.in_ok-value.ensures.form

pub returns-clause-plain : goal.returns-clause-plain
returns-clause-plain g c =
    let small : c.len-count.result < 2 ^ 64 = omega arith in
    one_plain c.args.constant.now c.in_ok-value.value c.len-count.result (ptype_of c.wrap.result) (numbers c.wrap.result) c.in_ok-ends.ends.items c.new_unchecked-ends.result c.requires.some c.len-count.ensures small
    c.wrap.ensures.typed c.wrap.ensures.shows (c.in_ok-ends.ensures.items_if_clones_equal (λ y e. e)) c.new_unchecked-ends.ensures c.in_ok-value.ensures.form c.new_unchecked.result c.new_unchecked.ensures
