use Rattle.std.proofs.Common.{ℤ, pos, map, sym, ap, ◌∙◌, ◌*◌}
use Rattle.std.proofs.lemmas.List.{map-id}
use Rattle.column_base.specs.Numbers.{numbers}
use Rattle.column_base.proofs.Arms.{below-arm}
use Rattle.runend_encode.proofs.RowTests.{go_on-arm}
use Rattle.runend_encode.proofs.item_changes.changed_integers.Goals as goal

pub changed_items-requires : goal.changed_items-requires
changed_items-requires g c =
    let shown = ap (map pos) c.as_slice.ensures.value ∙ sym (ap numbers c.in-U8-match_each_native.is) in
    below-arm pos c.as_slice.result.now (numbers c.args.values.now) (c.args.index * 64) shown c.requires

pub returns-in-U8-match_each_native : goal.returns-in-U8-match_each_native
returns-in-U8-match_each_native g c =
    let shown = ap (map pos) c.as_slice.ensures.value ∙ sym (ap numbers c.in-U8-match_each_native.is) in
    go_on-arm pos c.as_slice.result.now (numbers c.args.values.now) c.args.index c.changed_items.result shown c.changed_items.ensures

pub changed_items-requires-2 : goal.changed_items-requires-2
changed_items-requires-2 g c =
    let shown = ap (map pos) c.as_slice-2.ensures.value ∙ sym (ap numbers c.in-U16-match_each_native.is) in
    below-arm pos c.as_slice-2.result.now (numbers c.args.values.now) (c.args.index * 64) shown c.requires

pub returns-in-U16-match_each_native : goal.returns-in-U16-match_each_native
returns-in-U16-match_each_native g c =
    let shown = ap (map pos) c.as_slice-2.ensures.value ∙ sym (ap numbers c.in-U16-match_each_native.is) in
    go_on-arm pos c.as_slice-2.result.now (numbers c.args.values.now) c.args.index c.changed_items-2.result shown c.changed_items-2.ensures

pub changed_items-requires-3 : goal.changed_items-requires-3
changed_items-requires-3 g c =
    let shown = ap (map pos) c.as_slice-3.ensures.value ∙ sym (ap numbers c.in-U32-match_each_native.is) in
    below-arm pos c.as_slice-3.result.now (numbers c.args.values.now) (c.args.index * 64) shown c.requires

pub returns-in-U32-match_each_native : goal.returns-in-U32-match_each_native
returns-in-U32-match_each_native g c =
    let shown = ap (map pos) c.as_slice-3.ensures.value ∙ sym (ap numbers c.in-U32-match_each_native.is) in
    go_on-arm pos c.as_slice-3.result.now (numbers c.args.values.now) c.args.index c.changed_items-3.result shown c.changed_items-3.ensures

pub changed_items-requires-4 : goal.changed_items-requires-4
changed_items-requires-4 g c =
    let shown = ap (map pos) c.as_slice-4.ensures.value ∙ sym (ap numbers c.in-U64-match_each_native.is) in
    below-arm pos c.as_slice-4.result.now (numbers c.args.values.now) (c.args.index * 64) shown c.requires

pub returns-in-U64-match_each_native : goal.returns-in-U64-match_each_native
returns-in-U64-match_each_native g c =
    let shown = ap (map pos) c.as_slice-4.ensures.value ∙ sym (ap numbers c.in-U64-match_each_native.is) in
    go_on-arm pos c.as_slice-4.result.now (numbers c.args.values.now) c.args.index c.changed_items-4.result shown c.changed_items-4.ensures

pub changed_items-requires-5 : goal.changed_items-requires-5
changed_items-requires-5 g c =
    let shown = map-id c.as_slice-5.result.now ∙ c.as_slice-5.ensures.value ∙ sym (ap numbers c.in-I8-match_each_native.is) in
    below-arm (λ (n : ℤ). n) c.as_slice-5.result.now (numbers c.args.values.now) (c.args.index * 64) shown c.requires

pub returns-in-I8-match_each_native : goal.returns-in-I8-match_each_native
returns-in-I8-match_each_native g c =
    let shown = map-id c.as_slice-5.result.now ∙ c.as_slice-5.ensures.value ∙ sym (ap numbers c.in-I8-match_each_native.is) in
    go_on-arm (λ (n : ℤ). n) c.as_slice-5.result.now (numbers c.args.values.now) c.args.index c.changed_items-5.result shown c.changed_items-5.ensures

pub changed_items-requires-6 : goal.changed_items-requires-6
changed_items-requires-6 g c =
    let shown = map-id c.as_slice-6.result.now ∙ c.as_slice-6.ensures.value ∙ sym (ap numbers c.in-I16-match_each_native.is) in
    below-arm (λ (n : ℤ). n) c.as_slice-6.result.now (numbers c.args.values.now) (c.args.index * 64) shown c.requires

pub returns-in-I16-match_each_native : goal.returns-in-I16-match_each_native
returns-in-I16-match_each_native g c =
    let shown = map-id c.as_slice-6.result.now ∙ c.as_slice-6.ensures.value ∙ sym (ap numbers c.in-I16-match_each_native.is) in
    go_on-arm (λ (n : ℤ). n) c.as_slice-6.result.now (numbers c.args.values.now) c.args.index c.changed_items-6.result shown c.changed_items-6.ensures

pub changed_items-requires-7 : goal.changed_items-requires-7
changed_items-requires-7 g c =
    let shown = map-id c.as_slice-7.result.now ∙ c.as_slice-7.ensures.value ∙ sym (ap numbers c.in-I32-match_each_native.is) in
    below-arm (λ (n : ℤ). n) c.as_slice-7.result.now (numbers c.args.values.now) (c.args.index * 64) shown c.requires

pub returns-in-I32-match_each_native : goal.returns-in-I32-match_each_native
returns-in-I32-match_each_native g c =
    let shown = map-id c.as_slice-7.result.now ∙ c.as_slice-7.ensures.value ∙ sym (ap numbers c.in-I32-match_each_native.is) in
    go_on-arm (λ (n : ℤ). n) c.as_slice-7.result.now (numbers c.args.values.now) c.args.index c.changed_items-7.result shown c.changed_items-7.ensures

pub changed_items-requires-8 : goal.changed_items-requires-8
changed_items-requires-8 g c =
    let shown = map-id c.as_slice-8.result.now ∙ c.as_slice-8.ensures.value ∙ sym (ap numbers c.in-I64-match_each_native.is) in
    below-arm (λ (n : ℤ). n) c.as_slice-8.result.now (numbers c.args.values.now) (c.args.index * 64) shown c.requires

pub returns-in-I64-match_each_native : goal.returns-in-I64-match_each_native
returns-in-I64-match_each_native g c =
    let shown = map-id c.as_slice-8.result.now ∙ c.as_slice-8.ensures.value ∙ sym (ap numbers c.in-I64-match_each_native.is) in
    go_on-arm (λ (n : ℤ). n) c.as_slice-8.result.now (numbers c.args.values.now) c.args.index c.changed_items-8.result shown c.changed_items-8.ensures
