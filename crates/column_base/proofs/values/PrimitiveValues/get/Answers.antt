use Rattle.std.proofs.Common.{ℤ, pos, map, sym, ap, ◌∙◌}
use Rattle.std.proofs.lemmas.List.{map-id}
use Rattle.column_base.specs.Numbers.{numbers}
use Rattle.column_base.proofs.Arms.{below-arm, number-arm}
use Rattle.column_base.proofs.values.PrimitiveValues.get.Goals as goal

pub number_at-requires : goal.number_at-requires
number_at-requires g c =
    let shown = ap (map pos) c.as_slice.ensures.value ∙ sym (ap numbers c.in-U8.is) in
    below-arm pos c.as_slice.result.now (numbers c.args.self.now) c.args.index shown c.requires

pub returns-in-U8 : goal.returns-in-U8
returns-in-U8 g c =
    let shown = ap (map pos) c.as_slice.ensures.value ∙ sym (ap numbers c.in-U8.is) in
    number-arm (map pos c.as_slice.result.now) (numbers c.args.self.now) c.args.index c.number_at.result shown (record { sfits = c.number_at.type_inv }) c.number_at.ensures

pub number_at-requires-in-U16 : goal.number_at-requires-in-U16
number_at-requires-in-U16 g c =
    let shown = ap (map pos) c.as_slice-in-U16.ensures.value ∙ sym (ap numbers c.in-U16.is) in
    below-arm pos c.as_slice-in-U16.result.now (numbers c.args.self.now) c.args.index shown c.requires

pub returns-in-U16 : goal.returns-in-U16
returns-in-U16 g c =
    let shown = ap (map pos) c.as_slice-in-U16.ensures.value ∙ sym (ap numbers c.in-U16.is) in
    number-arm (map pos c.as_slice-in-U16.result.now) (numbers c.args.self.now) c.args.index c.number_at-in-U16.result shown (record { sfits = c.number_at-in-U16.type_inv }) c.number_at-in-U16.ensures

pub number_at-requires-in-U32 : goal.number_at-requires-in-U32
number_at-requires-in-U32 g c =
    let shown = ap (map pos) c.as_slice-in-U32.ensures.value ∙ sym (ap numbers c.in-U32.is) in
    below-arm pos c.as_slice-in-U32.result.now (numbers c.args.self.now) c.args.index shown c.requires

pub returns-in-U32 : goal.returns-in-U32
returns-in-U32 g c =
    let shown = ap (map pos) c.as_slice-in-U32.ensures.value ∙ sym (ap numbers c.in-U32.is) in
    number-arm (map pos c.as_slice-in-U32.result.now) (numbers c.args.self.now) c.args.index c.number_at-in-U32.result shown (record { sfits = c.number_at-in-U32.type_inv }) c.number_at-in-U32.ensures

pub number_at-requires-in-U64 : goal.number_at-requires-in-U64
number_at-requires-in-U64 g c =
    let shown = ap (map pos) c.as_slice-in-U64.ensures.value ∙ sym (ap numbers c.in-U64.is) in
    below-arm pos c.as_slice-in-U64.result.now (numbers c.args.self.now) c.args.index shown c.requires

pub returns-in-U64 : goal.returns-in-U64
returns-in-U64 g c =
    let shown = ap (map pos) c.as_slice-in-U64.ensures.value ∙ sym (ap numbers c.in-U64.is) in
    number-arm (map pos c.as_slice-in-U64.result.now) (numbers c.args.self.now) c.args.index c.number_at-in-U64.result shown (record { sfits = c.number_at-in-U64.type_inv }) c.number_at-in-U64.ensures

pub number_at-requires-in-I8 : goal.number_at-requires-in-I8
number_at-requires-in-I8 g c =
    let shown = map-id c.as_slice-in-I8.result.now ∙ c.as_slice-in-I8.ensures.value ∙ sym (ap numbers c.in-I8.is) in
    below-arm (λ (n : ℤ). n) c.as_slice-in-I8.result.now (numbers c.args.self.now) c.args.index shown c.requires

pub returns-in-I8 : goal.returns-in-I8
returns-in-I8 g c =
    let shown = map-id c.as_slice-in-I8.result.now ∙ c.as_slice-in-I8.ensures.value ∙ sym (ap numbers c.in-I8.is) in
    number-arm (map (λ (n : ℤ). n) c.as_slice-in-I8.result.now) (numbers c.args.self.now) c.args.index c.number_at-in-I8.result shown (record { sfits = c.number_at-in-I8.type_inv }) c.number_at-in-I8.ensures

pub number_at-requires-in-I16 : goal.number_at-requires-in-I16
number_at-requires-in-I16 g c =
    let shown = map-id c.as_slice-in-I16.result.now ∙ c.as_slice-in-I16.ensures.value ∙ sym (ap numbers c.in-I16.is) in
    below-arm (λ (n : ℤ). n) c.as_slice-in-I16.result.now (numbers c.args.self.now) c.args.index shown c.requires

pub returns-in-I16 : goal.returns-in-I16
returns-in-I16 g c =
    let shown = map-id c.as_slice-in-I16.result.now ∙ c.as_slice-in-I16.ensures.value ∙ sym (ap numbers c.in-I16.is) in
    number-arm (map (λ (n : ℤ). n) c.as_slice-in-I16.result.now) (numbers c.args.self.now) c.args.index c.number_at-in-I16.result shown (record { sfits = c.number_at-in-I16.type_inv }) c.number_at-in-I16.ensures

pub number_at-requires-in-I32 : goal.number_at-requires-in-I32
number_at-requires-in-I32 g c =
    let shown = map-id c.as_slice-in-I32.result.now ∙ c.as_slice-in-I32.ensures.value ∙ sym (ap numbers c.in-I32.is) in
    below-arm (λ (n : ℤ). n) c.as_slice-in-I32.result.now (numbers c.args.self.now) c.args.index shown c.requires

pub returns-in-I32 : goal.returns-in-I32
returns-in-I32 g c =
    let shown = map-id c.as_slice-in-I32.result.now ∙ c.as_slice-in-I32.ensures.value ∙ sym (ap numbers c.in-I32.is) in
    number-arm (map (λ (n : ℤ). n) c.as_slice-in-I32.result.now) (numbers c.args.self.now) c.args.index c.number_at-in-I32.result shown (record { sfits = c.number_at-in-I32.type_inv }) c.number_at-in-I32.ensures

pub number_at-requires-in-I64 : goal.number_at-requires-in-I64
number_at-requires-in-I64 g c =
    let shown = map-id c.as_slice-in-I64.result.now ∙ c.as_slice-in-I64.ensures.value ∙ sym (ap numbers c.in-I64.is) in
    below-arm (λ (n : ℤ). n) c.as_slice-in-I64.result.now (numbers c.args.self.now) c.args.index shown c.requires

pub returns-in-I64 : goal.returns-in-I64
returns-in-I64 g c =
    let shown = map-id c.as_slice-in-I64.result.now ∙ c.as_slice-in-I64.ensures.value ∙ sym (ap numbers c.in-I64.is) in
    number-arm (map (λ (n : ℤ). n) c.as_slice-in-I64.result.now) (numbers c.args.self.now) c.args.index c.number_at-in-I64.result shown (record { sfits = c.number_at-in-I64.type_inv }) c.number_at-in-I64.ensures
