use Rattle.std.proofs.Common.{◌∙◌, arith, map, refl}
use Rattle.std.proofs.lemmas.List.{length-map}
use Rattle.typed_columns.specs.Typed.{typed_of}
use Rattle.tables.proofs.Appends.{all_joined, joinable_at, joined_more, none_joined, same_length}
use Rattle.tables.proofs.joined.join_each.Goals as goal

pub loop-place-init : goal.loop-place-init
loop-place-init g c = record {
  joined = none_joined c.in_ok-kept.kept.items c.in_ok-kept.ensures.items;
  room = c.in_ok-kept.ensures.capacity;
  counted = c.in_ok-kept.ensures.len;
  session = refl;
}

pub offset_bounds-others-place : goal.offset_bounds-others-place
offset_bounds-others-place g c = omega (arith, same_length c.args.columns.now c.args.others.now c.requires.typed)

pub bounds-others-place : goal.bounds-others-place
bounds-others-place g c = omega (arith, same_length c.args.columns.now c.args.others.now c.requires.typed)

pub loop-place-preserved : goal.loop-place-preserved
loop-place-preserved g c =
    let l = c.loop-place in
    let counts = same_length c.args.columns.now c.args.others.now c.requires.typed in
    record {
      joined = joined_more c.args.columns.now c.args.others.now l.kept.items c.push_reserved.new.self.items l.place c.index-columns-place.result c.index-others-place.result c.in_ok-part.part
          (omega arith) (omega (arith, counts)) c.index-columns-place.is c.index-others-place.is
          c.in_ok-part.ensures.joined l.invariant.joined c.push_reserved.ensures.items;
      room = omega (arith, c.push_reserved.ensures.capacity, l.invariant.room);
      counted = omega (arith, c.push_reserved.ensures.len, l.invariant.counted);
      session = c.in_ok-part.ensures.session ∙ l.invariant.session;
    }

pub returns-clause-joined : goal.returns-clause-joined
returns-clause-joined g c =
    let l = c.loop-place in
    let counts = same_length c.args.columns.now c.args.others.now c.requires.typed in
    all_joined (map typed_of c.args.columns.now) (map typed_of c.args.others.now) (map typed_of l.kept.items) l.place (omega (arith, length-map c.args.columns.now typed_of))
    (omega (arith, counts, length-map c.args.others.now typed_of)) l.invariant.joined

pub joined-requires-clause-typed : goal.joined-requires-clause-typed
joined-requires-clause-typed g c =
    (joinable_at c.args.columns.now c.args.others.now c.args.count c.args.more c.loop-place.place c.index-columns-place.result c.index-others-place.result c.requires.typed c.requires.even c.requires.even_others c.requires.joinable (omega arith)
    (omega (arith, same_length c.args.columns.now c.args.others.now c.requires.typed)) c.index-columns-place.is c.index-others-place.is).typed

pub joined-requires-clause-single : goal.joined-requires-clause-single
joined-requires-clause-single g c =
    (joinable_at c.args.columns.now c.args.others.now c.args.count c.args.more c.loop-place.place c.index-columns-place.result c.index-others-place.result c.requires.typed c.requires.even c.requires.even_others c.requires.joinable (omega arith)
    (omega (arith, same_length c.args.columns.now c.args.others.now c.requires.typed)) c.index-columns-place.is c.index-others-place.is).single

pub joined-requires-clause-fits : goal.joined-requires-clause-fits
joined-requires-clause-fits g c =
    (joinable_at c.args.columns.now c.args.others.now c.args.count c.args.more c.loop-place.place c.index-columns-place.result c.index-others-place.result c.requires.typed c.requires.even c.requires.even_others c.requires.joinable (omega arith)
    (omega (arith, same_length c.args.columns.now c.args.others.now c.requires.typed)) c.index-columns-place.is c.index-others-place.is).fits
