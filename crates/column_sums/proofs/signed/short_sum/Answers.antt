use Rattle.std.proofs.Common.{◌∙◌, ap, of_z, to_z, w64}
use Rattle.std.proofs.lemmas.Int.{to_z-of_z}
use Rattle.column_sums.proofs.Within.{is_within-signed, product-computed, room-left, room-product, room-rows, room-sum, sum-computed}
use Rattle.column_sums.proofs.signed.short_sum.Goals as goal

pub overflow_mul-result : goal.overflow_mul-result
overflow_mul-result c =
    let few = room-rows c.args.sum c.args.room c.args.len c.requires.room c.requires.enough in
    rw (product-computed c.args.value c.args.len c.ranges.value few)
    (room-product c.args.sum c.args.value c.args.room c.args.len c.requires.short c.requires.room c.requires.enough)

pub overflow_add-result : goal.overflow_add-result
overflow_add-result c =
    let few = room-rows c.args.sum c.args.room c.args.len c.requires.room c.requires.enough in
    let product = room-product c.args.sum c.args.value c.args.room c.args.len c.requires.short c.requires.room c.requires.enough in
    rw (sum-computed c.args.sum c.args.value c.args.len c.ranges.sum c.ranges.value few product)
    (room-sum c.args.sum c.args.value c.args.room c.args.len c.requires.short c.requires.room c.requires.enough)

pub returns : goal.returns
returns c =
    let few = room-rows c.args.sum c.args.room c.args.len c.requires.room c.requires.enough in
    let product = room-product c.args.sum c.args.value c.args.room c.args.len c.requires.short c.requires.room c.requires.enough in
    let sum = room-sum c.args.sum c.args.value c.args.room c.args.len c.requires.short c.requires.room c.requires.enough in
    record {
      sum = ap (λ n. to_z w64 (of_z w64 n)) (sum-computed c.args.sum c.args.value c.args.len c.ranges.sum c.ranges.value few product) ∙ to_z-of_z w64 _ sum;
      within = is_within-signed _ sum;
      left = room-left c.args.sum c.args.value c.args.room c.args.len c.requires.short c.requires.room c.requires.enough;
    }
