use Rattle.std.proofs.Common.{◌≡◌, ◌+◌, ◌/◌, ◌∙◌, length, sym, rules}
use Rattle.column_base.proofs.WordGrowth.{full_of}
use Rattle.c_columns.proofs.words.put_same.Goals as goal

pub returns-clause-packed : goal.returns-clause-packed
returns-clause-packed c =
    let needed : c.div_ceil.result ≡ (c.args.count + 63) / 64 = search rules in
    let there : length c.args.words.now ≡ (c.args.count + 63) / 64 = sym c.in_ok-check_room.ensures.there ∙ needed in
    (full_of c.splat.result (length c.args.words.now) c.args.bit c.splat.ensures there (c.fill.ensures.after (λ y e. e)) c.clear_from.ensures).packs
