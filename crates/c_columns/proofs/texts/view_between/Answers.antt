-- A view whose bytes are cut.
use Rattle.std.proofs.Common.{◌≡◌, ◌+◌, ◌≤◌, ◌<◌, ◌^◌, pos, rules, arith, sym}
use Rattle.c_columns.proofs.Cuts.{is_cut}
use Rattle.c_columns.proofs.texts.view_between.Goals as goal

pub returns-clause-cut : goal.returns-clause-cut
returns-clause-cut g c =
    let from = c.in_ok-start.start in
    let to = c.in_ok-start.start + c.in_ok-size.size in
    let begins : pos from ≡ g.T.NativePType.number c.args.start = search rules in
    let stops : pos to ≡ g.T.NativePType.number c.args.stop = search rules in
    let order : from ≤ to = omega arith in
    let numbered : to < 2 ^ 64 = search rules in
    is_cut from to (g.T.NativePType.number c.args.start) (g.T.NativePType.number c.args.stop) (sym begins) (sym stops) order numbered
