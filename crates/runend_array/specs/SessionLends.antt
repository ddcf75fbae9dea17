-- What a context ends as, once the `&mut` to its session has ended.
use Rattle.std.specs.Borrow.{Fml, RattleType, MutBor, Lends}
use Rattle.std.specs.declared.alloc.Allocator.{Ghosts}
use Rattle.runend_array.specs.SessionForm.{SessionForm}
use Rattle.runend_array.specs.contracts.session.ExecutionCtx.{the_row}
use Rattle.runend_array.specs.contracts.session.VortexSession.{the_row as session_row}

-- the context ends with the session that was last written through r
abbrev pub lends_session : (A : RattleType) → Ghosts A.Denot → MutBor SessionForm → MutBor SessionForm → Fml
lends_session A g context r = Lends (the_row A g) session_row context r (λ w. w)
