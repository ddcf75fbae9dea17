-- What a refusing allocator was made of.
use Rattle.refusing.specs.declared.plan.Refusals.{Refusals}
use Rattle.refusing.specs.declared.allocator.Refusing.{Refusing}

-- the allocator that the other requests are passed on to
abbrev pub inner_of : {B : Type 0} → Refusing B → B
inner_of heap = heap.inner

-- which requests are refused
abbrev pub refusals_of : {B : Type 0} → Refusing B → Refusals
refusals_of heap = heap.plan.refusals
