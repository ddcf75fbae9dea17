-- What the storage of a `Buffer` holds.
use Rattle.std.specs.Prelude.{◌≤◌, List, length, slice_range}
use Rattle.shared_buffer.specs.declared.buffer.Storage.{Storage}
use Rattle.shared_buffer.specs.declared.buffer.Storage.TheVariants.{Owned, Shared}

-- the items, in order
abbrev pub items_of : {T A : Type 0} → Storage T A → List T
items_of (Owned items) = items.items
items_of (Shared vector start end) = slice_range vector.value.items start end

-- a part lies within its vector
abbrev pub IsWithin : {T A : Type 0} → Storage T A → Type 0
IsWithin (Owned items) = Unit {0}
IsWithin (Shared vector start end) = (start ≤ end) × (end ≤ length vector.value.items)
