-- The types so far are the same.
use Rattle.std.proofs.Common.{◌≡◌, map, take}
use Rattle.tables.specs.Appended.{type_of}
use Rattle.typed_columns.specs.Typed.{typed_of}
use Rattle.tables.proofs.joined.first_other_type.Given as goal

abbrev pub invariant-loop-place : goal.invariant-loop-place
invariant-loop-place g l = take l.place (map type_of (map typed_of l.columns)) ≡ take l.place (map type_of (map typed_of l.others))
