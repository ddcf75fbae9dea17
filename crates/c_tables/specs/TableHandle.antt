-- What the handle of a table owns.
use Rattle.std.specs.Prelude.{Option, None, Some}
use Rattle.std.specs.Coded.{Coded, coded_option}
use base.Fml.{Fml, feq}
use denote.RattleType.{RattleType}
use denote.RawPtr.{Ptr, null_ptr}
use Rattle.std.specs.Global.{Global}
use Rattle.std.specs.contracts.alloc.Global as heap
use Rattle.std.specs.contracts.impls.GlobalAllocator.TheImpl.{ghosts}
use Rattle.std_alloc.specs.Box.Ownership.{box_owns}
use Rattle.tables.specs.Tables.{TableForm}
use Rattle.typed_columns.specs.Typed.{TypedForm, typed_of}
use Rattle.typed_columns.specs.declared.typed_column.TypedColumn.{TypedColumn}
use Rattle.tables.specs.contracts.table.Table as table

-- the type of tables
abbrev pub table_row : RattleType
table_row = table.the_row heap.the_row ghosts

-- how the logic stores a table, or none
abbrev pub held_code : Coded (Option TableForm)
held_code = coded_option table_row.coded

-- the block at a pointer, and the table in it; nothing without a table, where the pointer is null
abbrev pub holds_table : Global → Ptr → Option TableForm → Fml
holds_table alloc at None = feq Ptr at null_ptr
holds_table alloc at (Some t) = box_owns (ghosts.dealloc_token alloc) table_row at t

-- the form and the format of the column that a handle holds
abbrev pub typed_in : Option (TypedColumn Global) → Option TypedForm
typed_in None = None
typed_in (Some held) = Some (typed_of held)

-- each of four handles holds something, and these relate so
abbrev pub WhereFour : {W X Y Z : Type 0} → (W → X → Y → Z → Type 0) → Option W → Option X → Option Y → Option Z → Type 0
WhereFour P (Some w) (Some x) (Some y) (Some z) = P w x y z
WhereFour P w x y z = ⊥

-- each of five
abbrev pub WhereFive : {V W X Y Z : Type 0} → (V → W → X → Y → Z → Type 0) → Option V → Option W → Option X → Option Y → Option Z → Type 0
WhereFive P (Some v) (Some w) (Some x) (Some y) (Some z) = P v w x y z
WhereFive P v w x y z = ⊥
