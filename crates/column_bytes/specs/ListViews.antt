-- What is seen of lists whose bytes are looked at where they lie: flat columns without null, runs over these, and how
-- far the lengths of such runs are read.
use Rattle.std.specs.Prelude.{◌≡◌, ℕ, pos, ◌+◌, ◌-◌, ◌^◌, ◌<◌, ◌≤◌, ⊤, Bool, true, List, ◌++◌, length, map, drop, slice_index}
use Rattle.column_base.specs.declared.dtype.PType.{PType}
use Rattle.column_base.specs.declared.dtype.PType.TheVariants.{U64}
use Rattle.column_base.specs.ValidityForm.{NeverNull}
use Rattle.column_core.specs.Leaf.{leaf_rows}
use Rattle.column_fields.specs.BitBytes.{bit_bytes}
use Rattle.column_fields.specs.FlatFields.{flat_fields}
use Rattle.column_fields.specs.Header.{header_bytes}
use Rattle.column_fields.specs.Lengths.{lengths_bytes, Rises, AreEndsOf}
use Rattle.column_fields.specs.NumberBytes.{numbers_bytes}
use Rattle.column_fields.specs.RunFields.{run_fields}
use Rattle.column_fields.specs.ValidityViews.{form_in, HoldsRows}
use Rattle.runend_windows.specs.Window.{IsWindow}
use Rattle.runend_array.specs.Lists.{Index, PlainIndex, RunIndex, RowValidityForm, ByRows, ByRuns, HasRows, Lists}
use Rattle.column_bytes.specs.Stored.{IsStoredIndex}
use Rattle.column_bytes.specs.declared.list_views.IndexView.{IndexView}
use Rattle.column_bytes.specs.declared.list_views.IndexView.TheVariants as index
use Rattle.column_bytes.specs.declared.list_views.ListsView.{ListsView}
use Rattle.column_bytes.specs.declared.list_views.RowValidityView.{RowValidityView}
use Rattle.column_bytes.specs.declared.list_views.RowValidityView.TheVariants as flags
use Rattle.column_bytes.specs.declared.run_cursors.RunCursor.{RunCursor}
use Rattle.column_bytes.specs.declared.run_views.RunsView.{RunsView}

-- ---- messages of a kind, by their items

-- the message of a flat column without null
abbrev pub flat_message : ℕ → ℕ → List ℕ → List ℕ
flat_message kind rows items = header_bytes kind 1 rows ++ flat_fields NeverNull items

-- the message of runs over such a column, with these ends
abbrev pub runs_message : ℕ → ℕ → ℕ → PType → List ℕ → List ℕ → List ℕ
runs_message kind rows offset t ends items = header_bytes kind 2 rows ++ run_fields offset t (lengths_bytes 0 ends) (flat_message kind (length ends) items)

-- the bytes are the message of a flat column without null, of that kind, with this number of rows and these items
pub record IsFlatOf (kind : ℕ) (bytes : List ℕ) (rows : ℕ) (items : List ℕ) : Type 0 where
  pub small : rows < 2 ^ 64
  pub short : length items < 2 ^ 64
  pub spelt : bytes ≡ flat_message kind rows items

pub record IsFlatOfNone (kind : ℕ) (bytes : List ℕ) : Type 0 where
  pub none : (rows : ℕ) (items : List ℕ) → rows < 2 ^ 64 → length items < 2 ^ 64 → bytes ≡ flat_message kind rows items → ⊥

-- the view is that of runs with these ends
pub record HasEnds (t : PType) (ends : List ℕ) (view : RunsView) : Type 0 where
  pub fit : AreEndsOf t ends
  pub rise : Rises true 0 ends
  pub window : IsWindow ends view.offset view.rows
  pub few : length ends < 2 ^ 64
  pub counted : length ends ≡ view.count
  pub spelt : view.lengths.now ≡ lengths_bytes 0 ends

-- the bytes are the message of runs over a flat column without null, of that kind, which the view shows
pub record AreRunsSeen (kind : ℕ) (bytes : List ℕ) (t : PType) (ends : List ℕ) (view : RunsView) : Type 0 where
  pub has : HasEnds t ends view
  pub short : length view.items.now < 2 ^ 64
  pub spelt : bytes ≡ runs_message kind view.rows view.offset t ends view.items.now

pub record AreRunsOfNone (kind : ℕ) (bytes : List ℕ) : Type 0 where
  pub none : (rows offset : ℕ) (t : PType) (ends items : List ℕ) → AreEndsOf t ends → Rises true 0 ends → IsWindow ends offset rows → length ends < 2 ^ 64 → bytes ≡ runs_message kind rows offset t ends items → ⊥

-- ---- the parts of lists

-- the numbers have these bytes
abbrev pub HasNumberBytes : List ℕ → List ℕ → Type 0
HasNumberBytes numbers items = numbers_bytes U64 (map (λ (n : ℕ). pos n) numbers) ≡ items

-- the view is that of the offsets or sizes
abbrev pub IsViewOf : IndexView → Index → Type 0
IsViewOf (index.Flat items) (PlainIndex numbers) = HasNumberBytes numbers items.now
IsViewOf (index.Flat items) (RunIndex t ends numbers offset count) = ⊥
IsViewOf (index.Runs view) (PlainIndex numbers) = ⊥
IsViewOf (index.Runs view) (RunIndex t ends numbers offset count) = HasEnds t ends view × (view.offset ≡ offset) × (view.rows ≡ count) × (length numbers ≡ length ends) × HasNumberBytes numbers view.items.now

pub record ShowsIndex (view : IndexView) (index : Index) : Type 0 where
  pub stored : IsStoredIndex index
  pub of : IsViewOf view index

-- the view is that of the validity, which has these rows
abbrev pub ShowsValidity : ℕ → RowValidityView → RowValidityForm → Type 0
ShowsValidity rows (flags.Rows view) (ByRows form) = HoldsRows rows view × (form_in rows view ≡ form)
ShowsValidity rows (flags.Rows view) (ByRuns t ends bits offset count) = ⊥
ShowsValidity rows (flags.Runs view) (ByRows form) = ⊥
ShowsValidity rows (flags.Runs view) (ByRuns t ends bits offset count) = HasEnds t ends view × (view.offset ≡ offset) × (view.rows ≡ count) × (count ≡ rows) × (length bits ≡ length ends) × (bit_bytes bits ≡ view.items.now)

-- the view is that of the lists, whose validity has these rows
pub record ShowsLists (rows : ℕ) (view : ListsView) (lists : Lists) : Type 0 where
  pub elements : length (leaf_rows lists.elements) ≡ view.elements
  pub offsets : ShowsIndex view.offsets lists.offsets
  pub sizes : ShowsIndex view.sizes lists.sizes
  pub validity : ShowsValidity rows view.validity lists.validity
  pub flagged : HasRows lists.validity rows

-- ---- how far run lengths are read

-- the lengths of these runs are read up to a run that the position is not before: all runs before it end there or earlier
pub record IsReadTo (ends : List ℕ) (position : ℕ) (cursor : RunCursor) : Type 0 where
  pub first : Bool
  pub rise : Rises first cursor.end (drop cursor.count ends)
  pub spelt : cursor.rest.now ≡ lengths_bytes cursor.end (drop cursor.count ends)
  pub few : length ends < 2 ^ 64
  pub within : cursor.count ≤ length ends
  pub last : 0 < cursor.count → slice_index ends (cursor.count - 1) ≡ cursor.end
  pub none : cursor.count ≡ 0 → cursor.end ≡ 0
  pub passed : (run : ℕ) → run + 1 < cursor.count → slice_index ends run ≤ position

-- the lengths of the runs of offsets or sizes, or of flags, are read up to those of a row
abbrev pub IsIndexReadTo : Index → ℕ → RunCursor → Type 0
IsIndexReadTo (PlainIndex numbers) row cursor = ⊤
IsIndexReadTo (RunIndex t ends numbers offset count) row cursor = IsReadTo ends (offset + row) cursor

abbrev pub AreFlagsReadTo : RowValidityForm → ℕ → RunCursor → Type 0
AreFlagsReadTo (ByRows form) row cursor = ⊤
AreFlagsReadTo (ByRuns t ends bits offset count) row cursor = IsReadTo ends (offset + row) cursor
