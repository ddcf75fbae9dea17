-- What a walk sees of the parts of lists: the number or the flag of a row, and where its stretch ends.
use Rattle.std.proofs.Common.{◌≡◌, ℕ, ◌+◌, ◌-◌, ◌/◌, ◌^◌, ◌<◌, Bool, Bor, true, List, length, min, sym, ap, subst, ◌∙◌, arith}
use Rattle.std.specs.Prelude.{slice_index}
use Rattle.column_base.specs.declared.dtype.PType.{PType}
use Rattle.column_base.specs.ValidityForm.{flag_at}
use Rattle.column_fields.specs.Lengths.{lengths_bytes, Rises}
use Rattle.column_fields.specs.ValidityViews.{form_in, HoldsRows}
use Rattle.column_fields.specs.declared.validity_views.ValidityView.{ValidityView}
use Rattle.column_fields.specs.declared.validity_views.ValidityView.TheVariants as rows
use Rattle.runend_windows.specs.Window.{IsRunAt, last_end}
use Rattle.runend_array.specs.Lists.{Index, PlainIndex, RunIndex, RowValidityForm, ByRows, ByRuns, flag_stop, index_at, index_count, index_stop, row_flag_at, run_stop}
use Rattle.column_bytes.specs.Bytes.{index_form}
use Rattle.column_bytes.specs.ListViews.{AreFlagsReadTo, HasEnds, HasNumberBytes, IsIndexReadTo, IsReadTo, ShowsIndex, ShowsValidity}
use Rattle.column_bytes.specs.Stored.{AreNumbers}
use Rattle.column_bytes.specs.declared.list_views.IndexView.TheVariants as index
use Rattle.column_bytes.specs.declared.list_views.RowValidityView.TheVariants as flags
use Rattle.column_bytes.specs.declared.run_cursors.RunCursor.{RunCursor}
use Rattle.column_bytes.specs.declared.run_views.RunsView.{RunsView}
use Rattle.column_bytes.proofs.ListWalks.{bit_in_run, bits_counted, bytes_counted, number_in_run}
use Rattle.column_bytes.proofs.RunCursors.{row_before, stop_reached}

-- what is known of the cursor before the first run
abbrev Begins : RunsView → RunCursor → Type 0
Begins view c = (ends : List ℕ) (position : ℕ) → Rises true 0 ends → length ends < 2 ^ 64 → view.lengths.now ≡ lengths_bytes 0 ends → IsReadTo ends position c

-- what is known of the cursor that is moved to a row
abbrev MovesTo : RunsView → ℕ → RunCursor → RunCursor → Type 0
MovesTo view row old new = (ends : List ℕ) → IsReadTo ends (view.offset + row) old → view.offset + row < last_end ends → IsReadTo ends (view.offset + row) new × IsRunAt ends (view.offset + row) (new.count - 1)

-- and where it is not
abbrev NeverMoves : RunsView → ℕ → RunCursor → Type 0
NeverMoves view row old = (ends : List ℕ) → IsReadTo ends (view.offset + row) old → view.offset + row < last_end ends → ⊥

-- ---- a run

record At (ends : List ℕ) (offset rows row stop : ℕ) (new : RunCursor) : Type 0 where
  pub read : IsReadTo ends (offset + row) new
  pub run : IsRunAt ends (offset + row) (new.count - 1)
  pub stop_is : min stop rows ≡ run_stop ends offset rows row

moved_to : (t : PType) (ends : List ℕ) (view : RunsView) (row stop : ℕ) (old new : RunCursor) → HasEnds t ends view → row < view.rows → IsReadTo ends (view.offset + row) old → MovesTo view row old new → row < new.end - view.offset → stop ≡ new.end - view.offset → At ends view.offset view.rows row stop new
moved_to t ends view row stop old new has lt read moves past s =
    let m = moves ends read (row_before ends view.offset view.rows row has.window lt) in
    record { read = m.0; run = m.1; stop_is = ap (λ (n : ℕ). min n view.rows) s ∙ stop_reached ends view.offset view.rows row new m.0 m.1 past }

-- the same, for an offset and a number of rows that are those of the view
run_of_row : (t : PType) (ends : List ℕ) (offset count : ℕ) (view : RunsView) (row stop : ℕ) (old new : RunCursor) → HasEnds t ends view → view.offset ≡ offset → view.rows ≡ count → row < count → IsReadTo ends (offset + row) old → MovesTo view row old new → row < new.end - view.offset → stop ≡ new.end - view.offset → At ends offset count row stop new
run_of_row t ends offset count view row stop old new has o r lt read moves past s =
    let own : IsReadTo ends (view.offset + row) old = subst (λ (n : ℕ). IsReadTo ends (n + row) old) (sym o) read in
    subst (λ (n : ℕ). At ends offset n row stop new) r (subst (λ (n : ℕ). At ends n view.rows row stop new) o (moved_to t ends view row stop old new has (omega (arith, r, lt)) own moves past s))

never_at : (t : PType) (ends : List ℕ) (offset count : ℕ) (view : RunsView) (row : ℕ) (old : RunCursor) → HasEnds t ends view → view.offset ≡ offset → view.rows ≡ count → row < count → IsReadTo ends (offset + row) old → NeverMoves view row old → ⊥
never_at t ends offset count view row old has o r lt read never =
    never ends (subst (λ (n : ℕ). IsReadTo ends (n + row) old) (sym o) read) (row_before ends view.offset view.rows row has.window (omega (arith, r, lt)))

-- ---- offsets and sizes

pub flat_begins : (i : Index) (items : Bor (List ℕ)) (c : RunCursor) → ShowsIndex (index.Flat items) i → IsIndexReadTo i 0 c
flat_begins (PlainIndex numbers) items c s = tt
flat_begins (RunIndex t ends numbers offset count) items c s = absurd s.of

pub runs_begin : (i : Index) (view : RunsView) (c : RunCursor) → Begins view c → ShowsIndex (index.Runs view) i → IsIndexReadTo i 0 c
runs_begin (PlainIndex numbers) view c b s = absurd s.of
runs_begin (RunIndex t ends numbers offset count) view c b s = b ends (offset + 0) s.of.0.rise s.of.0.few s.of.0.spelt

pub flat_rows : (i : Index) (items : Bor (List ℕ)) → ShowsIndex (index.Flat items) i → length items.now / 8 ≡ index_count i
flat_rows (PlainIndex numbers) items s = omega (arith, bytes_counted numbers items.now s.of)
flat_rows (RunIndex t ends numbers offset count) items s = absurd s.of

-- what is seen of a row
pub record NumberSeen (i : Index) (row value stop : ℕ) (new : RunCursor) : Type 0 where
  pub value_is : value ≡ index_at i row
  pub stop_is : min stop (index_count i) ≡ index_stop i row
  pub read : IsIndexReadTo i row new

pub flat_number : (i : Index) (items : Bor (List ℕ)) (row value stop : ℕ) (c : RunCursor) → ShowsIndex (index.Flat items) i → row < index_count i → ((numbers : List ℕ) → AreNumbers (index_form numbers) → HasNumberBytes numbers items.now → row < length numbers → value ≡ slice_index numbers row) → stop ≡ row + 1 → NumberSeen i row value stop c
flat_number (PlainIndex numbers) items row value stop c s lt number stops = record { value_is = number numbers s.stored s.of lt; stop_is = omega (arith, stops, lt); read = tt }
flat_number (RunIndex t ends numbers offset count) items row value stop c s lt number stops = absurd s.of

pub run_number : (i : Index) (view : RunsView) (row value stop : ℕ) (old new : RunCursor) → ShowsIndex (index.Runs view) i → row < index_count i → IsIndexReadTo i row old → MovesTo view row old new → row < new.end - view.offset → ((numbers : List ℕ) → AreNumbers (index_form numbers) → HasNumberBytes numbers view.items.now → new.count - 1 < length numbers → value ≡ slice_index numbers (new.count - 1)) → stop ≡ new.end - view.offset → NumberSeen i row value stop new
run_number (PlainIndex numbers) view row value stop old new s lt read moves past number stops = absurd s.of
run_number (RunIndex t ends numbers offset count) view row value stop old new s lt read moves past number stops =
    let h = s.of in
    let at = run_of_row t ends offset count view row stop old new h.0 h.1 h.2 lt read moves past stops in
    record {
      value_is = number numbers s.stored.stored h.4 (omega (arith, at.run.within, h.3)) ∙ number_in_run ends numbers offset row (new.count - 1) at.run;
      stop_is = at.stop_is;
      read = at.read;
    }

pub no_number : (i : Index) (view : RunsView) (row : ℕ) (old : RunCursor) → ShowsIndex (index.Runs view) i → row < index_count i → IsIndexReadTo i row old → NeverMoves view row old → ⊥
no_number (PlainIndex numbers) view row old s lt read never = s.of
no_number (RunIndex t ends numbers offset count) view row old s lt read never = never_at t ends offset count view row old s.of.0 s.of.1 s.of.2 lt read never

-- ---- flags

pub rows_begin : (n : ℕ) (form : RowValidityForm) (view : ValidityView) (c : RunCursor) → ShowsValidity n (flags.Rows view) form → AreFlagsReadTo form 0 c
rows_begin n (ByRows form) view c s = tt
rows_begin n (ByRuns t ends bits offset count) view c s = absurd s

pub flag_runs_begin : (n : ℕ) (form : RowValidityForm) (view : RunsView) (c : RunCursor) → Begins view c → ShowsValidity n (flags.Runs view) form → AreFlagsReadTo form 0 c
flag_runs_begin n (ByRows form) view c b s = absurd s
flag_runs_begin n (ByRuns t ends bits offset count) view c b s = b ends (offset + 0) s.0.rise s.0.few s.0.spelt

pub record FlagSeen (form : RowValidityForm) (n row : ℕ) (value : Bool) (stop : ℕ) (new : RunCursor) : Type 0 where
  pub value_is : value ≡ row_flag_at form row
  pub stop_is : min stop n ≡ flag_stop form n row
  pub read : AreFlagsReadTo form row new

pub flag_of_row : (form : RowValidityForm) (view : ValidityView) (n row : ℕ) (value : Bool) (stop : ℕ) (c : RunCursor) → ShowsValidity n (flags.Rows view) form → (HoldsRows n view → value ≡ flag_at (form_in n view) row) → min stop n ≡ flag_stop (ByRows (form_in n view)) n row → FlagSeen form n row value stop c
flag_of_row (ByRows form) view n row value stop c s flag stops = record {
  value_is = flag s.0 ∙ ap (λ f. flag_at f row) s.1;
  stop_is = stops ∙ ap (λ f. flag_stop (ByRows f) n row) s.1;
  read = tt;
}
flag_of_row (ByRuns t ends bits offset count) view n row value stop c s flag stops = absurd s

pub run_flag : (form : RowValidityForm) (view : RunsView) (n row : ℕ) (value : Bool) (stop : ℕ) (old new : RunCursor) → ShowsValidity n (flags.Runs view) form → row < n → AreFlagsReadTo form row old → MovesTo view row old new → row < new.end - view.offset → ((count : ℕ) → HoldsRows count (rows.Bits view.items) → new.count - 1 < count → value ≡ flag_at (form_in count (rows.Bits view.items)) (new.count - 1)) → stop ≡ new.end - view.offset → FlagSeen form n row value stop new
run_flag (ByRows form) view n row value stop old new s lt read moves past flag stops = absurd s
run_flag (ByRuns t ends bits offset count) view n row value stop old new s lt read moves past flag stops =
    let at = run_of_row t ends offset count view row stop old new s.0 s.1 s.2 (omega (arith, lt, s.3)) read moves past stops in
    record {
      value_is = flag (length bits) (bits_counted bits view.items.now s.5) (omega (arith, at.run.within, s.4)) ∙ bit_in_run ends bits view.items.now offset row (new.count - 1) s.5 at.run;
      stop_is = ap (λ (k : ℕ). min stop k) (sym s.3) ∙ at.stop_is;
      read = at.read;
    }

pub no_flag : (form : RowValidityForm) (view : RunsView) (n row : ℕ) (old : RunCursor) → ShowsValidity n (flags.Runs view) form → row < n → AreFlagsReadTo form row old → NeverMoves view row old → ⊥
no_flag (ByRows form) view n row old s lt read never = s
no_flag (ByRuns t ends bits offset count) view n row old s lt read never = never_at t ends offset count view row old s.0 s.1 s.2 (omega (arith, lt, s.3)) read never
