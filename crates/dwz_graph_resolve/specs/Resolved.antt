-- Entries that are named, by their numbers.
use Rattle.std.specs.Prelude.{◌≡◌, ℕ, ◌+◌, ◌<◌, ◌≤◌, Bool, true, false, List, [], ◌∷◌, ◌++◌, map, Result, Ok, Err, IsOk, Option, Some, None}
use Rattle.std.specs.Prelude.{slice_get, slice_range}
use Rattle.std.specs.Option.{is_some}
use Rattle.dwz_model.specs.declared.fault.Fault.{Fault}
use Rattle.dwz_model.specs.declared.fault.ReadErr.{ReadErr}
use Rattle.dwz_bytes.specs.Input.{Input}
use Rattle.dwz_def_reading.specs.Lists.{Each}
use Rattle.dwz_def_reading.specs.Entries.{RawAttr}
use Rattle.dwz_def_reading.specs.Faults.{Fails}
use Rattle.dwz_def_reading.specs.Meanings.{Around, Common, MeaningContext, Sources, alone, base_in, first_raw, places_of, scope_of}
use Rattle.dwz_def_reading.specs.Texts.{slot, text_at}
use Rattle.dwz_def_reading.specs.Values.{Raw}
use Rattle.dwz_def_reading.specs.Units.{RawUnit, entries_in, entry_count}
use Rattle.dwz_def_reading.specs.Documents.{Value, ref}
use Rattle.dwz_def_reading.specs.Shared.{NamedList}
use Rattle.dwz_graph_resolve.specs.declared.sections.InputSections.{InputSections}
use Rattle.dwz_graph_resolve.specs.declared.state.State.{State}
use Rattle.dwz_graph_resolve.specs.declared.here.Here.{Here}
use Rattle.dwz_graph_resolve.specs.declared.surroundings.Surroundings.{Surroundings}
use Rattle.dwz_graph_resolve.specs.Named.{Found, found, nothing_found}
pub use Rattle.dwz_graph_resolve.specs.Places.{place_at, places}
pub use Rattle.dwz_graph_resolve.specs.Surroundings.{sources_view}
use Rattle.dwz_graph_resolve.specs.Surroundings.{AreAmong, around_in, entries_among, place_among, scope_within}
use Rattle.dwz_graph_resolve.specs.State.{IsBehind, IsState}
use Rattle.dwz_forms.specs.declared.raw.Raw.{Raw as RawOfCode}
use Rattle.dwz_forms.specs.RawValues.{raw_view}
use Rattle.dwz_model.specs.declared.place.Pair.{Pair}
use Rattle.dwz_unit.specs.declared.rows.RawUnit.{RawUnit as UnitOfCode}
use Rattle.dwz_unit.specs.Rows.{unit_shown}

-- what surrounds the units of a file by itself, and what one of them stands in
abbrev pub around : InputSections → List RawUnit → Around ℕ
around s raw = alone (sources_view s) raw

abbrev pub scope_in : InputSections → List RawUnit → RawUnit → MeaningContext ℕ
scope_in s raw u = scope_of (around s raw) u

-- a value of that name and form that begins and ends there
abbrev pub stored : ℕ → ℕ → Pair → RawOfCode → RawAttr
stored at end pair raw = record { at = at; end = end; pair = pair; raw = raw_view raw }

-- a value of that name and form that stands between two places
abbrev pub value_between : Input → Input → Pair → Raw → RawAttr
value_between from to pair raw = record { at = from.at; end = to.at; pair = pair; raw = raw }

-- numbers of entries
abbrev pub AreEntries : List RawUnit → List ℕ → Type 0
AreEntries raw numbers = Each (λ i. i < entries_in raw) numbers

-- Numbers of entries were added, whose places are named, and so were lists.
pub record Adds (common : Option (Common ℕ)) (raw : List RawUnit) (old new : List ℕ) (before : List NamedList)
    (Keeps : List NamedList → Type 0) (named : Result Found Fault) : Type 0 where
  pub more : List ℕ
  pub lists : List NamedList
  pub refs : new ≡ old ++ more
  pub is : named ≡ Ok (found (map (place_among common raw) more) lists)
  pub within : AreAmong common raw more
  pub keeps : Keeps (before ++ lists)

-- what a call added is what is named; or there is a fault, and it is the same
abbrev pub Goes : {Y : Type 0} → Option (Common ℕ) → List RawUnit → (List NamedList → State → Type 0) → List NamedList → State → State
    → Result Y ReadErr
    → Result Found Fault → Type 0
Goes common raw K before old new (Ok y) named = Adds common raw old.refs.items new.refs.items before (λ lists. K lists new) named
Goes common raw K before old new (Err e) named = Fails e named

-- what is kept of a unit as long as its entries are looked at
pub record IsHere (raw : List RawUnit) (u : RawUnit) (h : Here) : Type 0 where
  pub is_unit : slice_get raw h.number ≡ Some u
  pub at : h.at ≡ u.at
  pub own : slice_range (places raw) h.first h.end ≡ places_of u
  pub base : h.offsets ≡ base_in (first_raw 0x72 u.root.attrs)
  pub lists : h.lists ≡ base_in (first_raw 0x8c u.root.attrs)
  pub line : h.line ≡ base_in (first_raw 0x10 u.root.attrs)

-- what is known of the state, where the entries of that unit are looked at
abbrev pub StateIn : Surroundings → List RawUnit → RawUnit → Here → List NamedList → State → Type 0
StateIn s raw u h named st = IsState raw (scope_within s raw u) h.number named st

-- what is known of it behind the units before that one
abbrev pub StateAt : Surroundings → List RawUnit → ℕ → List NamedList → State → Type 0
StateAt s raw n named st = IsBehind raw (around_in s raw) n named st

-- a test holds, or the call failed with that fault
abbrev pub Checks : {Y : Type 0} → Result Y ReadErr → Bool → Fault → Type 0
Checks (Ok y) b f = b ≡ true
Checks (Err e) b f = (b ≡ false) × Fails {Y = ℕ} e (Err f)

-- The same of the unit with a number, which is shown so.
pub record IsUnitHere (raw : List RawUnit) (n : ℕ) (x : UnitOfCode) (h : Here) : Type 0 where
  pub u : RawUnit
  pub is_unit : slice_get raw n ≡ Some u
  pub shown : unit_shown x.first u ≡ x
  pub here : IsHere raw u h
  pub number : h.number ≡ n
  pub first : h.first ≡ x.first
  pub end : h.end ≡ x.first + entry_count u
  pub within : h.end ≤ entries_in raw

-- nothing is named, or the fault is the same
abbrev pub IsDone : {Y : Type 0} → Result Y ReadErr → Result Found Fault → Type 0
IsDone (Ok y) named = named ≡ Ok nothing_found
IsDone (Err e) named = Fails e named

-- a text stands at the offset that is in the slot of an index, where there is a base
abbrev pub text_at_slot : Sources → Option ℕ → Bool
text_at_slot s None = false
text_at_slot s (Some offset) = is_some (text_at s.strs offset)

abbrev pub has_slot_text : Sources → Option ℕ → ℕ → Bool
has_slot_text s None index = false
has_slot_text s (Some base) index = text_at_slot s (slot s.offsets base index)

-- the number of the entry was added that a reference names, or the fault is the same
abbrev pub NamesEntry : {Y : Type 0} → Option (Common ℕ) → List RawUnit → List ℕ → List ℕ → Result Y ReadErr → Result (Value ℕ) Fault
    → Type 0
NamesEntry common raw old new (Ok y) named = (i : ℕ) × (new ≡ old ++ i ∷ []) × (i < entries_among common raw)
    × (named ≡ Ok (ref (place_among common raw i)))
NamesEntry common raw old new (Err e) named = Fails e named

-- what was asked for holds of what is read, or the fault is the same
abbrev pub Tells : {X Y : Type 0} → Result Y ReadErr → Result X Fault → Type 0
Tells (Ok y) read = IsOk read
Tells (Err e) read = Fails e read
