-- The location lists that the attributes of a file's units name.
use Rattle.std.specs.Prelude.{◌≡◌, ◌⊎◌, ℕ, ◌+◌, ◌<◌, true, List, [], ◌∷◌, ◌++◌, length, Option, Some, None, Result, Ok, Err, if◌then◌else◌}
use Rattle.dwz_model.specs.declared.fault.Fault.{Fault}
use Rattle.dwz_def_reading.specs.Entries.{RawAttr, RawEntry}
use Rattle.dwz_def_reading.specs.LocLists.{LocList, SpellsList}
use Rattle.dwz_def_reading.specs.Meanings.{Around, MeaningContext, expr_context, loclists_base}
use Rattle.dwz_def_reading.specs.Classes.{OfListIndex, OfOffset}
use Rattle.dwz_def_reading.specs.Classes.{Class, class_of}
use Rattle.dwz_def_reading.specs.Meant.{list_read}
use Rattle.dwz_def_reading.specs.Meanings.{offset_of, scope_of, without_siblings}
use Rattle.dwz_def_reading.specs.Classes.{names_list}
use Rattle.dwz_def_reading.specs.Sequences.{StandsFrom}
use Rattle.dwz_def_reading.specs.Shared.{NamedList}
use Rattle.dwz_def_reading.specs.Texts.{IsSlot, slot, slot_place}
use Rattle.dwz_def_reading.specs.Trees.{End, Entry, Forest}
use Rattle.dwz_def_reading.specs.Units.{RawUnit}

-- ---- the relation

-- a list of the unit stands at that place, and the slot, if there is one, says so
pub record IsNamedAt {P : Type 0} (s : MeaningContext P) (slot : Option ℕ) (place : ℕ) (l : NamedList) : Type 0 where
  pub unit : l.unit ≡ s.unit
  pub from : l.from ≡ place
  pub slot_is : l.slot ≡ slot
  pub within : place < length s.around.sources.lists
  pub stands : StandsFrom (SpellsList (expr_context s 7)) s.around.sources.lists place l.list

-- the slot of the index holds the list's offset, counted from the base
pub record IsNamedBySlot {P : Type 0} (s : MeaningContext P) (index : ℕ) (l : NamedList) : Type 0 where
  pub base : ℕ
  pub is_base : loclists_base s ≡ Some base
  pub offset : ℕ
  pub slot : IsSlot s.around.sources.lists base index offset
  pub named : IsNamedAt s (Some (slot_place base index)) (base + offset) l

abbrev pub NamesAs : {P : Type 0} → Class → MeaningContext P → RawAttr → NamedList → Type 0
NamesAs OfOffset s a l = (names_list a.pair.name ≡ true) × IsNamedAt s None (offset_of a) l
NamesAs OfListIndex s a l = IsNamedBySlot s (offset_of a) l
NamesAs _ s a l = ⊥

-- the attribute names the list
abbrev pub NamesList : {P : Type 0} → MeaningContext P → RawAttr → NamedList → Type 0
NamesList s a l = NamesAs (class_of a.pair.form) s a l

-- one of the attributes does
abbrev pub AnyNames : {P : Type 0} → MeaningContext P → List RawAttr → NamedList → Type 0
AnyNames s [] l = ⊥
AnyNames s (a ∷ attrs) l = NamesList s a l ⊎ AnyNames s attrs l

abbrev pub AnyEntryNames : {P : Type 0} → MeaningContext P → Forest RawEntry → NamedList → Type 0
AnyEntryNames s End l = ⊥
AnyEntryNames s (Entry e children next) l = AnyNames s (without_siblings e.attrs) l ⊎ (AnyEntryNames s children l ⊎ AnyEntryNames s next l)

abbrev pub AnyUnitNames : {P : Type 0} → Around P → List RawUnit → NamedList → Type 0
AnyUnitNames around [] l = ⊥
AnyUnitNames around (u ∷ units) l = (AnyNames (scope_of around u) (without_siblings u.root.attrs) l
    ⊎ AnyEntryNames (scope_of around u) u.below l) ⊎ AnyUnitNames around units l

-- ---- all of them

abbrev pub named_by : {P : Type 0} → MeaningContext P → Option ℕ → ℕ → Result LocList Fault → List NamedList
named_by s slot place (Ok l) = record { unit = s.unit; from = place; slot = slot; list = l } ∷ []
named_by s slot place (Err f) = []

abbrev pub named_at : {P : Type 0} → MeaningContext P → Option ℕ → ℕ → List NamedList
named_at s slot place = named_by s slot place (list_read s place)

abbrev pub by_offset : {P : Type 0} → MeaningContext P → ℕ → ℕ → Option ℕ → List NamedList
by_offset s base index None = []
by_offset s base index (Some offset) = named_at s (Some (slot_place base index)) (base + offset)

abbrev pub by_base : {P : Type 0} → MeaningContext P → ℕ → Option ℕ → List NamedList
by_base s index None = []
by_base s index (Some base) = by_offset s base index (slot s.around.sources.lists base index)

abbrev pub lists_as : {P : Type 0} → Class → MeaningContext P → RawAttr → List NamedList
lists_as OfOffset s a = if names_list a.pair.name then named_at s None (offset_of a) else []
lists_as OfListIndex s a = by_base s (offset_of a) (loclists_base s)
lists_as _ s a = []

-- the list that an attribute names, if it names one
unfoldable pub list_of_attr : {P : Type 0} → MeaningContext P → RawAttr → List NamedList
list_of_attr s a = lists_as (class_of a.pair.form) s a

unfoldable pub lists_of_attrs : {P : Type 0} → MeaningContext P → List RawAttr → List NamedList
lists_of_attrs s [] = []
lists_of_attrs s (a ∷ attrs) = list_of_attr s a ++ lists_of_attrs s attrs

unfoldable pub lists_of_entries : {P : Type 0} → MeaningContext P → Forest RawEntry → List NamedList
lists_of_entries s End = []
lists_of_entries s (Entry e children next) = lists_of_attrs s (without_siblings e.attrs)
    ++ (lists_of_entries s children ++ lists_of_entries s next)

abbrev pub lists_of_unit : {P : Type 0} → Around P → RawUnit → List NamedList
lists_of_unit around u = lists_of_attrs (scope_of around u) (without_siblings u.root.attrs) ++ lists_of_entries (scope_of around u) u.below

-- the lists that units name, in order
unfoldable pub lists_of_units : {P : Type 0} → Around P → List RawUnit → List NamedList
lists_of_units around [] = []
lists_of_units around (u ∷ units) = lists_of_unit around u ++ lists_of_units around units
