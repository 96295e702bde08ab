-- What is written of units is what the definition of forms says.
use Rattle.std.specs.Prelude.{◌≡◌, ℕ, suc, ◌+◌, List, [], ◌∷◌, None, Some, length, map, slice_get}
use Rattle.dwz_def_reading.specs.Entries.{Mode, own_forms}
use Rattle.dwz_def_reading.specs.Units.{RawUnit, SpellsUnits}
use Rattle.dwz_def_reading.specs.Values.{AreBytes}
use Rattle.dwz_def_reading.specs.Meanings.{without_siblings}
use Rattle.dwz_def_reading.specs.Lists.{Each}
use Rattle.dwz_def_tops.specs.Shown.{units_keys}
use Rattle.dwz_def_encoding.specs.Carried.{IsStored}
use Rattle.dwz_def_reading.specs.Documents.{DwUnit, Entries, Node, entries_map, node_map}
use Rattle.dwz_def_tops.specs.Spots.{EntryName}
use Rattle.dwz_layout_items.specs.Order.{Names, ShowsUnit as ShowsOrder}
use Rattle.dwz_unit.specs.Rows.{EntryRow, rows_of}
use Rattle.dwz_def_encoding.specs.Placing.{FileOut, Forms, KeyedForms, UnitForms, fit_unit, fit_units, unit_forms, with_keys}
use Rattle.dwz_def_encoding.specs.Pruned.{renumbered_unit, renumbered_units}
use Rattle.dwz_layout.specs.declared.known.EntryTable.{EntryTable}
use Rattle.dwz_layout.specs.declared.order.UnitItems.{UnitItems}
use Rattle.dwz_layout.specs.declared.walk.Origin.TheVariants.{Read as OfRow}
use Rattle.dwz_layout.specs.Attributes.{WritingContext, attrs_of, is_common}
use Rattle.dwz_layout.specs.Entries.{row}
use Rattle.dwz_encode.specs.Shown.{Keys, ShowFiles, ShowsUnit, SortShows, attr_held, held_of}
use Rattle.dwz_law_layout.specs.Knows.{FileRead, IsRead, KnowsEntry, KnowsFile, KnowsUnit, NewNumbers, given_node}

-- The attributes of an entry that was read, where all that they name is known: those of what it means, with names after, as they are
-- written.
abbrev pub EntryLaw : Type 0
EntryLaw =
    (keys : Keys EntryName) (k : EntryTable) (f : FileRead) (here : WritingContext) (ft : UnitForms EntryName) (rn : NewNumbers) (i : ℕ) (r :
    EntryRow) (d : Node ℕ)
    → ft.holder ≡ here.holder → KnowsFile k f → IsRead f i r d
    → KnowsEntry keys k f here.unit ft rn i d
    → map (attr_held keys) (attrs_of k here (OfRow (row f.number i))) ≡ map held_of (given_node ft rn (node_map f.after d)).attrs

-- a unit with the forms of its values, and then with the new numbers of its texts, where just those stay that are used
abbrev pub given_unit : KeyedForms EntryName → NewNumbers → DwUnit EntryName → DwUnit EntryName
given_unit ff None u = fit_unit ff u
given_unit ff (Some number) u = renumbered_unit number (fit_unit ff u)

-- A unit whose items show it, where what it has is known: the order shows the unit with its forms.
abbrev pub UnitLaw : Type 0
UnitLaw =
    (keys : Keys EntryName) (k : EntryTable) (files : List FileRead) (ff : KeyedForms EntryName) (rn : NewNumbers) (here : ℕ) (o : UnitItems)
    (names : Names EntryName) (u : DwUnit EntryName)
    → KnowsUnit keys k files here o (unit_forms ff u) rn names → is_common k here ≡ ff.is_common → SortShows keys o.sort u.kind
    → keys.root here ≡ u.root.at → ShowsOrder names o.items u
    → ShowsUnit keys k here o (given_unit ff rn u)

-- ---- files

-- What is known of the unit with that number, before its values have their forms: of the files whose entries it has, and of its items,
-- which show it.
pub record KnowsShown (keys : Keys EntryName) (k : EntryTable) (ff : KeyedForms EntryName) (rn : NewNumbers) (here : ℕ) (o : UnitItems)
    (u : DwUnit EntryName) : Type 0 where
  pub files : List FileRead
  pub names : Names EntryName
  pub known : KnowsUnit keys k files here o (unit_forms ff u) rn names
  pub common : is_common k here ≡ ff.is_common
  pub sort : SortShows keys o.sort u.kind
  pub root : keys.root here ≡ u.root.at
  pub order : ShowsOrder names o.items u

-- units one by one, the first of which has that number
abbrev pub KnowUnits : Keys EntryName → EntryTable → KeyedForms EntryName → NewNumbers → ℕ → List UnitItems → List (DwUnit EntryName) → Type 0
KnowUnits keys k ff rn here [] [] = Unit {0}
KnowUnits keys k ff rn here (o ∷ order) (u ∷ units) = KnowsShown keys k ff rn here o u × KnowUnits keys k ff rn (suc here) order units
KnowUnits keys k ff rn here _ _ = ⊥

-- a file whose values have no forms yet: its number, its units, how their forms are chosen, and the new numbers of its texts, where just
-- those stay that are used
pub record Unfitted : Type 0 where
  pub number : ℕ
  pub forms : Forms EntryName
  pub texts : NewNumbers
  pub units : List (DwUnit EntryName)

abbrev pub given_units : Forms EntryName → NewNumbers → List (DwUnit EntryName) → List (DwUnit EntryName)
given_units forms None units = fit_units forms units
given_units forms (Some number) units = renumbered_units number (fit_units forms units)

abbrev pub fitted_file : Unfitted → FileOut EntryName
fitted_file x = record { number = x.number; units = given_units x.forms x.texts x.units }

-- files one by one, where the first unit has that number
abbrev pub KnowFiles : Keys EntryName → EntryTable → ℕ → List (List UnitItems) → List Unfitted → Type 0
KnowFiles keys k here [] [] = Unit {0}
KnowFiles keys k here (order ∷ orders) (x ∷ files) = KnowUnits keys k (with_keys x.forms (units_keys x.units)) x.texts here order x.units
    × KnowFiles keys k (here + length order) orders files
KnowFiles keys k here _ _ = ⊥

-- Where that is known of all units, the order shows the files with the forms of their values.
abbrev pub FilesLaw : Type 0
FilesLaw = (keys : Keys EntryName) (k : EntryTable) (here : ℕ) (orders : List (List UnitItems)) (files : List Unfitted)
    → KnowFiles keys k here orders files → ShowFiles keys k here orders (map fitted_file files)

-- ---- names, and what is stored

-- what stands after for a place has the name that the image has of its name before
abbrev pub NodeAfter : Type 0
NodeAfter = (image : EntryName → EntryName) (name : ℕ → EntryName) (d : Node ℕ)
    → node_map image (node_map name d) ≡ node_map (λ p. image (name p)) d

abbrev pub EntriesAfter : Type 0
EntriesAfter = (image : EntryName → EntryName) (name : ℕ → EntryName) (g : Entries ℕ)
    → entries_map image (entries_map name g) ≡ entries_map (λ p. image (name p)) g

-- each value of a row is stored as bytes that spell the units have it
abbrev pub StoredLaw : Type 0
StoredLaw =
    (abbrevs info : List ℕ) (mode : Mode) (raw : List RawUnit) → mode.forms ≡ own_forms → SpellsUnits abbrevs mode 0 raw 0 info
    → AreBytes info → (i : ℕ) (r : EntryRow) → slice_get (rows_of raw) i ≡ Some r
    → Each IsStored (without_siblings r.entry.attrs)
